-- Each call of the planner against its definition: the plain set in a bucket answers as the plain set, and what is kept stays ready.
-- Assumes nothing.
use Rattle.std.specs.Prelude.{if◌then◌else◌}
use Prim.Native.Nat.{ℕ, ◌*◌, ◌/◌, ◌≤◌}
use native.Mathlib.Nat.{mod-lt}
use native.Mathlib.Omega.{arith}
use mathlib.Core.Path.{◌≡◌, refl, sym, ap, ◌∙◌}
use mathlib.Core.List.{List, [], ◌∷◌}
use mathlib.Core.Bool.{Bool, true, false}
use borrow.Author.Tests.{ne_eqb}
use lib.Dec.{eqb, leb}
use lib.ListN.{length, get_or, length-set}
use lib.Seq.{get_or-take, take-set-lt}
use Rattle.spec.specs.declared.Call.{Call}
use Rattle.spec.specs.declared.Call.TheVariants.{Insert, Remove, Contains, Grow, Shrink}
use Rattle.spec.specs.declared.Config.{Config}
use Rattle.spec.specs.Lists.{member, add_tag, remove_tag}
use Rattle.spec.specs.Numbers.{call_number}
use Rattle.spec.specs.Words.{bucket_of}
use Rattle.spec.specs.Sound.{listed_size}
use Rattle.spec.specs.Listed.{slot}
use Rattle.spec.specs.Lines.{at_limit, resized}
use Rattle.spec.specs.Plain.{Plain, found_answer, insert_answer, inserted, plain_insert, plain_remove, plain_contains, plain}
use Rattle.laws.specs.Tests.{or_none}
use Rattle.laws.specs.Sizes.{ListedSize, size_1, size_2, size_4, size_8, size_16, size_32, listed_is, is_listed, listed_low, listed_high}
use Rattle.laws.specs.Ascending.{Rising, rising_ascending}
use Rattle.laws.specs.PlainSet.{plain_rising, plain_few}
use Rattle.bucket.specs.declared.Bucket.{Bucket}
use Rattle.bucket.specs.declared.Changed.{Changed}
use Rattle.bucket.specs.Bucket.{tags_in, found, added, removed}
use Rattle.bucket.proofs.Laws.{found_member}
use Rattle.bucket.proofs.Pad.{tags_of_bucket}
use Rattle.plans.specs.Plan.{figures, head_size, update_figures, contains_figures, resize_figures, call_figures}
use Rattle.plans.specs.Plan.{after_update, after_resize, after_call}
use Rattle.plan_heads.specs.declared.Head.{Head}
use Rattle.planner.specs.declared.Standing.{Standing}
use Rattle.planner.specs.declared.Outcome.{Outcome}
use Rattle.planner.specs.Standing.{shape, Ready, Fits, answer_of, Updated, Limited, Resized, Plans}
use Rattle.planner.proofs.Places.{size_shape, take_none}

pub place_fits : (g : Config) (tag : ℕ) (h : Head) (i : ℕ) → listed_size h.size ≡ true → i ≡ slot g tag h.size → Fits h i
unfolding slot
place_fits g tag h i l e =
    let is = listed_is h.size l in
    record { within = rw e (mod-lt _ (listed_low is)); most = listed_high is }

-- ---- sizes

pub twice : {n : ℕ} → ListedSize n → (n ≡ 32 → ⊥) → ListedSize (2 * n)
twice (size_1 p) d = size_2 (omega arith)
twice (size_2 p) d = size_4 (omega arith)
twice (size_4 p) d = size_8 (omega arith)
twice (size_8 p) d = size_16 (omega arith)
twice (size_16 p) d = size_32 (omega arith)
twice (size_32 p) d = absurd (d p)

pub half : {n : ℕ} → ListedSize n → (n ≡ 1 → ⊥) → ListedSize (n / 2)
half (size_1 p) d = absurd (d p)
half (size_2 p) d = size_1 (rw p)
half (size_4 p) d = size_2 (rw p)
half (size_8 p) d = size_4 (rw p)
half (size_16 p) d = size_8 (rw p)
half (size_32 p) d = size_16 (rw p)

-- ---- the plain set in a bucket

remove_absent : (x : ℕ) (ks : List ℕ) → member x ks ≡ false → remove_tag x ks ≡ ks
unfolding member remove_tag
remove_absent x [] e = refl
remove_absent x (k ∷ ks) e =
    let n = or_none (eqb x k) (member x ks) e in
    rw (n.0, remove_absent x ks n.1)

-- the bucket answers as the plain set, has its tags then, and may change
record As (c : Changed) (p : Plain) : Type 0 where
  answer : answer_of c.answer ≡ p.answer
  tags : tags_in c.bucket.words ≡ p.tags
  changeable : get_or c.bucket.words 0 0 ≡ 1

module _ (b : Bucket) (x : ℕ) (changeable : get_or b.words 0 0 ≡ 1) (rising : Rising (tags_in b.words)) where
  abbrev ts : List ℕ
  ts = tags_in b.words

  pub has_plain : found x ts ≡ member x ts
  has_plain = found_member x ts (rising_ascending ts rising)

  not_frozen : eqb (get_or b.words 0 0) 0 ≡ false
  not_frozen = rw changeable

  first_word : (ks : List ℕ) → get_or (bucket_of 1 ks) 0 0 ≡ 1
  unfolding bucket_of
  first_word ks = refl

  add_as : As (added b x) (plain ts Insert x)
  unfolding added plain plain_insert insert_answer inserted
  add_as = go (member x ts) (leb 64 (length ts)) refl refl
    where
      go : (p q : Bool) → member x ts ≡ p → leb 64 (length ts) ≡ q → As (added b x) (plain ts Insert x)
      go true q e f = rw (not_frozen, has_plain, e) (record { answer = refl; tags = refl; changeable = changeable })
      go false true e f = rw (not_frozen, has_plain, e, f) (record { answer = refl; tags = refl; changeable = changeable })
      go false false e f =
          rw (not_frozen, has_plain, e, f) (record { answer = refl; tags = tags_of_bucket 1 (add_tag x ts); changeable = first_word (add_tag x ts) })

  remove_as : As (removed b x) (plain ts Remove x)
  unfolding removed plain plain_remove
  remove_as = go (member x ts) refl
    where
      go : (p : Bool) → member x ts ≡ p → As (removed b x) (plain ts Remove x)
      go true e =
          rw (not_frozen, has_plain, e)
          (record { answer = refl; tags = tags_of_bucket 1 (remove_tag x ts); changeable = first_word (remove_tag x ts) })
      go false e =
          rw (not_frozen, has_plain, e) (record { answer = refl; tags = sym (remove_absent x ts e); changeable = changeable })

-- ---- the calls

module _ (g : Config) (s : Standing) (ok : Ready s) (tag : ℕ) where
  abbrev h : Head
  h = s.head

  abbrev tags : List ℕ
  tags = tags_in s.set.words

  pub most : h.size ≤ 32
  most = listed_high (listed_is h.size ok.listed)

  size_is : head_size (shape s) ≡ h.size
  size_is = size_shape h tags ok.room most

  abbrev place : ℕ
  place = slot g tag h.size

  fits : Fits h place
  fits = place_fits g tag h place ok.listed refl

  module _ (r : Outcome) where
    -- an insert or a remove
    module _ (call : Call) (c : Changed) (u : Updated g h tag c r) (said : As c (plain tags call tag)) where
      updated_figures : r.figures ≡ update_figures (shape s) (slot g tag (head_size (shape s))) (plain tags call tag).answer
      updated_figures = rw (size_is, ← said.answer) (u.figures tags)

      updated_next : shape r.next ≡ after_update g (shape s) call tag
      unfolding after_update
      updated_next = rw (u.next, size_is, take-set-lt h.size h.filled place true fits.within, said.tags)

      updated_ready : Ready r.next
      updated_ready =
          rw u.next
          (record {
            listed = ok.listed;
            room = length-set h.filled place true ∙ ok.room;
            changeable = said.changeable;
            rising = rw said.tags (plain_rising tags call tag ok.rising);
            few = rw said.tags (plain_few tags call tag ok.few);
          })

    pub insert_plans : Updated g h tag (added s.set tag) r → Plans g s Insert tag r
    unfolding call_figures after_call
    insert_plans u =
        let said = add_as s.set tag ok.changeable ok.rising in
        record { figures = updated_figures Insert _ u said; next = updated_next Insert _ u said; ready = updated_ready Insert _ u said }

    pub remove_plans : Updated g h tag (removed s.set tag) r → Plans g s Remove tag r
    unfolding call_figures after_call
    remove_plans u =
        let said = remove_as s.set tag ok.changeable ok.rising in
        record { figures = updated_figures Remove _ u said; next = updated_next Remove _ u said; ready = updated_ready Remove _ u said }

    -- a contains
    pub contains_plans : (b : Bool) → b ≡ get_or h.filled place false
        → r.figures ≡ figures (found_answer (found tag tags)) (if b then 3 else 5) 0 → r.next ≡ s → Plans g s Contains tag r
    unfolding call_figures after_call contains_figures plain plain_contains
    contains_plans b e f n =
        record {
          figures =
              f
              ∙ rw (size_is, get_or-take h.size h.filled place false fits.within, ← e, has_plain s.set tag ok.changeable ok.rising);
          next = ap shape n;
          ready = rw n ok;
        }

    -- a resize
    module _ (call : Call) where
      limited_figures : at_limit (call_number call) h.size ≡ true → Limited s r → r.figures ≡ resize_figures (shape s) call
      unfolding resize_figures
      limited_figures e l = l.figures ∙ rw (size_is, e)

      limited_next : at_limit (call_number call) h.size ≡ true → Limited s r → shape r.next ≡ after_resize (shape s) call
      unfolding after_resize
      limited_next e l = ap shape l.next ∙ rw (size_is, e)

      module _ (size : ℕ) (e : at_limit (call_number call) h.size ≡ false) (new : resized (call_number call) h.size ≡ size)
          (listed : listed_size size ≡ true) (d : Resized s size r) where
        resized_figures : r.figures ≡ resize_figures (shape s) call
        unfolding resize_figures
        resized_figures = d.figures ∙ rw (size_is, e)

        resized_next : shape r.next ≡ after_resize (shape s) call
        unfolding after_resize
        resized_next = rw (d.next, size_is, e, new, take_none size 32 (listed_high (listed_is size listed)))

        resized_ready : Ready r.next
        resized_ready =
            rw d.next
            (record { listed = listed; room = refl; changeable = ok.changeable; rising = ok.rising; few = ok.few })

    pub grow_limited : h.size ≡ 32 → Limited s r → Plans g s Grow tag r
    unfolding call_figures after_call at_limit
    grow_limited e l =
        let t : at_limit 4 h.size ≡ true = rw e in
        record { figures = limited_figures Grow t l; next = limited_next Grow t l; ready = rw l.next ok }

    pub shrink_limited : h.size ≡ 1 → Limited s r → Plans g s Shrink tag r
    unfolding call_figures after_call at_limit
    shrink_limited e l =
        let t : at_limit 5 h.size ≡ true = rw e in
        record { figures = limited_figures Shrink t l; next = limited_next Shrink t l; ready = rw l.next ok }

    pub grow_plans : (h.size ≡ 32 → ⊥) → Resized s (2 * h.size) r → Plans g s Grow tag r
    unfolding call_figures after_call at_limit resized
    grow_plans n d =
        let t : at_limit 4 h.size ≡ false = ne_eqb h.size 32 n in
        let l = is_listed (twice (listed_is h.size ok.listed) n) in
        record {
          figures = resized_figures Grow _ t refl l d;
          next = resized_next Grow _ t refl l d;
          ready = resized_ready Grow _ t refl l d;
        }

    pub shrink_plans : (h.size ≡ 1 → ⊥) → Resized s (h.size / 2) r → Plans g s Shrink tag r
    unfolding call_figures after_call at_limit resized
    shrink_plans n d =
        let t : at_limit 5 h.size ≡ false = ne_eqb h.size 1 n in
        let l = is_listed (half (listed_is h.size ok.listed) n) in
        record {
          figures = resized_figures Shrink _ t refl l d;
          next = resized_next Shrink _ t refl l d;
          ready = resized_ready Shrink _ t refl l d;
        }
