-- Laws of marks: they compose as the lists of links that they mark. Assumes nothing.
use Rattle.std.specs.Prelude.{if◌then◌else◌, Option, Some, None, SomeIff}
use mathlib.Core.Path.{◌≡◌, refl, sym, ap, ◌∙◌}
use mathlib.Core.List.{List, [], ◌∷◌, ◌++◌}
use mathlib.Core.Bool.{Bool, true, false, ◌||◌, or_assoc}
use Prim.Native.Nat.{ℕ, zero, suc, ◌+◌, ◌-◌, ◌<◌, ◌≤◌}
use native.Mathlib.Numerals.{add-one}
use native.Mathlib.Omega.{arith}
use borrow.Author.Tests.{eq-eqb, ne_eqb, eqb-true, eqb-false}
use lib.Dec.{eqb}
use lib.ListN.{length, get_or, drop, set, replicate, drop_of_length-le, get_or-replicate, length-replicate, length-set}
use lib.Seq.{drop-cons, get_or-set_same, get_or-set_other}
use Rattle.laws.specs.Lists.{member_append}
use Rattle.spec.specs.Lists.{member, concat_map}
use Rattle.spec.specs.Words.{number, pred}
use Rattle.spec.specs.declared.Task.{Task}
use Rattle.spec.specs.Held.{chain, task_buckets}
use Rattle.held_marks.specs.Marks.{marked, Marks, Exactly, link_of}

or_false : (a : Bool) → (a || false) ≡ a
or_false true = refl
or_false false = refl

pub none : (n : ℕ) → Exactly (replicate n false) []
unfolding member
none n = record { each = λ k z h. get_or-replicate n (k - 1) false false (let e = length-replicate n false in omega arith) }

pub same : (m : List Bool) → Marks m m []
unfolding member
same m = record { long = refl; each = λ k z h. sym (or_false (marked m k)) }

-- one after the other
pub both : {m r q : List Bool} {xs ys : List ℕ} → Marks m r xs → Marks r q ys → Marks m q (xs ++ ys)
both {m} {r} {q} {xs} {ys} a b =
    record {
      long = b.long ∙ a.long;
      each = λ k z h. b.each k z (let e = a.long in omega arith) ∙ ap (λ (t : Bool). t || member k ys) (a.each k z h)
          ∙ or_assoc (marked m k) (member k xs) (member k ys)
          ∙ ap (λ (t : Bool). marked m k || t) (sym (member_append k xs ys));
    }

pub onto : {m r : List Bool} {xs ys : List ℕ} → Exactly m xs → Marks m r ys → Exactly r (xs ++ ys)
onto {m} {r} {xs} {ys} a b =
    record {
      each = λ k z h.
          let l : k ≤ length m = (let e = b.long in omega arith) in
          b.each k z l ∙ ap (λ (t : Bool). t || member k ys) (a.each k z l) ∙ sym (member_append k xs ys);
    }

-- nothing is left to be marked
pub finish : {m out : List Bool} (xs ls : List ℕ) → xs ≡ [] → ((q : List Bool) → Marks out q xs → Marks m q ls) → Marks m out ls
finish {m} {out} xs ls e inv = inv out (rw e (same out))

-- ---- one link

-- a link without a mark: none, or past the last
pub mark_none : (m : List Bool) (l : ℕ) → (l ≡ 0) → Marks m m (l ∷ [])
unfolding member
mark_none m l e = record { long = refl; each = λ k z h. sym (rw (ne_eqb k l (λ q. omega arith)) (or_false (marked m k))) }

pub mark_past : (m : List Bool) (l : ℕ) → length m < l → Marks m m (l ∷ [])
unfolding member
mark_past m l p = record { long = refl; each = λ k z h. sym (rw (ne_eqb k l (λ q. omega arith)) (or_false (marked m k))) }

pub mark_one : (m : List Bool) (l : ℕ) → (l ≡ 0 → ⊥) → l ≤ length m → Marks m (set m (l - 1) true) (l ∷ [])
unfolding member
mark_one m l z p = record { long = length-set m (l - 1) true; each = λ k y h. go k y (eqb k l) refl }
  where
    or-true : (a : Bool) → (a || true) ≡ true
    or-true true = refl
    or-true false = refl

    go : (k : ℕ) → 0 < k → (b : Bool) → eqb k l ≡ b → marked (set m (l - 1) true) k ≡ (marked m k || member k (l ∷ []))
    go k y true e =
        let q : k ≡ l = eqb-true k l e in
        rw (q, eq-eqb l l refl) (get_or-set_same m (l - 1) true false (omega (arith, z)) ∙ sym (or-true (marked m l)))
    go k y false e =
        let q : k ≡ l → ⊥ = eqb-false k l e in
        rw e (get_or-set_other m (l - 1) (k - 1) true false (λ g. q (omega (arith, z, g))) ∙ sym (or_false (marked m k)))

-- ---- a chain

pub chain_on : (w : List ℕ) (n l : ℕ) → 0 < n → (l ≡ 0 → ⊥) → chain w n l ≡ l ∷ chain w (n - 1) (pred w (number l))
unfolding chain
chain_on w zero l h z = absurd (omega arith)
chain_on w (suc n) l h z = let e : suc n - 1 ≡ n = omega arith in rw (e, ne_eqb l 0 z)

pub chain_none : (w : List ℕ) (n l : ℕ) → l ≡ 0 → chain w n l ≡ []
unfolding chain
chain_none w zero l z = refl
chain_none w (suc n) l z = rw (eq-eqb l 0 z)

pub chain_end : (w : List ℕ) (n l : ℕ) → n ≤ 0 → chain w n l ≡ []
unfolding chain
chain_end w n l h = let e : n ≡ 0 = omega arith in rw e

pub chain_turn : {m out o : List Bool} (w : List ℕ) (n l : ℕ) (ls : List ℕ) → 0 < n → (l ≡ 0 → ⊥)
    → ((q : List Bool) → Marks out q (chain w n l) → Marks m q ls)
    → Marks out o (l ∷ [])
    → (q : List Bool) → Marks o q (chain w (n - 1) (pred w (number l))) → Marks m q ls
chain_turn w n l ls h z inv one q r = inv q (rw (chain_on w n l h z) (both one r))

-- ---- a task's buckets

pub buckets_of_running : (c : Task) → c.running ≡ true → task_buckets c ≡ c.b ∷ c.m ∷ c.n ∷ c.new_bucket ∷ []
unfolding task_buckets
buckets_of_running c e = ap (λ (b : Bool). if b then (c.b ∷ c.m ∷ c.n ∷ c.new_bucket ∷ []) else []) e

pub buckets_of_idle : (c : Task) → c.running ≡ false → task_buckets c ≡ []
unfolding task_buckets
buckets_of_idle c e = ap (λ (b : Bool). if b then (c.b ∷ c.m ∷ c.n ∷ c.new_bucket ∷ []) else []) e

-- ---- the tasks in turn

module _ {A : Type 0} (ts : List A) (k : ℕ) (d : A) (h : k < length ts) where
  pub tasks_next : (f : A → List ℕ) → concat_map f (drop k ts) ≡ f (get_or ts k d) ++ concat_map f (drop (k + 1) ts)
  unfolding concat_map
  tasks_next f = rw (add-one, drop-cons ts k d h)

pub tasks_last : {A : Type 0} (ts : List A) (k : ℕ) (f : A → List ℕ) → length ts ≤ k → concat_map f (drop k ts) ≡ []
unfolding concat_map
tasks_last ts k f h = rw (drop_of_length-le ts h)

-- ---- a list for each task, one after the other

module _ {A : Type 0} (f : A → List ℕ) where
  pub tasks_turn : {m out o : List Bool} (ts : List A) (k : ℕ) (d : A) (ls : List ℕ) → k < length ts
      → ((q : List Bool) → Marks out q (concat_map f (drop k ts)) → Marks m q ls)
      → Marks out o (f (get_or ts k d))
      → (q : List Bool) → Marks o q (concat_map f (drop (k + 1) ts)) → Marks m q ls
  tasks_turn ts k d ls l inv one q r = inv q (rw (tasks_next ts k d l f) (both one r))

-- ---- the record that is taken, by its number

pub by_number : (r : Option ℕ) {l : ℕ} → link_of r ≡ l → SomeIff r (1 ≤ l) (l - 1)
by_number None e = λ h. omega (arith, e, h)
by_number (Some k) e = (omega (arith, e), omega (arith, e))
