-- Each line of an insert or a remove is not refused with 8, and does in the words what it does in the model. Line 36 finds room for
-- its tag: its bucket's tags are among the listed ones, and fewer than 64 are listed. Assumes nothing.
use Rattle.std.specs.Prelude.{◌≡◌, ◌⊎◌, Bool, true, false, List, ℕ, ◌≤◌, ◌<◌, length}
use Rattle.std.proofs.Math.Path.{refl, sym}
use Rattle.std.proofs.Common.{ap, ◌∙◌, subst, inl, inr, arith, eq-eqb, ne_eqb}
use Rattle.std.proofs.Math.Decide.{ℕ_discrete}
use Rattle.spec.specs.declared.Task.{Task}
use Rattle.spec.specs.Lists.{member, add_tag, remove_tag}
use Rattle.spec.specs.Machine.{Machine, with_line, with_i, with_t, with_s, with_b, with_m, with_n, with_new_bucket, without_places}
use Rattle.spec.specs.Words.{Write, link, number, put_tags}
use Rattle.spec.specs.Words as Words
use Rattle.spec.specs.Listed.{slot, size_of, place_of, tags_of, listed}
use Rattle.spec.specs.Lines.{Effect, answers_of, frozen, line_32, line_33, answer_36, insert_36, remove_36, line_36, line_51}
use Rattle.spec.specs.Plain.{insert_answer}
use Rattle.spec.specs.StepRefusals.{gains, overfull_36}
use Rattle.laws.specs.StepAt.{step_table, sound_at, does_at}
use Rattle.laws.specs.Answers.{gains_yes, gains_room, insert_writes_tag, insert_writes_nothing}
use Rattle.laws.specs.StepRefusals.{has_room_36}
use Rattle.spec.specs.declared.Answer.TheVariants.{Yes}
use Rattle.laws.specs.SoundFacts.{SoundFacts, BucketFacts}
use Rattle.laws.specs.Ascending.{Rising, ascending_rising, member_add, member_remove, length_add, length_remove}
use Rattle.laws.specs.Tests.{bool?, tf}
use Rattle.model.specs.PlaceState.{PlaceState, empty, changeable, Filled, filled?, Seen, is_empty, is_changeable, is_frozen, seen, filled_not_empty}
use Rattle.model.specs.Heap.{Heap, state_for, slot_in}
use Rattle.model.specs.HeapInvariant.{HeapInvariant, place<}
use Rattle.model.specs.Positions.{Fill, at_39, at_50, at_51, Update, at_32, at_33, at_36, update}
use Rattle.model.specs.Lines.{Listed, step_32, step_33_filled, step_33_empty, step_36_frozen, update_fills, step_51_update, end_36_kept, end_36_added}
use Rattle.model.specs.Lines.{end_36_removed, end_36_absent}
use Rattle.model.specs.Filling.{FillFacts}
use Rattle.model.specs.PositionFacts.{UpdateFacts, bucket_few}
use Rattle.linear.specs.Represents.{record_has, Represents, bucket_in_pool, Records}
use Rattle.linear.specs.EffectOf.{EffectOf, moves_to, ends_call, ends_writing, freezes, fills, takes_bucket, Accepts}
use Rattle.linear.specs.ReadLinks.{not_none, link_number, size_at, place_filled, for_filled, for_empty, tags_at, has_at, head_at}
use Rattle.linear.specs.LookupLines.{filled_is}
use Rattle.linear.specs.ListedTags.{the_list}
use Rattle.linear.specs.FillEffects.{Which51, last, before, which_51, FillEffectOf, fill_moves, fill_freezes, fill_fills, fill_takes_bucket}
use Rattle.linear.specs.FillLines.{fill_accepts}
use Rattle.linear.specs.KnownNodes.{FillNames, Names, fill_takes, takes_at}
use Rattle.linear.specs.Matches.{at_line, update_call, FillMatches, UpdateMatches}
use Rattle.linear.specs.Taken.{Taken}

pub fill_in_update : {y : Machine} {h : Heap} {K : ℕ → Type 0} {R : Records} {rep : Represents y h K R} (b : Bool) (k : ℕ) {t i : ℕ} {c : Task} {l : Fill}
    {e : Effect}
    → FillEffectOf rep (update_call b) k t i c l e → EffectOf rep c (update b k (Update.filling t i l)) e
fill_in_update b k {t} {i} (fill_moves l' st names m n) = moves_to (update b k (Update.filling t i l')) (update_fills st) names m n
fill_in_update b k {t} {i} (fill_freezes l' x j kx bx px st names m n) = freezes (update b k (Update.filling t i l')) x j kx bx px (update_fills st) names m n
fill_in_update b k {t} {i} (fill_fills l' s r q q' bi e z nb new st names m n) =
    fills (update b k (Update.filling t i l')) t s i r q q' bi e z nb new (update_fills st) names m n
fill_in_update b k {t} {i} (fill_takes_bucket s r ks st names m nb lt free few own foreign) =
    takes_bucket (update b k (Update.filling t i (at_50 s))) s t i r ks (update_fills st) names m nb lt free few own foreign refl

module _ {y : Machine} {h : Heap} {K : ℕ → Type 0} {R : Records} (f : SoundFacts y) (inv : HeapInvariant h) (rep : Represents y h K R) (c : Task) (k : ℕ) where
  -- ---- line 36
  module _ (x : ℕ) (kx : K x) (p : Filled (state_for h x k)) (b≡ : c.b ≡ link (R.bucket x (slot_in h x k))) where
    bx : slot_in h x k < h.size x
    bx = place< h inv x (h.key k) (rep.known_bound x kx)

    b_number : number c.b ≡ R.bucket x (slot_in h x k)
    b_number = rw b≡ (link_number _)

    reads_frozen : state_for h x k ≡ PlaceState.frozen → frozen y c.b ≡ true
    reads_frozen e = eq-eqb (Words.changeable y.buckets (number c.b)) 0 (rw b_number (rep.first_word≡ x (slot_in h x k) kx bx p ∙ rw e))

    reads_changeable : state_for h x k ≡ changeable → frozen y c.b ≡ false
    reads_changeable e =
        let q : Words.changeable y.buckets (number c.b) ≡ 1 = rw b_number (rep.first_word≡ x (slot_in h x k) kx bx p ∙ rw e) in
        ne_eqb (Words.changeable y.buckets (number c.b)) 0 (λ z. omega arith)

    facts : BucketFacts y (R.bucket x (slot_in h x k))
    facts = f.bucket (R.bucket x (slot_in h x k)) (bucket_in_pool f rep x (slot_in h x k) kx bx p)

    rises : Rising (Words.tags y.buckets (R.bucket x (slot_in h x k)))
    rises = ascending_rising _ facts.rising

    -- the bucket's tags are no more than the listed ones
    room : state_for h x k ≡ changeable → length (Words.tags y.buckets (R.bucket x (slot_in h x k))) ≤ length (listed y)
    room e =
        let l = the_list inv rep f in
        bucket_few h inv x (slot_in h x k) (rep.known_bound x kx) e (Words.tags y.buckets (R.bucket x (slot_in h x k))) (listed y) rises
        (λ j m. go j m (ℕ_discrete (slot_in h x j) (slot_in h x k))) l.0 l.1
      where
        go : (j : ℕ) → record_has y (R.bucket x (slot_in h x k)) j ≡ true → Dec (slot_in h x j ≡ slot_in h x k)
            → (slot_in h x j ≡ slot_in h x k) × (h.has x j ≡ true)
        go j m (yes q) = (q, sym ((rep.tags x (slot_in h x k) kx bx p).inside j q) ∙ m)
        go j m (no n) = absurd (tf m ((rep.tags x (slot_in h x k) kx bx p).outside j n))

    -- line 36 answers by the number of listed tags and by whether the model's bucket has the tag
    answer_at : c.tag ≡ k → answer_36 y c ≡ insert_answer (length (listed y)) (h.has x k)
    unfolding answer_36
    answer_at e = rw (has_at inv rep x k kx p b≡ e)

    few : answer_36 y c ≡ Yes → length (listed y) < 64
    unfolding answer_36
    few a = gains_room (length (listed y)) _ (ap gains a)

    -- an insert that gains its tag finds room in its bucket: fewer than 64 tags are listed, and the bucket's are among them
    not_overfull : overfull_36 y c ≡ false
    not_overfull = has_room_36 y c (λ may q a. go (seen (state_for h x k)) may a)
      where
        go : Seen (state_for h x k) → frozen y c.b ≡ false → answer_36 y c ≡ Yes → length (tags_of y c.b) < 64
        go (is_empty e) may a = absurd (filled_not_empty p e)
        go (is_frozen e) may a = absurd (tf (reads_frozen e) may)
        go (is_changeable e) may a =
            let r = room e in
            let l = few a in
            rw (tags_at inv rep (R.bucket x (slot_in h x k)) b≡) (omega arith)

  -- ---- line 51
  update_51 : (b : Bool) (t i : ℕ) → FillMatches h R (update_call b) k t i at_51 c → UpdateFacts h k (Update.filling t i at_51) → ((x : ℕ) → x ≡ t → K x)
      → Accepts rep c (update b k (Update.filling t i at_51))
  unfolding step_table line_51 with_line with_s with_b with_m with_n with_new_bucket
  update_51 b t i m o names =
      let kt = names t refl in
      let bi : c.i < size_of y c.t = rw (size_at inv rep t kt m.t≡, m.i≡) o.0.1 in
      record {
        sound_step = sound_at y c 51 m.call_fields.line≡ (not_none (R.node t) m.t≡, bi);
        effect_of = λ x. rw (does_at y c 51 m.call_fields.line≡) (go b m.call_fields.call≡);
      }
    where
      b≡ : place_of y c.t c.i ≡ link (R.bucket t (slot_in h t k))
      b≡ = place_filled inv rep t (slot_in h t k) (names t refl) (place< h inv t (h.key k) o.0.0) m.t≡ (m.i≡ ∙ sym o.1) (rw o.1 o.2)

      go : (b : Bool) → c.call ≡ update_call b → EffectOf rep c (update b k (Update.filling t i at_51)) (line_51 y c)
      go true q =
          rw (ne_eqb c.call 4 (λ u. omega arith), ne_eqb c.call 5 (λ u. omega arith))
          (moves_to (update true k (at_36 t)) step_51_update names
          (record { runs = m.call_fields.runs; call≡ = q; tag≡ = m.call_fields.tag≡; line≡ = refl }, m.t≡, b≡) refl)
      go false q =
          rw (ne_eqb c.call 4 (λ u. omega arith), ne_eqb c.call 5 (λ u. omega arith))
          (moves_to (update false k (at_36 t)) step_51_update names
          (record { runs = m.call_fields.runs; call≡ = q; tag≡ = m.call_fields.tag≡; line≡ = refl }, m.t≡, b≡) refl)

  pub update_accepts : (b : Bool) (l : Update) → UpdateMatches h R b k l c → UpdateFacts h k l → ((x : ℕ) → Names (update b k l) x → K x)
      → Taken y h K R (takes_at (update b k l)) c → Accepts rep c (update b k l)
  unfolding step_table line_32 line_33 line_36 insert_36 remove_36 with_line with_i with_t with_b without_places
  update_accepts b at_32 m o names v = record {
    sound_step = sound_at y c 32 m.0.line≡ tt;
    effect_of = λ x. rw (does_at y c 32 m.0.line≡)
        (moves_to (update b k (at_33 h.head)) step_32 (λ x q. rw q rep.head_known) (at_line m.0 refl refl refl, head_at inv rep, m.1) refl);
  }
  update_accepts b (at_33 t) m o names v = record {
    sound_step = sound_at y c 33 m.0.line≡ (not_none (R.node t) m.1);
    effect_of = λ x. rw (does_at y c 33 m.0.line≡) (go (filled? (state_for h t k)));
  }
    where
      go : (state_for h t k ≡ empty) ⊎ Filled (state_for h t k) → EffectOf rep c (update b k (at_33 t)) (line_33 y c)
      go (inl e) =
          let q = for_empty inv rep t k (names t refl) m.1 m.0.tag≡ e in
          let i≡ : slot y.state.config c.tag (size_of y c.t) ≡ slot_in h t k =
          rw (m.0.tag≡, size_at inv rep t (names t refl) m.1) (rep.slot≡ k (h.size t)) in
          rw q (moves_to (update b k (Update.filling t (slot_in h t k) at_39)) (step_33_empty e) names
          (record {
            call_fields = at_line m.0 refl refl refl;
            t≡ = m.1;
            i≡ = i≡;
            fields = m.2;
          })
          refl)
      go (inr p) =
          let q = for_filled inv rep t k (names t refl) m.1 m.0.tag≡ p in
          rw (filled_is _ q)
          (moves_to (update b k (at_36 t)) (step_33_filled p) names (at_line m.0 refl refl refl, m.1, q) refl)
  update_accepts b (at_36 x) m o names v = record {
    sound_step = sound_at y c 36 m.0.line≡ (not_none _ m.2, not_overfull x (names x refl) o.1 m.2);
    effect_of = λ z. rw (does_at y c 36 m.0.line≡) (go b m.0.call≡ (seen (state_for h x k)));
  }
    where
      kx : K x
      kx = names x refl

      hasit : member c.tag (tags_of y c.b) ≡ h.has x k
      hasit = has_at inv rep x k kx o.1 m.2 m.0.tag≡

      T : List ℕ
      T = Words.tags y.buckets (R.bucket x (slot_in h x k))

      l : Listed h (listed y)
      l = the_list inv rep f

      answer : answer_36 y c ≡ insert_answer (length (listed y)) (h.has x k)
      answer = answer_at x kx o.1 m.2 m.0.tag≡

      inserts : state_for h x k ≡ changeable → (gains (answer_36 y c) ≡ true) ⊎ (gains (answer_36 y c) ≡ false)
          → EffectOf rep c (update true k (at_36 x)) (insert_36 y c)
      inserts e (inr g) = rw (insert_writes_nothing y c (answer_36 y c) g, answer) (ends_call {k = k} (end_36_kept (listed y) e l (rw answer at g)))
      inserts e (inl g) =
          let is = gains_yes (answer_36 y c) g in
          let place_word : put_tags (number c.b) (add_tag c.tag (tags_of y c.b)) ≡ put_tags (R.bucket x (slot_in h x k)) (add_tag k T) =
          rw (b_number x kx o.1 m.2, m.0.tag≡, tags_at inv rep (R.bucket x (slot_in h x k)) m.2) in
          let lt = few x kx o.1 m.2 is in
          let r = room x kx o.1 m.2 e in
          let s = length_add k T in
          rw (insert_writes_tag y c (answer_36 y c) is, is) (subst (λ (u : Write). EffectOf rep c (update true k (at_36 x)) (answers_of c.b u Yes))
          (sym place_word)
          (ends_writing {k = k} x true (add_tag k T) kx e (omega arith) (λ j n. member_add j k T ∙ rw (ne_eqb j k n)) (member_add k k T ∙ rw (eq-eqb k k refl))
          (end_36_added (listed y) e l (sym answer ∙ is))))

      removes : state_for h x k ≡ changeable → (h.has x k ≡ true) ⊎ (h.has x k ≡ false) → EffectOf rep c (update false k (at_36 x)) (remove_36 y c)
      removes e (inr u) = rw (hasit, u) (ends_call {k = k} (end_36_absent e u))
      removes e (inl u) =
          let place_word : put_tags (number c.b) (remove_tag c.tag (tags_of y c.b)) ≡ put_tags (R.bucket x (slot_in h x k)) (remove_tag k T) =
          rw (b_number x kx o.1 m.2, m.0.tag≡, tags_at inv rep (R.bucket x (slot_in h x k)) m.2) in
          let s = length_remove k T in
          let w = (facts x kx o.1 m.2).few in
          let w' = (facts x kx o.1 m.2).long in
          let r = rises x kx o.1 m.2 in
          rw (hasit, u) (subst (λ (u : Write). EffectOf rep c (update false k (at_36 x)) (answers_of c.b u Yes)) (sym place_word)
          (ends_writing {k = k} x false (remove_tag k T) kx e (omega arith) (λ j n. member_remove j k T r ∙ rw (ne_eqb j k n))
          (member_remove k k T r ∙ rw (eq-eqb k k refl)) (end_36_removed e u)))

      go : (b : Bool) → c.call ≡ update_call b → Seen (state_for h x k) → EffectOf rep c (update b k (at_36 x)) (line_36 y c)
      go b q (is_empty e) = absurd (filled_not_empty o.1 e)
      go b q (is_frozen e) =
          rw (reads_frozen x kx o.1 m.2 e)
          (moves_to (update b k at_32) (step_36_frozen e) (λ x u. absurd u) (
            record { runs = m.0.runs; call≡ = q; tag≡ = m.0.tag≡; line≡ = refl },
            refl,
          ) refl)
      go true q (is_changeable e) = rw (reads_changeable x kx o.1 m.2 e, eq-eqb c.call 1 q) (inserts e (bool? _))
      go false q (is_changeable e) = rw (reads_changeable x kx o.1 m.2 e, ne_eqb c.call 1 (λ u. omega arith)) (removes e (bool? _))
  update_accepts b (Update.filling t i l) m o names v = go l (which_51 t l) m o.2 names v
    where
      go : (l : Fill) → Which51 t l → FillMatches h R (update_call b) k t i l c → FillFacts h t i l → ((x : ℕ) → FillNames t l x → K x)
          → Taken y h K R (fill_takes t i l) c
          → Accepts rep c (update b k (Update.filling t i l))
      go l (before z u) m p names v =
          let a = fill_accepts f inv rep (update_call b) k t i c o.0 (names t u) l z m p names v in
          record { sound_step = a.sound_step; effect_of = λ x. fill_in_update b k (a.effect_of x) }
      go l last m p names v = update_51 b t i m (o.0, o.1, p) names
