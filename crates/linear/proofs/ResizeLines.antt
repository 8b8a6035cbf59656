-- What rests on statements of specs/ResizeLines.antt that a must-fail edit makes false: theorems moved from there as they stood. Assumes nothing.
use Rattle.std.specs.Prelude.{◌≡◌, Bool, ◌||◌, ℕ, suc, ◌+◌, ◌<◌, ltb, if◌then◌else◌}
use Rattle.std.proofs.Math.Path.{refl}
use Rattle.std.proofs.Common.{sym, ap, ◌∙◌, subst, arith}
use Rattle.std.proofs.Math.Bool.{true, false}
use Rattle.std.proofs.Math.Decide.{ℕ_discrete, dec_lt}
use borrow.Author.Tests.{eq-eqb, ne_eqb, lt-ltb, le-ltb}
use Rattle.std.proofs.Math.Dec.{eqb}
use Rattle.spec.specs.declared.Task.{Task}
use Rattle.spec.specs.declared.Answer.TheVariants.{Lost, Limit}
use Rattle.spec.specs.Machine.{Machine, with_line, with_i, with_t, with_s, with_b, with_m, with_n, with_new_node, with_new_bucket}
use Rattle.spec.specs.Words.{Write, link, number, new_node}
use Rattle.spec.specs.Sound.{node_count, listed_size}
use Rattle.spec.specs.Held.{free_node}
use Rattle.spec.specs.Listed.{size_of, head_of}
use Rattle.spec.specs.Lines.{Effect, writes, at_limit, resized, line_20, line_24, line_27, line_28, line_51}
use Rattle.laws.specs.StepAt.{step_table, sound_at, does_at, taken_at}
use Rattle.laws.specs.SoundFacts.{SoundFacts}
use Rattle.laws.specs.Sizes.{ListedSize, size_listed}
use Rattle.laws.specs.Held.{HeldNode}
use Rattle.laws.specs.Taking.{Taking, none_free, takes}
use Rattle.laws.proofs.Taking.{node_taking}
use Rattle.model.specs.Heap.{Heap}
use Rattle.model.specs.HeapInvariant.{HeapInvariant}
use Rattle.model.specs.Positions.{Fill, at_39, at_51, Resize, at_20, at_24, at_27, at_28, resize}
use Rattle.model.specs.Lines.{Step, step_20, step_51_next, step_51_last, step_24_head, step_24_past, step_27_grow, step_27_shrink}
use Rattle.model.specs.Lines.{step_20_limit, step_28_lost}
use Rattle.model.specs.Filling.{FillFacts}
use Rattle.model.specs.PositionFacts.{ResizeFacts}
use Rattle.linear.specs.Represents.{Represents, Records}
use Rattle.linear.specs.EffectOf.{EffectOf, moves_to, ends_resize, sets_head, clears_pred, clears_no_pred, takes_node}
use Rattle.linear.specs.EffectOf.{Accepts}
use Rattle.linear.specs.ReadLinks.{not_none, link_number, size_at, head_at}
use Rattle.linear.specs.FillEffects.{Which51, last, before, which_51}
use Rattle.linear.specs.FillLines.{fill_accepts}
use Rattle.linear.specs.KnownNodes.{FillNames, Names, fill_takes, takes_at}
use Rattle.linear.specs.Matches.{at_line, resize_call, MayResize, FillMatches, ResizeMatches}
use Rattle.linear.specs.Taken.{Taken}
use Rattle.linear.specs.ResizeLines.{Sizes, fill_in_resize, new_size}

module _ {y : Machine} {h : Heap} {K : ℕ → Type 0} {R : Records} (f : SoundFacts y) (inv : HeapInvariant h) (rep : Represents y h K R) (c : Task) where
  sized : (t : ℕ) → K t → ListedSize (h.size t)
  sized t k =
      rw (rep.size≡ t k) at
      (size_listed (f.node (R.node t) (rep.node_in_pool t k)).size_ok (λ e. let p = inv.sizes_positive t
      (rep.known_bound t k) in let q = rep.size≡ t k in omega arith))

  -- ---- line 51
  resize_51 : (b : Bool) (t i : ℕ) → ResizeMatches h R b (Resize.filling t i at_51) c → ResizeFacts h (Resize.filling t i at_51) → ((x : ℕ) → x ≡ t → K x)
      → Accepts rep c (resize b (Resize.filling t i at_51))
  unfolding step_table line_51 with_line with_i with_s with_b with_m with_n with_new_bucket
  resize_51 b t i m o names =
      let kt = names t refl in
      let bi : c.i < size_of y c.t = rw (size_at inv rep t kt m.0.t≡, m.0.i≡) o.0.1 in
      record {
        sound_step = sound_at y c 51 m.0.call_fields.line≡ (not_none (R.node t) m.0.t≡, bi);
        effect_of = λ x. rw (does_at y c 51 m.0.call_fields.line≡) (rw (is_resize b m.0.call_fields.call≡) (go (dec_lt (suc i) (h.size t))));
      }
    where
      is_resize : (b : Bool) → c.call ≡ resize_call b → (eqb c.call 4 || eqb c.call 5) ≡ true
      is_resize true q = rw (eq-eqb c.call 4 q)
      is_resize false q = rw (ne_eqb c.call 4 (λ u. omega arith), eq-eqb c.call 5 q)

      sz : size_of y c.t ≡ h.size t
      sz = size_at inv rep t (names t refl) m.0.t≡

      go : Dec (suc i < h.size t)
          → EffectOf rep c (resize b (Resize.filling t i at_51))
          (Rattle.spec.specs.Lines.moves
          (with_line (if ltb (c.i + 1) (size_of y c.t) then 39 else 24)
          (with_i (c.i + 1) (with_b 0 (with_s 0 (with_m 0 (with_n 0 (with_new_bucket 0 c))))))))
      go (yes lt) =
          let e = m.0.i≡ in
          let s = sz in
          let j : c.i + 1 ≡ suc i = omega arith in
          rw (lt-ltb (c.i + 1) (size_of y c.t) (omega arith))
          (moves_to (resize b (Resize.filling t (suc i) at_39)) (step_51_next lt) names
          (record { call_fields = at_line m.0.call_fields refl refl refl; t≡ = m.0.t≡; i≡ = j; fields = refl }, m.1) refl)
      go (no ge) =
          let e = m.0.i≡ in
          let s = sz in
          let w = o.0.1 in
          let all : suc i ≡ h.size t = omega arith in
          rw (le-ltb (c.i + 1) (size_of y c.t) (omega arith))
          (moves_to (resize b (at_24 t)) (step_51_last all) names (at_line m.0.call_fields refl refl refl, m.0.t≡, m.1) refl)

  pub resize_accepts : (b : Bool) (l : Resize) → ResizeMatches h R b l c → ResizeFacts h l → ((x : ℕ) → Names (resize b l) x → K x)
      → Taken y h K R (takes_at (resize b l)) c → Accepts rep c (resize b l)
  unfolding step_table line_20 line_24 line_27 line_28 at_limit with_line with_i with_t with_new_node
  resize_accepts b at_20 m o names v = record {
    sound_step = sound_at y c 20 m.0.line≡ tt;
    effect_of = λ x. rw (does_at y c 20 m.0.line≡) (go b m.0.call≡);
  }
    where
      sz : size_of y (head_of y) ≡ h.size h.head
      sz = size_at inv rep h.head rep.head_known (head_at inv rep)

      on : (b : Bool) → c.call ≡ resize_call b → MayResize b (h.size h.head)
          → EffectOf rep c (resize b at_20) (Rattle.spec.specs.Lines.moves (with_line 39 (with_i 0 (with_t (head_of y) c))))
      on b q l =
          moves_to (resize b (Resize.filling h.head 0 at_39)) step_20 (λ x u. rw u rep.head_known) (
            record {
              call_fields = record { runs = m.0.runs; call≡ = q; tag≡ = m.0.tag≡; line≡ = refl };
              t≡ = head_at inv rep;
              i≡ = refl;
              fields = m.1;
            },
            l,
          ) refl

      go : (b : Bool) → c.call ≡ resize_call b → EffectOf rep c (resize b at_20) (line_20 y c)
      go true q = rw (eq-eqb c.call 4 q, sz) (at 32 (ℕ_discrete (h.size h.head) 32))
        where
          at : (n : ℕ) → Dec (h.size h.head ≡ 32)
              → EffectOf rep c (resize true at_20)
              (if eqb (h.size h.head) 32 then Rattle.spec.specs.Lines.answers Limit
              else Rattle.spec.specs.Lines.moves (with_line 39 (with_i 0 (with_t (head_of y) c))))
          at n (yes e) = rw (eq-eqb (h.size h.head) 32 e) (ends_resize Limit step_20_limit)
          at n (no d) = rw (ne_eqb (h.size h.head) 32 d) (on true q d)
      go false q = rw (ne_eqb c.call 4 (λ u. omega arith), sz) (at 1 (ℕ_discrete (h.size h.head) 1))
        where
          at : (n : ℕ) → Dec (h.size h.head ≡ 1)
              → EffectOf rep c (resize false at_20)
              (if eqb (h.size h.head) 1 then Rattle.spec.specs.Lines.answers Limit
              else Rattle.spec.specs.Lines.moves (with_line 39 (with_i 0 (with_t (head_of y) c))))
          at n (yes e) = rw (eq-eqb (h.size h.head) 1 e) (ends_resize Limit step_20_limit)
          at n (no d) = rw (ne_eqb (h.size h.head) 1 d) (on false q d)
  resize_accepts b (at_24 t) m o names v = record {
    sound_step = sound_at y c 24 m.0.line≡ (not_none (R.node t) m.1);
    effect_of = λ x. rw (does_at y c 24 m.0.line≡) (go (ℕ_discrete t h.head));
  }
    where
      n : number c.t ≡ R.node t
      n = rw m.1 (link_number _)

      go : Dec (t ≡ h.head) → EffectOf rep c (resize b (at_24 t)) (line_24 y c)
      go (yes e) =
          rw (n, e)
          (clears_pred (resize b (at_27 h.head)) (step_24_head refl) (λ x u. rw u rep.head_known)
          (at_line m.0 refl refl refl, rw e at m.1, rw e at m.2) refl)
      go (no d) = rw n (clears_no_pred (resize b (at_27 t)) t (names t refl) d (step_24_past d) names (at_line m.0 refl refl refl, m.1, m.2) refl)
  resize_accepts b (at_27 t) m o names v = record {
    sound_step = sound_at y c 27 m.0.line≡ (not_none (R.node t) m.1, rw size≡ made.2);
    effect_of = λ x. rw (does_at y c 27 m.0.line≡) (go (node_taking y f) (taken_at y c 27 m.0.line≡ x));
  }
    where
      made : (n : ℕ) × (resized (resize_call b) (h.size t) ≡ n) × (listed_size n ≡ true) × Sizes b (h.size t) n
      made = new_size b (h.size t) (sized t (names t refl)) m.2

      size≡ : resized c.call (size_of y c.t) ≡ made.0
      size≡ = let e : resized c.call (size_of y c.t) ≡ resized (resize_call b) (h.size t) = rw
          (m.0.call≡, size_at inv rep t (names t refl) m.1) in e ∙ made.1

      line : (b : Bool) (n : ℕ) → Sizes b (h.size t) n → Step h (resize b (at_27 t)) h (resize b (at_28 t n))
      line true n e = rw e step_27_grow
      line false n e = step_27_shrink e

      go : Taking (HeldNode y) (node_count y) y.state.last_node (free_node y) → ¬ (free_node y ≡ 0) → EffectOf rep c (resize b (at_27 t)) (line_27 y c)
      go (none_free e a) n = absurd (n e)
      go (takes r e lt first) n =
          let q : number (free_node y) ≡ r = rw e (link_number r) in
          let place_word : new_node (number (free_node y)) (resized c.call (size_of y c.t)) c.t ≡ new_node r made.0 (link (R.node t)) =
          rw (q, size≡, m.1) in
          subst (λ (u : Write). EffectOf rep c (resize b (at_27 t)) (writes u (with_line 28 (with_new_node (free_node y) c)))) (sym place_word)
          (takes_node b t made.0 r (names t refl) (line b made.0 made.3) (at_line m.0 refl refl refl, m.1) e lt first.not_held)
  resize_accepts b (at_28 t n) m o names v = record {
    sound_step = sound_at y c 28 m.0.line≡ (not_none (R.node t) m.1, not_none v.0 v.1);
    effect_of = λ x. rw (does_at y c 28 m.0.line≡) (go (ℕ_discrete t h.head));
  }
    where
      go : Dec (t ≡ h.head) → EffectOf rep c (resize b (at_28 t n)) (line_28 y c)
      go (yes e) =
          let q : head_of y ≡ c.t = head_at inv rep ∙ ap (λ (x : ℕ). link (R.node x)) (sym e) ∙ sym m.1 in
          let r : number c.new_node ≡ v.0 = rw v.1 (link_number _) in
          rw (eq-eqb (head_of y) c.t q, r) (sets_head b n v.0 (ap (λ (x : ℕ). resize b (at_28 x n)) e) v.1 (rw e at v.2))
      go (no d) =
          let hd = head_at inv rep in
          let mt = m.1 in
          rw (ne_eqb (head_of y) c.t (λ u. d (rep.node_injective t h.head (names t refl) rep.head_known (omega arith))))
          (ends_resize Lost (step_28_lost d))
  resize_accepts b (Resize.filling t i l) m o names v = go l (which_51 t l) m.0 o.2 names v
    where
      go : (l : Fill) → Which51 t l → FillMatches h R (resize_call b) 0 t i l c → FillFacts h t i l → ((x : ℕ) → FillNames t l x → K x)
          → Taken y h K R (fill_takes t i l) c
          → Accepts rep c (resize b (Resize.filling t i l))
      go l (before z u) n p names v =
          let a = fill_accepts f inv rep (resize_call b) 0 t i c o.0 (names t u) l z n p names v in
          record { sound_step = a.sound_step; effect_of = λ x. fill_in_resize b m.1 (a.effect_of x) }
      go l last n p names v = resize_51 b t i (n, m.1) (o.0, o.1, p) names
