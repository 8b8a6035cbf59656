-- Each line does in the words what it does in the model: its effect on the image of a position is one of the model's outcomes.
-- Assumes nothing.
use Rattle.std.specs.Prelude.{◌+◌, ◌-◌, ℕ, Bool, ◌&&◌, List, [], ◌∷◌, ◌⊎◌, ◌≡◌, leb, if◌then◌else◌}
use Rattle.std.proofs.Math.Bool.{false, not, true}
use Rattle.std.proofs.Common.{inl, inr, ◌∙◌, ap, sym}
use Rattle.std.proofs.Math.Path.{refl, subst}
use native.Mathlib.Omega.{arith}
use borrow.Author.Tests.{eqb-false, eqb-true, not-false, not-true}
use Rattle.std.proofs.Math.Dec.{eqb}
use Rattle.spec.specs.Lists.{member}
use Rattle.spec.specs.Words.{filled, link, number}
use Rattle.laws.specs.Links.{filled_true}
use Rattle.laws.specs.Tests.{and_left, and_none, and_right, bool?, choose, tf}
use Rattle.coop_spec.specs.Atomic.{AtomicCall, Operations, boolean, change, invoke, reply}
use Rattle.coop_spec.specs.Held.{free_version}
use Rattle.coop_spec.specs.Lines.{Effect, all_lines, answers, effect, ends, find_line, frozen, line_100, line_101, line_102, line_107, line_109}
use Rattle.coop_spec.specs.Lines.{line_112, line_113, line_117, line_120, line_121, line_122, line_123, line_127, line_129, line_130, line_138}
use Rattle.coop_spec.specs.Lines.{line_139, line_140, line_95, line_96, line_99, moves, on, returns, returns_true, writing}
use Rattle.coop_spec.specs.Machine.{Machine, operation_of, to_finish, to_help, to_line, to_line_with}
use Rattle.coop_spec.specs.Sound.{invokes}
use Rattle.coop_spec.specs.StepRefusals.{all_held}
use Rattle.coop_spec.specs.Words.{Write, applied, install, op_word, raise_flag, response, set_done, set_op, set_resp, set_returned, tags_of}
use Rattle.coop_spec.specs.declared.Answer.TheVariants.{No, Version, Yes}
use Rattle.coop_spec.specs.declared.Operation.{Operation}
use Rattle.coop_spec.specs.declared.Task.{Task}
use Rattle.coop_model.specs.Heap.{Heap, advance, mark_returned, nil, op, raise}
use Rattle.coop_model.specs.HeapInvariant.{same_op_number}
use Rattle.coop_model.specs.Lines.{End, Line, e107_no, e107_yes, e113_op, e113_set, e117, e130, e140, e140_lost, l100_nil, l100_op, l101_done}
use Rattle.coop_model.specs.Lines.{l101_on, l102_lost, l109, l112, l120_frozen, l120_on, l121, l122_nil, l122_op, l123_lost, l127, l129, l130_106}
use Rattle.coop_model.specs.Lines.{l130_126, l130_op, l140_106, l140_106_lost, l140_126, l140_126_lost, l95_done, l95_frozen, l95_on, l96_down}
use Rattle.coop_model.specs.Lines.{l96_up, l99}
use Rattle.coop_model.specs.Positions.{Position, ReturnTo, Role, at100, at101, at102, at107, at109, at120, at121, at122, at123, at127, at129, at130}
use Rattle.coop_model.specs.Positions.{at138, at139, at140, at95, at96, at99, freezer, invoker, member_112, member_113, response_117}
use Rattle.coop_model.specs.Positions.{running, to103, to106, to126}
use Rattle.coop_linear.specs.Represents.{Represents, applied_is, frozen_no, frozen_yes, nil_no, nil_yes, number_link, op_no, op_yes, response_is}
use Rattle.coop_linear.specs.TaskImages.{task_image}

module _ {T : Operations} {y : Machine} {h : Heap} {K : ℕ → Type 0} {slot : ℕ → ℕ} (rep : Represents T y h K slot) where
  -- ---- what a line does: no write; the flag; an op put in; an operation; a version taken; or the call ends
  pub data Does (own : ℕ) : Position → Effect → Type 0 where
    goes : {l l' : Position} → Line T h l h l' → Does own l (moves (task_image T slot own l'))
    raises : {l l' : Position} → Line T h l (raise h) l' → Does own l (writing raise_flag (task_image T slot own l'))
    puts_op : {n o : ℕ} → h.op_at o ≡ nil
        → Does own (running (invoker n) (at102 n o)) (writing (set_op (slot o) (n + 2)) (task_image T slot own (running (invoker n) (at129 (to103 n)))))
    puts_bottom : {j : Role} {o : ℕ} → h.op_at o ≡ nil → Does own (running j (at123 o)) (writing (set_op (slot o) 1) (task_image T slot own (running j at127)))
    responds : {j : Role} {b : ReturnTo} {o m : ℕ}
        → Does own (running j (at138 b o m)) (writing (set_resp m (reply T m (h.set o))) (task_image T slot own (running j (at139 b o m))))
    marks_done : {j : Role} {b : ReturnTo} {o m : ℕ}
        → Does own (running j (at139 b o m)) (writing (set_done m) (task_image T slot own (running j (at140 b o m))))
    advances : {l l' : Position} {o m : ℕ} → o ≡ h.current → h.op_at o ≡ op m → (all_held y (task_image T slot own l) ≡ false → ¬ (free_version y ≡ 0))
        → Line T h l (advance (change T m (h.set o)) h) l'
        → Does own l (record { next = on (task_image T slot own l'); writes = install (number (free_version y)) (change T m (h.set o)) ∷ [] })
    returns_advancing : {l : Position} {n o m : ℕ} → o ≡ h.current → h.op_at o ≡ op m
        → (all_held y (task_image T slot own l) ≡ false → ¬ (free_version y ≡ 0))
        → End T h l (mark_returned n (advance (change T m (h.set o)) h)) (invoke n) (boolean true)
        → Does own l (record { next = ends Yes; writes = install (number (free_version y)) (change T m (h.set o)) ∷ set_returned n ∷ [] })
    says_no : {l : Position} {c : AtomicCall} → End T h l h c (boolean false) → Does own l (answers No)
    says_yes : {l : Position} {c : AtomicCall} → End T h l h c (boolean true) → Does own l (answers Yes)
    gives_version : Does own (running freezer at127) (answers (Version (slot h.current)))
    returns_only : {l : Position} {n : ℕ} → End T h l (mark_returned n h) (invoke n) (boolean true)
        → Does own l (record { next = ends Yes; writes = set_returned n ∷ [] })

  says : {own : ℕ} {l : Position} {c : AtomicCall} (b : Bool) → End T h l h c (boolean b) → Does own l (answers (if b then Yes else No))
  says true e = says_yes e
  says false e = says_no e

  module _ (own : ℕ) where
    abbrev image : Position → Task
    image l = task_image T slot own l

    -- the line of that position does in the words what it does in the model
    abbrev pub Right : Position → Type 0
    Right l = Does own l (effect y (task_image T slot own l))

    done_of : (n : ℕ) → (operation_of y n).done ≡ h.done n
    done_of n = rep.same_done n

    pub does_95 : (n : ℕ) → Right (running (invoker n) at95)
    unfolding effect find_line all_lines line_95 to_line
    does_95 n = choose (λ (x : ℕ). Does own (running (invoker n) at95) (moves (to_line x (image (running (invoker n) at95)))))
        (not (frozen y) && not (operation_of y n).done) 96 107
        (λ e. goes (l95_on (frozen_no rep (not-true (frozen y) (and_left (not (frozen y)) (not (operation_of y n).done) e)))
        (sym (done_of n) ∙ not-true (operation_of y n).done (and_right (not (frozen y)) (not (operation_of y n).done) e))))
        (λ e. out (bool? (frozen y)) e)
      where
        out : (frozen y ≡ true) ⊎ (frozen y ≡ false) → (not (frozen y) && not (operation_of y n).done) ≡ false
            → Does own (running (invoker n) at95) (moves (image (running (invoker n) (at107 n))))
        out (inl i) e = goes (l95_frozen (frozen_yes rep i))
        out (inr i) e = goes (l95_done (sym (done_of n) ∙ not-false (operation_of y n).done (rw i at e)))

    -- at the bucket's version
    at_node : (P : ℕ → Type 0) → P (slot h.current) → P y.state.node
    at_node P x = subst P (sym rep.same_node) x

    -- without a link and back
    at_number : (P : ℕ → Type 0) (k : ℕ) → P k → P (number (link k))
    at_number P k x = subst P (sym (number_link k)) x

    pub does_96 : (n : ℕ) → Right (running (invoker n) at96)
    unfolding effect find_line all_lines line_96 to_line
    does_96 n = choose (λ (x : ℕ). Does own (running (invoker n) at96) (moves (to_line x (image (running (invoker n) at96))))) y.state.flag 120 99
        (λ e. goes (l96_up (sym rep.same_flag ∙ e))) (λ e. goes (l96_down (sym rep.same_flag ∙ e)))

    pub does_99 : (n : ℕ) → Right (running (invoker n) at99)
    unfolding effect find_line all_lines line_99 to_line_with
    does_99 n = at_node (λ (x : ℕ). Does own (running (invoker n) at99) (moves (to_line_with 100 (link x) (image (running (invoker n) at99))))) (goes l99)

    pub does_112 : (k : ℕ) → Right (member_112 k)
    unfolding effect find_line all_lines line_112 to_line_with
    does_112 k = at_node (λ (x : ℕ). Does own (member_112 k) (moves (to_line_with 113 (link x) (image (member_112 k))))) (goes l112)

    pub does_121 : (j : Role) → Right (running j at121)
    unfolding effect find_line all_lines line_121 to_line_with
    does_121 j = at_node (λ (x : ℕ). Does own (running j at121) (moves (to_line_with 122 (link x) (image (running j at121))))) (goes l121)

    pub does_129 : (j : Role) (b : ReturnTo) → Right (running j (at129 b))
    unfolding effect find_line all_lines line_129 to_line_with
    does_129 j b = at_node (λ (x : ℕ). Does own (running j (at129 b)) (moves (to_line_with 130 (link x) (image (running j (at129 b)))))) (goes l129)

    pub does_109 : Right (running freezer at109)
    unfolding effect find_line all_lines line_109 to_line
    does_109 = raises l109

    pub does_117 : (n : ℕ) → Right (response_117 n)
    unfolding effect find_line all_lines line_117
    does_117 n = subst (λ (b : Bool). Does own (response_117 n) (answers (if b then Yes else No))) (sym (rep.same_resp n)) (says (h.resp n) e117)

    pub does_101 : (n o : ℕ) → Right (running (invoker n) (at101 o))
    unfolding effect find_line all_lines line_101 to_line to_line_with
    does_101 n o =
        choose (λ (x : Effect). Does own (running (invoker n) (at101 o)) x) (operation_of y n).done
        (moves (to_line 95 (image (running (invoker n) (at101 o)))))
        (moves (to_line_with 102 (link (slot o)) (image (running (invoker n) (at101 o)))))
        (λ e. goes (l101_done (sym (rep.same_done n) ∙ e))) (λ e. goes (l101_on (sym (rep.same_done n) ∙ e)))

    pub does_107 : (n : ℕ) → Right (running (invoker n) (at107 n))
    unfolding effect find_line all_lines line_107
    does_107 n =
        choose (λ (x : Effect). Does own (running (invoker n) (at107 n)) x) (operation_of y n).done (returns_true (image (running (invoker n) (at107 n))) [])
        (answers No)
        (λ e. returns_only (e107_yes (sym (rep.same_done n) ∙ e))) (λ e. says_no (e107_no (sym (rep.same_done n) ∙ e)))

    pub does_120 : (j : Role) → Right (running j at120)
    unfolding effect find_line all_lines line_120 to_line
    does_120 j =
        choose (λ (x : ℕ). Does own (running j at120) (moves (to_line x (image (running j at120))))) (frozen y) 127 121
        (λ e. goes (l120_frozen (frozen_yes rep e)))
        (λ e. goes (l120_on (frozen_no rep e)))

    pub does_127_invoke : (n : ℕ) → Right (running (invoker n) at127)
    unfolding effect find_line all_lines line_127 to_line
    does_127_invoke n = choose (λ (x : Effect). Does own (running (invoker n) at127) x) (invokes (if T.inserts n then 1 else 2))
        (moves (to_line 107 (image (running (invoker n) at127)))) (answers (Version y.state.node))
        (λ e. goes l127) (λ e. absurd (tf (one_or_two (T.inserts n)) e))
      where
        one_or_two : (b : Bool) → invokes (if b then 1 else 2) ≡ true
        one_or_two true = refl
        one_or_two false = refl

    pub does_127_freeze : Right (running freezer at127)
    unfolding effect find_line all_lines line_127
    does_127_freeze = at_node (λ (x : ℕ). Does own (running freezer at127) (answers (Version x))) gives_version

    module _ (o : ℕ) (k : K o) where
      pub does_100 : (n : ℕ) → Right (running (invoker n) (at100 o))
      unfolding effect find_line all_lines line_100 to_line_with to_help
      does_100 n = choose (λ (x : Effect). Does own (running (invoker n) (at100 o)) x) (eqb (op_word y (number (link (slot o)))) 0)
          (moves (to_line_with 101 (link (slot o)) (image (running (invoker n) (at100 o))))) (moves (to_help 106 (image (running (invoker n) (at100 o)))))
          (λ e. goes (l100_nil (nil_yes rep o k e))) (λ e. goes (l100_op (nil_no rep o k e)))

      pub does_102 : (n : ℕ) → Right (running (invoker n) (at102 n o))
      unfolding effect find_line all_lines line_102 to_line to_help
      does_102 n = choose (λ (x : Effect). Does own (running (invoker n) (at102 n o)) x) (eqb (op_word y (number (link (slot o)))) 0)
          (writing (set_op (number (link (slot o))) (n + 2)) (to_help 103 (image (running (invoker n) (at102 n o)))))
          (moves (to_line 95 (image (running (invoker n) (at102 n o)))))
          (λ e. at_number
          (λ (x : ℕ). Does own (running (invoker n) (at102 n o)) (writing (set_op x (n + 2)) (to_help 103 (image (running (invoker n) (at102 n o)))))) (slot o)
          (puts_op (nil_yes rep o k e)))
          (λ e. goes (l102_lost (nil_no rep o k e)))

      pub does_122 : (j : Role) → Right (running j (at122 o))
      unfolding effect find_line all_lines line_122 to_line_with to_help
      does_122 j = choose (λ (x : Effect). Does own (running j (at122 o)) x) (eqb (op_word y (number (link (slot o)))) 0)
          (moves (to_line_with 123 (link (slot o)) (image (running j (at122 o))))) (moves (to_help 126 (image (running j (at122 o)))))
          (λ e. goes (l122_nil (nil_yes rep o k e))) (λ e. goes (l122_op (nil_no rep o k e)))

      pub does_123 : (j : Role) → Right (running j (at123 o))
      unfolding effect find_line all_lines line_123 to_line
      does_123 j = choose (λ (x : Effect). Does own (running j (at123 o)) x) (eqb (op_word y (number (link (slot o)))) 0)
          (writing (set_op (number (link (slot o))) 1) (to_line 127 (image (running j (at123 o))))) (moves (to_line 120 (image (running j (at123 o)))))
          (λ e. at_number (λ (x : ℕ). Does own (running j (at123 o)) (writing (set_op x 1) (to_line 127 (image (running j (at123 o)))))) (slot o)
          (puts_bottom (nil_yes rep o k e)))
          (λ e. goes (l123_lost (nil_no rep o k e)))

      set_at : tags_of y (number (link (slot o))) ≡ h.set o
      set_at = ap (tags_of y) (number_link (slot o)) ∙ rep.same_set o k

      pub does_113 : (t : ℕ) → Right (member_113 t o)
      unfolding effect find_line all_lines line_113
      does_113 t = choose (λ (x : Effect). Does own (member_113 t o) x) (leb 2 (op_word y (number (link (slot o)))) && eqb
          (operation_of y (op_word y (number (link (slot o))) - 2)).tag t)
          (answers (if eqb (operation_of y (op_word y (number (link (slot o))) - 2)).kind 1 then Yes else No))
          (answers (if member t (tags_of y (number (link (slot o)))) then Yes else No))
          (λ e. own_tag (op_yes rep o k (and_left (leb 2 (op_word y (number (link (slot o))))) _ e))
          (and_right (leb 2 (op_word y (number (link (slot o))))) _ e))
          (λ e. other (bool? (leb 2 (op_word y (number (link (slot o)))))) e)
        where
          Q : Operation
          Q = operation_of y (op_word y (number (link (slot o))) - 2)

          is_m : (m : ℕ) → op_word y (number (link (slot o))) ≡ m + 2 → operation_of y (op_word y (number (link (slot o))) - 2) ≡ operation_of y m
          is_m m f = ap (operation_of y) (omega arith)

          tag_m : (m : ℕ) → h.op_at o ≡ op m → op_word y (number (link (slot o))) ≡ m + 2
              → (operation_of y (op_word y (number (link (slot o))) - 2)).tag ≡ T.tag m
          tag_m m e f = ap (λ (q : Operation). q.tag) (is_m m f) ∙ (rep.types m (rep.in_use o m e)).1

          own_tag : ((m : ℕ) × (h.op_at o ≡ op m) × (op_word y (number (link (slot o))) ≡ m + 2))
              → eqb (operation_of y (op_word y (number (link (slot o))) - 2)).tag t ≡ true
              → Does own (member_113 t o) (answers (if eqb (operation_of y (op_word y (number (link (slot o))) - 2)).kind 1 then Yes else No))
          own_tag (m, e, f) g =
              subst (λ (b : Bool). Does own (member_113 t o) (answers (if b then Yes else No)))
              (sym (ap (λ (q : Operation). eqb q.kind 1) (is_m m f) ∙ (rep.types m (rep.in_use o m e)).0))
              (says (T.inserts m) (e113_op e (sym (tag_m m e f) ∙ eqb-true _ t g)))

          plain : ((m : ℕ) → h.op_at o ≡ op m → ¬ (T.tag m ≡ t))
              → Does own (member_113 t o) (answers (if member t (tags_of y (number (link (slot o)))) then Yes else No))
          plain n =
              subst (λ (S : List ℕ). Does own (member_113 t o) (answers (if member t S then Yes else No))) (sym set_at)
              (says (member t (h.set o)) (e113_set n))

          other : (leb 2 (op_word y (number (link (slot o)))) ≡ true) ⊎ (leb 2 (op_word y (number (link (slot o)))) ≡ false)
              → (leb 2 (op_word y (number (link (slot o)))) && eqb (operation_of y (op_word y (number (link (slot o))) - 2)).tag t) ≡ false
              → Does own (member_113 t o) (answers (if member t (tags_of y (number (link (slot o)))) then Yes else No))
          other (inl a) e = found (op_yes rep o k a)
            where
              not_own : eqb (operation_of y (op_word y (number (link (slot o))) - 2)).tag t ≡ false
              not_own = rw a at e

              found : ((m : ℕ) × (h.op_at o ≡ op m) × (op_word y (number (link (slot o))) ≡ m + 2))
                  → Does own (member_113 t o) (answers (if member t (tags_of y (number (link (slot o)))) then Yes else No))
              found (m, x, f) = plain (λ i z q. eqb-false _ t not_own (tag_m m x f ∙ ap T.tag (same_op_number x z) ∙ q))
          other (inr a) e = plain (λ m z q. op_no rep o k a m z)

      -- an operation is there: on to 138
      to_138 : (j : Role) (b : ReturnTo) → leb 2 (op_word y (number (link (slot o)))) ≡ true
          → Does own (running j (at130 b o)) (moves (to_finish (op_word y (number (link (slot o))) - 1) (image (running j (at130 b o)))))
      unfolding to_finish
      to_138 j b e =
          let (m, x, f) = op_yes rep o k e in
          let z : op_word y (number (link (slot o))) - 1 ≡ link m = omega arith in
          subst (λ (u : ℕ). Does own (running j (at130 b o)) (moves (to_finish u (image (running j (at130 b o)))))) (sym z) (goes (l130_op x))

      pub does_130_103 : (n : ℕ) → Right (running (invoker n) (at130 (to103 n) o))
      unfolding effect find_line all_lines line_130 returns
      does_130_103 n = choose (λ (x : Effect). Does own (running (invoker n) (at130 (to103 n) o)) x) (leb 2 (op_word y (number (link (slot o)))))
          (moves (to_finish (op_word y (number (link (slot o))) - 1) (image (running (invoker n) (at130 (to103 n) o)))))
          (returns (image (running (invoker n) (at130 (to103 n) o))) [])
          (λ e. to_138 (invoker n) (to103 n) e) (λ e. returns_only (e130 (op_no rep o k e)))

      pub does_130_106 : (n : ℕ) → Right (running (invoker n) (at130 to106 o))
      unfolding effect find_line all_lines line_130 returns to_line
      does_130_106 n = choose (λ (x : Effect). Does own (running (invoker n) (at130 to106 o)) x) (leb 2 (op_word y (number (link (slot o)))))
          (moves (to_finish (op_word y (number (link (slot o))) - 1) (image (running (invoker n) (at130 to106 o)))))
          (returns (image (running (invoker n) (at130 to106 o))) [])
          (λ e. to_138 (invoker n) to106 e) (λ e. goes (l130_106 (op_no rep o k e)))

      pub does_130_126 : (j : Role) → Right (running j (at130 to126 o))
      unfolding effect find_line all_lines line_130 returns to_line
      does_130_126 j = choose (λ (x : Effect). Does own (running j (at130 to126 o)) x) (leb 2 (op_word y (number (link (slot o)))))
          (moves (to_finish (op_word y (number (link (slot o))) - 1) (image (running j (at130 to126 o))))) (returns (image (running j (at130 to126 o))) [])
          (λ e. to_138 j to126 e) (λ e. goes (l130_126 (op_no rep o k e)))

      module _ (m : ℕ) (e : h.op_at o ≡ op m) where
        reply_at : response (operation_of y m) (tags_of y (slot o)) ≡ reply T m (h.set o)
        reply_at =
            let q = rep.types m (rep.in_use o m e) in response_is (operation_of y m) (T.inserts m) (T.tag m) (tags_of y (slot o)) q.0 q.1
            ∙ ap (reply T m)
            (rep.same_set o k)

        pub change_at : applied (operation_of y (number (link m))) (tags_of y (number (link (slot o)))) ≡ change T m (h.set o)
        change_at =
            let q = rep.types m (rep.in_use o m e) in
            ap (λ (x : ℕ). applied (operation_of y x) (tags_of y (number (link (slot o))))) (number_link m)
            ∙ ap (applied (operation_of y m)) set_at
            ∙ applied_is (operation_of y m) (T.inserts m) (T.tag m) (h.set o) q.0 q.1

        pub does_138 : (j : Role) (b : ReturnTo) → Right (running j (at138 b o m))
        unfolding effect find_line all_lines line_138 to_line_with
        does_138 j b =
            at_number (λ (x : ℕ). After138 (set_resp x (response (operation_of y x) (tags_of y (number (link (slot o))))))) m
            (at_number (λ (x : ℕ). After138 (set_resp m (response (operation_of y m) (tags_of y x)))) (slot o)
            (subst (λ (x : Bool). After138 (set_resp m x)) (sym reply_at) responds))
          where
            After138 : Write → Type 0
            After138 x = Does own (running j (at138 b o m)) (writing x (to_line_with 139 (link (slot o)) (image (running j (at138 b o m)))))

        pub does_139 : (j : Role) (b : ReturnTo) → Right (running j (at139 b o m))
        unfolding effect find_line all_lines line_139 to_line_with
        does_139 j b =
            at_number (λ (x : ℕ). Does own (running j (at139 b o m))
            (writing (set_done x) (to_line_with 140 (link (slot o)) (image (running j (at139 b o m)))))) m marks_done

        -- the bucket still has o
        abbrev still : Bool
        still = eqb y.state.node (number (link (slot o)))

        pub still_yes : still ≡ true → o ≡ h.current
        still_yes t =
            let q : y.state.node ≡ slot o = eqb-true y.state.node (number (link (slot o))) t ∙ number_link (slot o) in
            sym (rep.apart h.current o rep.has_current k (sym rep.same_node ∙ q))

        still_no : still ≡ false → ¬ (o ≡ h.current)
        still_no t q = eqb-false y.state.node (number (link (slot o))) t (rep.same_node ∙ ap slot (sym q) ∙ sym (number_link (slot o)))

        -- line 140 is not refused with 7
        free_140 : still ≡ true → (eqb 140 140 && still && not (filled (free_version y))) ≡ false → ¬ (free_version y ≡ 0)
        free_140 t x =
            filled_true (free_version y) (not-false (filled (free_version y)) (and_none still (not (filled (free_version y))) x t))

        -- by the two ways of line 140, given what the helper's return does with the set that it makes
        either : (l : Position) (f : List Write → Effect)
            → (still ≡ true → o ≡ h.current → Does own l (f (install (number (free_version y)) (change T m (h.set o)) ∷ [])))
            → (¬ (o ≡ h.current) → Does own l (f []))
            → Does own l (if still then f (install (number (free_version y))
            (applied (operation_of y (number (link m))) (tags_of y (number (link (slot o))))) ∷ []) else f [])
        either l f a b =
            choose (λ (x : Effect). Does own l x) still
            (f (install (number (free_version y)) (applied (operation_of y (number (link m))) (tags_of y (number (link (slot o))))) ∷ [])) (f [])
            (λ t. subst (λ (S : List ℕ). Does own l (f (install (number (free_version y)) S ∷ []))) (sym change_at) (a t (still_yes t)))
            (λ t. b (still_no t))

        pub does_140_103 : (n : ℕ) → Right (running (invoker n) (at140 (to103 n) o m))
        unfolding effect find_line all_lines line_140 all_held returns
        does_140_103 n = either (running (invoker n) (at140 (to103 n) o m)) (returns (image (running (invoker n) (at140 (to103 n) o m))))
            (λ t q. returns_advancing q e (free_140 t) (e140 q)) (λ q. returns_only (e140_lost q))

        pub does_140_106 : (n : ℕ) → Right (running (invoker n) (at140 to106 o m))
        unfolding effect find_line all_lines line_140 all_held returns to_line
        does_140_106 n =
            either (running (invoker n) (at140 to106 o m)) (returns (image (running (invoker n) (at140 to106 o m))))
            (λ t q. advances q e (free_140 t) (l140_106 q))
            (λ q. goes (l140_106_lost q))

        pub does_140_126 : (j : Role) → Right (running j (at140 to126 o m))
        unfolding effect find_line all_lines line_140 all_held returns to_line
        does_140_126 j = either (running j (at140 to126 o m)) (returns (image (running j (at140 to126 o m)))) (λ t q. advances q e (free_140 t) (l140_126 q))
            (λ q. goes (l140_126_lost q))
