-- The image of a position that a call reaches is a sound record, and its line goes through no empty place. Assumes nothing.
use Rattle.std.specs.Prelude.{◌<◌, ◌≤◌, ℕ, Bool, ◌&&◌, ◌||◌, false, not, ◌≡◌, eqb, ltb, if◌then◌else◌}
use Rattle.std.proofs.Math.Bool.{true}
use Rattle.std.proofs.Math.Path.{refl}
use Rattle.std.proofs.Common.{arith}
use borrow.Author.Tests.{eq-eqb, eqb-false, eqb-true, le-leb, lt-ltb, ne_eqb}
use Rattle.spec.specs.Lists.{every, member}
use Rattle.spec.specs.Words.{filled, link, number}
use Rattle.laws.specs.Tests.{and6_i, and_i, or_r}
use Rattle.coop_spec.specs.Atomic.{AtomicCall, Operations, freeze, get_response, has_member, invoke}
use Rattle.coop_spec.specs.Machine.{Machine, operation_of}
use Rattle.coop_spec.specs.Sound.{back_of_line, freeze_lines, help_lines, invoke_lines, invokes, lines_of, member_lines, operation_of_call}
use Rattle.coop_spec.specs.Sound.{sound_running, sound_task, version_count, was_invoked, zero_task}
use Rattle.coop_linear.specs.Named.{Names}
use Rattle.coop_model.specs.Positions.{Has, Place, Point, Position, ReturnTo, Role, empty, holds, parts, at100, at101, at102, at107, at109, at120}
use Rattle.coop_model.specs.Positions.{at121, at122, at123, at127, at129, at130, at138, at139, at140, at95, at96, at99, call_at, freezer, invoker}
use Rattle.coop_model.specs.Positions.{member_112, member_113, no_call, response_117, running, runs, to103, to106, to126}
use Rattle.coop_linear.specs.Represents.{number_link}
use Rattle.coop_linear.specs.Shapes.{Shape, Tied, no_freezer, no_invoker}
use Rattle.coop_linear.specs.TaskImages.{call_number, link_in, return_line, task_image}

-- ---- an invoke's number

invokes_number : (b : Bool) → invokes (if b then 1 else 2) ≡ true
invokes_number true = refl
invokes_number false = refl

same_lines : (b : Bool) → lines_of (if b then 1 else 2) ≡ lines_of 1
unfolding lines_of
same_lines true = refl
same_lines false = refl

-- a known kind that is not 0 is the number of its invoke
pub kind_number : (k : ℕ) (b : Bool) → ¬ (k ≡ 0) → k ≤ 2 → eqb k 1 ≡ b → k ≡ (if b then 1 else 2)
kind_number k true d a e = eqb-true k 1 e
kind_number k false d a e = let n = eqb-false k 1 e in omega arith

-- ---- its line

invoke_line : (n : ℕ) (l : Point) → Shape (running (invoker n) l) → member (parts l).line (lines_of 1) ≡ true
unfolding member lines_of invoke_lines freeze_lines help_lines
invoke_line n at95 s = refl
invoke_line n at96 s = refl
invoke_line n at99 s = refl
invoke_line n (at100 o) s = refl
invoke_line n (at101 o) s = refl
invoke_line n (at102 m o) s = refl
invoke_line n (at107 m) s = refl
invoke_line n at109 s = absurd (no_freezer s)
invoke_line n at120 s = refl
invoke_line n at121 s = refl
invoke_line n (at122 o) s = refl
invoke_line n (at123 o) s = refl
invoke_line n at127 s = refl
invoke_line n (at129 b) s = refl
invoke_line n (at130 b o) s = refl
invoke_line n (at138 b o m) s = refl
invoke_line n (at139 b o m) s = refl
invoke_line n (at140 b o m) s = refl

role_line : (T : Operations) (j : Role) (l : Point) → Shape (running j l) → member (parts l).line (lines_of (call_number T j)) ≡ true
unfolding member lines_of invoke_lines freeze_lines help_lines
role_line T (invoker n) l s = rw (same_lines (T.inserts n)) (invoke_line n l s)
role_line T freezer at95 s = absurd (no_invoker s.1)
role_line T freezer at96 s = absurd (no_invoker s.1)
role_line T freezer at99 s = absurd (no_invoker s.1)
role_line T freezer (at100 o) s = absurd (no_invoker s.1)
role_line T freezer (at101 o) s = absurd (no_invoker s.1)
role_line T freezer (at102 m o) s = absurd (no_invoker s)
role_line T freezer (at107 m) s = absurd (no_invoker s)
role_line T freezer at109 s = refl
role_line T freezer at120 s = refl
role_line T freezer at121 s = refl
role_line T freezer (at122 o) s = refl
role_line T freezer (at123 o) s = refl
role_line T freezer at127 s = refl
role_line T freezer (at129 b) s = refl
role_line T freezer (at130 b o) s = refl
role_line T freezer (at138 b o m) s = refl
role_line T freezer (at139 b o m) s = refl
role_line T freezer (at140 b o m) s = refl

-- ---- where its HELPFINISH returns to

return_known : (T : Operations) (j : Role) (b : ReturnTo) → Tied j b
    → (eqb (return_line b) 126 || (invokes (call_number T j) && (eqb (return_line b) 103 || eqb (return_line b) 106))) ≡ true
return_known T (invoker n) (to103 m) s = rw (invokes_number (T.inserts n))
return_known T (invoker n) to106 s = rw (invokes_number (T.inserts n))
return_known T (invoker n) to126 s = refl
return_known T freezer (to103 m) s = absurd s
return_known T freezer to106 s = absurd s
return_known T freezer to126 s = refl

role_back : (T : Operations) (slot : ℕ → ℕ) (own : ℕ) (j : Role) (l : Point) → Shape (running j l) → back_of_line (task_image T slot own (running j l)) ≡ true
unfolding back_of_line member help_lines
role_back T slot own j at95 s = refl
role_back T slot own j at96 s = refl
role_back T slot own j at99 s = refl
role_back T slot own j (at100 o) s = refl
role_back T slot own j (at101 o) s = refl
role_back T slot own j (at102 m o) s = refl
role_back T slot own j (at107 m) s = refl
role_back T slot own j at109 s = refl
role_back T slot own j at120 s = refl
role_back T slot own j at121 s = refl
role_back T slot own j (at122 o) s = refl
role_back T slot own j (at123 o) s = refl
role_back T slot own j at127 s = refl
role_back T slot own j (at129 b) s = return_known T j b s
role_back T slot own j (at130 b o) s = return_known T j b s
role_back T slot own j (at138 b o m) s = return_known T j b s
role_back T slot own j (at139 b o m) s = return_known T j b s
role_back T slot own j (at140 b o m) s = return_known T j b s

-- ---- its operation, its version, the operation that it helps

-- what is known of a running call's operation
abbrev pub OperationKnown : Operations → Machine → Position → Type 0
OperationKnown T y no_call = Unit {0}
OperationKnown T y (running (invoker n) l) = (n < 64) × ((operation_of y n).kind ≡ (if T.inserts n then 1 else 2))
OperationKnown T y (running freezer l) = Unit {0}
OperationKnown T y (member_112 k) = Unit {0}
OperationKnown T y (member_113 k o) = Unit {0}
OperationKnown T y (response_117 n) = (n < 64) × ((operation_of y n).returned ≡ true)

module _ (T : Operations) (y : Machine) (slot : ℕ → ℕ) (own : ℕ) where
  role_operation : (j : Role) (l : Point) → OperationKnown T y (running j l) → operation_of_call y (task_image T slot own (running j l)) ≡ true
  unfolding operation_of_call
  role_operation (invoker n) l k =
      and_i (ltb n 64) _ (lt-ltb n 64 k.0)
      (rw (invokes_number (T.inserts n)) (eq-eqb (operation_of y n).kind (if T.inserts n then 1 else 2) k.1))
  role_operation freezer l k = refl

  o_below : (o : Place ℕ) → ((v : ℕ) → Has o v → slot v < version_count y) → link_in slot o ≤ version_count y
  o_below empty b = omega arith
  o_below (holds o) b = let a = b o refl in omega arith

  help_known : (m : ℕ) → m < 64 → ¬ ((operation_of y m).kind ≡ 0) → (not (filled (link m)) || was_invoked y (number (link m))) ≡ true
  unfolding was_invoked
  help_known m b d =
      or_r (not (filled (link m))) (was_invoked y (number (link m)))
      (rw (number_link m) (and_i (ltb m 64) _ (lt-ltb m 64 b) (rw (ne_eqb (operation_of y m).kind 0 d))))

  -- the operation that HELPFINISH has found
  abbrev pub Invoked : Place ℕ → Type 0
  Invoked m = (i : ℕ) → Has m i → (i < 64) × (¬ ((operation_of y i).kind ≡ 0))

  role_helped : (m : Place ℕ) → Invoked m → (not (filled (link_in (λ i. i) m)) || was_invoked y (number (link_in (λ i. i) m))) ≡ true
  role_helped empty k = refl
  role_helped (holds m) k = let q = k m refl in help_known m q.0 q.1

  -- ---- the whole record of task p

  abbrev pub HelpKnown : Position → Type 0
  HelpKnown no_call = Unit {0}
  HelpKnown (running j l) = Invoked (parts l).helped
  HelpKnown (member_112 k) = Unit {0}
  HelpKnown (member_113 k o) = Unit {0}
  HelpKnown (response_117 n) = Unit {0}

  module _ (p : ℕ) where
    pub image_sound : (l : Position) → ((c : AtomicCall) → call_at l ≡ runs c → p < y.state.tasks) → Shape l → OperationKnown T y l → HelpKnown l
        → ((v : ℕ) → Names l v → slot v < version_count y)
        → sound_task y p (task_image T slot own l) ≡ true
    unfolding sound_task sound_running zero_task every operation_of_call back_of_line member lines_of member_lines help_lines
    image_sound no_call b s k h w = refl
    image_sound (running j l) b s k h w =
        and_i _ _
        (and6_i _ _ _ _ _ _ (lt-ltb p y.state.tasks (below j b)) (role_line T j l s) (role_back T slot own j l s) (role_operation j l k)
        (or_r (eqb (call_number T j) 4) true refl) (le-leb (link_in slot (parts l).o) (version_count y) (o_below (parts l).o w)))
        (role_helped (parts l).helped h)
      where
        below : (j : Role) → ((c : AtomicCall) → call_at (running j l) ≡ runs c → p < y.state.tasks) → p < y.state.tasks
        below (invoker n) b = b (invoke n) refl
        below freezer b = b freeze refl
    image_sound (member_112 k) b s o h w = rw (lt-ltb p y.state.tasks (b (has_member k) refl), le-leb 0 (version_count y) (omega arith))
    image_sound (member_113 k v) b s o h w =
        let a = w v refl in rw (lt-ltb p y.state.tasks (b (has_member k) refl), le-leb (link (slot v)) (version_count y) (omega arith))
    image_sound (response_117 n) b s o h w =
        rw (lt-ltb p y.state.tasks (b (get_response n) refl), lt-ltb n 64 o.0, o.1, le-leb 0 (version_count y) (omega arith))
