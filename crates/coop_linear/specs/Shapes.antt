-- Where calls get to: which role stands at which point, and where its HELPFINISH returns to. Every line leads from such a position to such a
-- position. Assumes nothing.
use Rattle.std.specs.Prelude.{◌<◌, ℕ, ◌≡◌, refl}
use Rattle.std.proofs.Common.{arith}
use Rattle.coop_spec.specs.Atomic.{AtomicCall, Operations, Result}
use Rattle.coop_model.specs.Heap.{Heap}
use Rattle.coop_model.specs.Lines.{End, Line, e107_no, e107_yes, e113_op, e113_set, e117, e127, e130, e140, e140_lost, l100_nil, l100_op, l101_done}
use Rattle.coop_model.specs.Lines.{l101_on, l102_lost, l109, l112, l120_frozen, l120_on, l121, l122_nil, l122_op, l123_lost, l127, l129, l130_106}
use Rattle.coop_model.specs.Lines.{l130_126, l130_op, l138, l139, l140_106, l140_106_lost, l140_126, l140_126_lost, l95_done, l95_frozen, l95_on}
use Rattle.coop_model.specs.Lines.{l96_down, l96_up, l99}
use Rattle.coop_model.specs.Positions.{Position, ReturnTo, Role, at100, at101, at102, at107, at109, at120, at121, at122, at123, at127, at129, at130}
use Rattle.coop_model.specs.Positions.{at138, at139, at140, at95, at96, at99, call_at, freezer, invoker, member_112, member_113, no_call}
use Rattle.coop_model.specs.Positions.{response_117, running, runs, to103, to106, to126}

abbrev pub Invokes : Role → Type 0
Invokes j = (n : ℕ) × (j ≡ invoker n)

-- HELPFINISH was called by this role: an invoke from 103 or 106, or DOFREEZE from 126
abbrev pub Tied : Role → ReturnTo → Type 0
Tied (invoker n) (to103 m) = m ≡ n
Tied (invoker n) to106 = Unit {0}
Tied (invoker n) to126 = Unit {0}
Tied freezer (to103 m) = ⊥
Tied freezer to106 = ⊥
Tied freezer to126 = Unit {0}

abbrev pub Shape : Position → Type 0
Shape no_call = Unit {0}
Shape (running j at95) = Invokes j
Shape (running j at96) = Invokes j
Shape (running j at99) = Invokes j
Shape (running j (at100 o)) = Invokes j
Shape (running j (at101 o)) = Invokes j
Shape (running j (at102 n o)) = j ≡ invoker n
Shape (running j (at107 n)) = j ≡ invoker n
Shape (running j at109) = j ≡ freezer
Shape (running j at120) = Unit {0}
Shape (running j at121) = Unit {0}
Shape (running j (at122 o)) = Unit {0}
Shape (running j (at123 o)) = Unit {0}
Shape (running j at127) = Unit {0}
Shape (running j (at129 b)) = Tied j b
Shape (running j (at130 b o)) = Tied j b
Shape (running j (at138 b o m)) = Tied j b
Shape (running j (at139 b o m)) = Tied j b
Shape (running j (at140 b o m)) = Tied j b
Shape (member_112 k) = Unit {0}
Shape (member_113 k o) = Unit {0}
Shape (response_117 n) = n < 64

-- the two roles differ
pub no_freezer : {n : ℕ} → invoker n ≡ freezer → ⊥
no_freezer e = let z : ◌≡◌ {A = ℕ} 0 1 = cc in omega arith

pub no_invoker : {n : ℕ} → freezer ≡ invoker n → ⊥
no_invoker e = let z : ◌≡◌ {A = ℕ} 0 1 = cc in omega arith

tied_126 : (j : Role) → Tied j to126
tied_126 (invoker n) = tt
tied_126 freezer = tt

pub line_shape : {T : Operations} {h g : Heap} {l l' : Position} → Line T h l g l' → Shape l → Shape l'
line_shape (l95_on {n = n} x d) s = (n, refl)
line_shape (l95_done d) s = refl
line_shape (l95_frozen e) s = refl
line_shape (l96_up f) s = tt
line_shape (l96_down {n = n} f) s = (n, refl)
line_shape (l99 {n = n}) s = (n, refl)
line_shape (l100_nil {n = n} e) s = (n, refl)
line_shape (l100_op e) s = tt
line_shape (l101_on d) s = refl
line_shape (l101_done {n = n} d) s = (n, refl)
line_shape (l102_lost {n = n} e) s = (n, refl)
line_shape l109 s = tt
line_shape l112 s = tt
line_shape (l120_frozen e) s = tt
line_shape (l120_on e) s = tt
line_shape l121 s = tt
line_shape (l122_nil e) s = tt
line_shape (l122_op {j = j} e) s = tied_126 j
line_shape (l123_lost e) s = tt
line_shape l127 s = refl
line_shape l129 s = s
line_shape (l130_op e) s = s
line_shape (l130_106 {n = n} x) s = (n, refl)
line_shape (l130_126 x) s = tt
line_shape l138 s = s
line_shape l139 s = s
line_shape (l140_106 {n = n} q) s = (n, refl)
line_shape (l140_126 q) s = tt
line_shape (l140_106_lost {n = n} q) s = (n, refl)
line_shape (l140_126_lost q) s = tt

-- the call that a line ends is the one that its task runs
pub ends_call : {T : Operations} {h g : Heap} {l : Position} {c : AtomicCall} {a : Result} → End T h l g c a → call_at l ≡ runs c
ends_call (e107_yes d) = refl
ends_call (e107_no d) = refl
ends_call (e113_op e q) = refl
ends_call (e113_set n) = refl
ends_call e117 = refl
ends_call e127 = refl
ends_call (e130 x) = refl
ends_call (e140 q) = refl
ends_call (e140_lost q) = refl
