-- Every line does in the words what it does in the model, given what must be known of its position. Assumes nothing.
use Rattle.std.specs.Prelude.{ℕ, ◌≡◌}
use Rattle.std.proofs.Common.{subst, sym}
use Rattle.coop_spec.specs.Atomic.{Operations}
use Rattle.coop_spec.specs.Machine.{Machine}
use Rattle.coop_model.specs.Heap.{Heap, op}
use Rattle.coop_model.specs.Positions.{Position, Role, at100, at101, at102, at107, at109, at120, at121, at122, at123, at127, at129, at130, at138}
use Rattle.coop_model.specs.Positions.{at139, at140, at95, at96, at99, freezer, invoker, member_112, member_113, no_call, response_117, running}
use Rattle.coop_model.specs.Positions.{to103, to106, to126}
use Rattle.coop_linear.specs.LineOutcomes.{Right, does_95, does_96, does_99, does_100, does_101, does_102, does_107, does_109, does_112}
use Rattle.coop_linear.specs.LineOutcomes.{does_113, does_117, does_120, does_121, does_122, does_123, does_127_invoke, does_127_freeze}
use Rattle.coop_linear.specs.LineOutcomes.{does_129, does_130_103, does_130_106, does_130_126, does_138, does_139, does_140_103, does_140_106}
use Rattle.coop_linear.specs.LineOutcomes.{does_140_126}
use Rattle.coop_linear.specs.Represents.{Represents}
use Rattle.coop_linear.specs.Shapes.{Invokes, Tied, no_invoker}

module _ {T : Operations} {y : Machine} {h : Heap} {K : ℕ → Type 0} {slot : ℕ → ℕ} (rep : Represents T y h K slot) where
  -- its version is known, its role is one that gets there, and its version has the operation that HELPFINISH found
  abbrev pub Fit : Position → Type 0
  Fit no_call = ⊥
  Fit (running j at95) = Invokes j
  Fit (running j at96) = Invokes j
  Fit (running j at99) = Invokes j
  Fit (running j (at100 o)) = K o × Invokes j
  Fit (running j (at101 o)) = K o × Invokes j
  Fit (running j (at102 n o)) = K o × (j ≡ invoker n)
  Fit (running j (at107 n)) = j ≡ invoker n
  Fit (running j at109) = j ≡ freezer
  Fit (running j at120) = Unit {0}
  Fit (running j at121) = Unit {0}
  Fit (running j (at122 o)) = K o
  Fit (running j (at123 o)) = K o
  Fit (running j at127) = Unit {0}
  Fit (running j (at129 b)) = Tied j b
  Fit (running j (at130 b o)) = K o × Tied j b
  Fit (running j (at138 b o m)) = K o × (h.op_at o ≡ op m) × Tied j b
  Fit (running j (at139 b o m)) = K o × (h.op_at o ≡ op m) × Tied j b
  Fit (running j (at140 b o m)) = K o × (h.op_at o ≡ op m) × Tied j b
  Fit (member_112 k) = Unit {0}
  Fit (member_113 k o) = K o
  Fit (response_117 n) = Unit {0}

  module _ (own : ℕ) where
    pub does : (l : Position) → Fit l → Right rep own l
    does no_call f = absurd f
    does (running (invoker n) at95) f = does_95 rep own n
    does (running freezer at95) f = absurd (no_invoker f.1)
    does (running (invoker n) at96) f = does_96 rep own n
    does (running freezer at96) f = absurd (no_invoker f.1)
    does (running (invoker n) at99) f = does_99 rep own n
    does (running freezer at99) f = absurd (no_invoker f.1)
    does (running (invoker n) (at100 o)) f = does_100 rep own o f.0 n
    does (running freezer (at100 o)) f = absurd (no_invoker f.1.1)
    does (running (invoker n) (at101 o)) f = does_101 rep own n o
    does (running freezer (at101 o)) f = absurd (no_invoker f.1.1)
    does (running j (at102 n o)) f = subst (λ (i : Role). Right rep own (running i (at102 n o))) (sym f.1) (does_102 rep own o f.0 n)
    does (running j (at107 n)) f = subst (λ (i : Role). Right rep own (running i (at107 n))) (sym f) (does_107 rep own n)
    does (running j at109) f = subst (λ (i : Role). Right rep own (running i at109)) (sym f) (does_109 rep own)
    does (running j at120) f = does_120 rep own j
    does (running j at121) f = does_121 rep own j
    does (running j (at122 o)) f = does_122 rep own o f j
    does (running j (at123 o)) f = does_123 rep own o f j
    does (running (invoker n) at127) f = does_127_invoke rep own n
    does (running freezer at127) f = does_127_freeze rep own
    does (running j (at129 b)) f = does_129 rep own j b
    does (running (invoker n) (at130 (to103 m) o)) f =
        subst (λ (i : ℕ). Right rep own (running (invoker n) (at130 (to103 i) o))) (sym f.1) (does_130_103 rep own o f.0 n)
    does (running (invoker n) (at130 to106 o)) f = does_130_106 rep own o f.0 n
    does (running (invoker n) (at130 to126 o)) f = does_130_126 rep own o f.0 (invoker n)
    does (running freezer (at130 (to103 m) o)) f = absurd f.1
    does (running freezer (at130 to106 o)) f = absurd f.1
    does (running freezer (at130 to126 o)) f = does_130_126 rep own o f.0 freezer
    does (running j (at138 b o m)) f = does_138 rep own o f.0 m f.1 j b
    does (running j (at139 b o m)) f = does_139 rep own o f.0 m f.1 j b
    does (running (invoker n) (at140 (to103 i) o m)) f = subst (λ (x : ℕ). Right rep own (running (invoker n) (at140 (to103 x) o m))) (sym f.2)
        (does_140_103 rep own o f.0 m f.1 n)
    does (running (invoker n) (at140 to106 o m)) f = does_140_106 rep own o f.0 m f.1 n
    does (running (invoker n) (at140 to126 o m)) f = does_140_126 rep own o f.0 m f.1 (invoker n)
    does (running freezer (at140 (to103 i) o m)) f = absurd f.2
    does (running freezer (at140 to106 o m)) f = absurd f.2
    does (running freezer (at140 to126 o m)) f = does_140_126 rep own o f.0 m f.1 freezer
    does (member_112 k) f = does_112 rep own k
    does (member_113 k o) f = does_113 rep own o f k
    does (response_117 n) f = does_117 rep own n
