-- What rests on statements of specs/Enough.antt that a must-fail edit makes false: theorems moved from there as they stood. Assumes nothing.
use Rattle.std.specs.Prelude.{◌≤◌, ℕ, ◌↔◌}
use Rattle.std.proofs.Common.{arith}
use Rattle.coop_spec.specs.Linearizable.{Suffices, enough_versions}
use Rattle.coop_laws.specs.Enough.{least, suffices}

-- of T tasks, v versions always suffice exactly if there are more of them than tasks
pub suffices_iff : (t v : ℕ) → 1 ≤ t → t ≤ 8 → Suffices t v ↔ (enough_versions t ≤ v)
suffices_iff t v low high = (least t v low high, λ le ws es enough. suffices t ws es (omega arith))
