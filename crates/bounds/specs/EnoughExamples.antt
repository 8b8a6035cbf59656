-- Examples for request U11's first promise: its numbers, at the bound and one word less, and outputs without refusal 7; those with it, and
-- schedules with fewer records that meet it, stand in proofs/EnoughExamples. Assumes nothing.
use Rattle.std.specs.Prelude.{ℕ, ◌≤◌, ◌≡◌, refl, List, [], ◌∷◌, map, length, replicate, Ok, Err}
use Rattle.std.proofs.Common.{arith, ap}
use Rattle.spec.specs.declared.Refusal.{Refusal}
use Rattle.spec.specs.declared.Refusal.TheVariants.{Idle, NoRecord, Spoilt}
use Rattle.spec.specs.declared.Progress.TheVariants.{At}
use Rattle.spec.specs.Machine.{config_of}
use Rattle.spec.specs.Outputs.{Output}
use Rattle.spec.specs.Numbers.{refusal_number}
use Rattle.bounds.specs.EnoughRecords.{enough_nodes, enough_buckets, Enough, NoSeven}

-- ---- the numbers, for 1, 2 and 8 tasks

pub numbers :
    (map enough_nodes (1 ∷ 2 ∷ 8 ∷ []) ≡ 4 ∷ 6 ∷ 18 ∷ []) × (map enough_buckets (1 ∷ 2 ∷ 8 ∷ []) ≡ 132 ∷ 200 ∷ 608 ∷ [])
numbers = (refl, refl)

-- 4 nodes of 34 words and 132 buckets of 66 are enough for one task; so are more, and not one word less of either
pub enough : {ns bs : List ℕ} → 136 ≤ length ns → 8712 ≤ length bs → Enough (config_of 1) ns bs
enough n b = record { nodes = n; buckets = b }

-- a reading
pub at_least : {ns bs : List ℕ} → Enough (config_of 1) ns bs → (136 ≤ length ns) × (8712 ≤ length bs)
at_least e = (e.nodes, e.buckets)

pub too_few : (¬ Enough (config_of 1) (replicate 135 7) (replicate 8712 7)) × (¬ Enough (config_of 1) (replicate 136 7) (replicate 8711 7))
too_few = (λ e. (let n = e.nodes in omega arith), λ e. (let b = e.buckets in omega arith))

-- ---- "no schedule meets refusal 7"

other_refusal : (r : Refusal) → ¬ (refusal_number r ≡ 7) → ¬ (◌≡◌ {A = Output} (Err r) (Err NoRecord))
other_refusal r f e = let z : r ≡ NoRecord = cc in f (ap refusal_number z)

-- other refusals are allowed, and 7 as a line
pub no_seven : NoSeven (Ok (At 7) ∷ Err Idle ∷ Err Spoilt ∷ [])
no_seven =
    (λ e. (let z : ◌≡◌ {A = ℕ} 0 1 = cc in omega arith), (other_refusal Idle (λ e. omega arith), (other_refusal Spoilt (λ e. omega arith), tt)))
