-- What rests on statements of specs/ToldRows.antt that a must-fail edit makes false: theorems moved from there as they stood. Assumes nothing.
use Rattle.std.specs.Prelude.{ℕ, ◌≡◌, refl, List, [], ◌∷◌, ◌++◌, false, replicate}
use Rattle.std.proofs.Common.{arith}
use Rattle.coop_spec.specs.declared.Call.TheVariants.{HasMember}
use Rattle.coop_spec.specs.Atomic.{has_member, boolean}
use Rattle.coop_spec.specs.History.{Occurrence}
use Rattle.coop_spec.specs.Linearizable.{In, Linearizable, Timely, here, there}
use Rattle.coop_spec.specs.Rows.{calling}
use Rattle.coop_spec.specs.ToldRows.{called, ended_call, tested, tests_told}

-- the second test started after the first had ended: it cannot stand before it
pub second_first : ¬ Timely tested.ended (called 0 3 (has_member 6) (boolean false) ∷ called 0 0 (has_member 5) (boolean false) ∷ [])
second_first t =
    let first : In (ended_call 0 0 (has_member 5) (boolean false) 2) tested.ended = rw tests_told (there here) in
    let late = t.0.0 (ended_call 0 0 (has_member 5) (boolean false) 2) first (refl, refl) in
    omega arith

-- an order has every ended call: one of no call has none
in_none : {e : Occurrence} {L : List Occurrence} → In e L → L ≡ [] → ⊥
in_none here q = let z : ◌≡◌ {A = ℕ} 0 1 = cc in omega arith
in_none (there i) q = let z : ◌≡◌ {A = ℕ} 0 1 = cc in omega arith

pub left_out : (l : Linearizable 1 (replicate 66 7) (calling 0 HasMember 0 5 2 ++ calling 0 HasMember 0 6 2)) → ¬ (l.order ≡ [])
unfolding tested
left_out l q =
    in_none (l.ended (ended_call 0 0 (has_member 5) (boolean false) 2) (rw tests_told (there here))) q
