-- Examples for request U11's first promise: refusal 7 wherever it stands among the outputs; and schedules with fewer records that meet it.
-- Assumes nothing.
use Rattle.std.specs.Prelude.{refl, [], ◌∷◌, ◌++◌, replicate, Ok, Err}
use Rattle.std.proofs.Common.{arith}
use Rattle.spec.specs.declared.Refusal.TheVariants.{Idle, NoRecord}
use Rattle.spec.specs.declared.Call.TheVariants.{Insert, Grow}
use Rattle.spec.specs.declared.Progress.TheVariants.{At}
use Rattle.spec.specs.Machine.{config_of}
use Rattle.spec.specs.Schedule.{schedule}
use Rattle.spec.specs.Rows.{stepping, calling}
use Rattle.spec.specs.Everything.{everything}
use Rattle.bounds.specs.EnoughRecords.{Enough, NoSeven}

-- the first, the second and last, one in the middle, the last of four
pub a_seven :
    (¬ NoSeven (Err NoRecord ∷ Ok (At 33) ∷ [])) × (¬ NoSeven (Ok (At 32) ∷ Err NoRecord ∷ [])) × (¬ NoSeven (Ok (At 32) ∷ Ok (At 33) ∷ Err NoRecord ∷ Ok (At 36) ∷ []))
    × (¬ NoSeven (Ok (At 32) ∷ Ok (At 33) ∷ Err Idle ∷ Err NoRecord ∷ []))
a_seven = (λ n. n.0 refl, λ n. n.1.0 refl, λ n. n.1.1.0 refl, λ n. n.1.1.1.0 refl)

-- one node for one task, with as many buckets as are enough: a grow meets 7 at line 27
pub one_node_meets_7 :
    (¬ NoSeven (schedule (config_of 1) (replicate 34 7) (replicate 8712 7) (calling 0 Grow 0 6)).outs)
    × (¬ Enough (config_of 1) (replicate 34 7) (replicate 8712 7))
unfolding everything stepping calling
one_node_meets_7 = (λ n. n.1.1.1.1.1.1.0 refl, λ e. (let n = e.nodes in omega arith))

-- two nodes and one bucket: the grow is done, and an insert meets it at line 49
pub one_bucket_meets_7 : ¬ NoSeven (schedule (config_of 1) (replicate 68 7) (replicate 66 7) (calling 0 Grow 0 7 ++ calling 0 Insert 5 7)).outs
unfolding everything stepping calling
one_bucket_meets_7 n = n.1.1.1.1.1.1.1.1.1.1.1.1.1.1.1.0 refl
