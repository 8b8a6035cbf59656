-- What is promised of every schedule after an opening with enough records, of either version and under any rule for the tags that may be
-- started: whatever stood in the two slices before, and whatever starts and steps follow, accepted or refused.
--
--   never_7   no start and no step is refused with 7 (paper 02, U11)
--
-- Few records are held: the head, its predecessor and two nodes of each task, the buckets of these nodes and four of each task. Of the task
-- that takes a record at line 27 or 49 one of its own is none or counted twice, so that a record is free (FewNodesHeld, FewBucketsHeld).
-- Held nodes are no more than these because every chain of predecessors is short (HeldChains). Assumes nothing.
use Rattle.std.specs.Prelude.{◌≡◌, List, ℕ}
use Rattle.spec.specs.declared.Config.{Config}
use Rattle.spec.specs.Entries.{opening}
use Rattle.spec.specs.Schedule.{Event, schedule}
use Rattle.linear.specs.Schedules.{schedule_runs}
use Rattle.bounds.specs.EnoughRecords.{Enough, NoSeven}
use Rattle.bounds.proofs.RecordsSuffice.{run_no_seven, enough_at_opening}

pub never_7 : (g : Config) (ns bs : List ℕ) → (opening g ns bs).refusal ≡ 0 → Enough g ns bs → (es : List Event)
    → NoSeven (schedule g ns bs es).outs
never_7 g ns bs ok enough es =
    rw (schedule_runs g ns bs ok es) (run_no_seven (opening g ns bs).machine (enough_at_opening g ns bs ok enough) es)
