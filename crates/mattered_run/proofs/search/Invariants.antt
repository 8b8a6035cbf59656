-- The verdict is that of the search from here on.
use Rattle.std.proofs.Common.{◌≡◌, length}
use Rattle.spec.specs.Entries.{opening}
use Rattle.schedule_events.specs.Events.{events_of}
use Rattle.mattered_run.proofs.Verdicts.{SearchLeft}
use Rattle.mattered_run.proofs.search.Given as goal

abbrev pub invariant-loop-k : goal.invariant-loop-k
invariant-loop-k l = record {
  nodes : length l.ns ≡ length l.fn.ns;
  buckets : length l.bs ≡ length l.fn.bs;
  search : SearchLeft (opening l.r.config l.fn.ns l.fn.bs).machine (events_of l.r.count l.r.events.now) l.r.count l.k;
}
