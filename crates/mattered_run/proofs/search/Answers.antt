-- `search` tries one event after the other. Assumes nothing.
use Rattle.std.proofs.Common.{refl, sym, ◌∙◌}
use Rattle.schedule_events.specs.EventLaws.{events_length}
use Rattle.mattered_run.proofs.Verdicts.{again_machine, alters_read, search_start, search_found, search_on, search_end}
use Rattle.mattered_run.proofs.search.Goals as goal

pub loop-k-init : goal.loop-k-init
loop-k-init c =
    let a = c.args in
    record { nodes = refl; buckets = refl; search = search_start _ _ a.r.count (events_length a.r.count a.r.events.now) }

pub returns-then-matters : goal.returns-then-matters
returns-then-matters c =
    let a = c.args in
    let l = c.loop-k in
    let same = again_machine a.r.config a.ns.now a.bs.now l.ns l.bs l.invariant.nodes l.invariant.buckets c.requires.0 in
    let r = alters_read _ _ same _ _ c.requires.1 l.k c.matters.result c.matters.ensures in
    search_found _ _ a.r.count l.k l.invariant.search c.loop-k-test.true (sym r ∙ c.if-matters.true)

pub loop-k-preserved : goal.loop-k-preserved
loop-k-preserved c =
    let a = c.args in
    let l = c.loop-k in
    let m = c.matters in
    let same = again_machine a.r.config a.ns.now a.bs.now l.ns l.bs l.invariant.nodes l.invariant.buckets c.requires.0 in
    let r = alters_read _ _ same _ _ c.requires.1 l.k m.result m.ensures in
    record {
      nodes = m.auto.ns ∙ l.invariant.nodes;
      buckets = m.auto.bs ∙ l.invariant.buckets;
      search = search_on _ _ a.r.count l.k l.invariant.search c.loop-k-test.true (sym r ∙ c.if-matters.false);
    }

pub returns : goal.returns
returns c = search_end _ _ _ c.loop-k.k c.loop-k.invariant.search c.loop-k-test.false
