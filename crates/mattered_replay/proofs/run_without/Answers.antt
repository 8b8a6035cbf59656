-- `run_without` opens, and runs the events but for event k. Assumes nothing.
use Rattle.std.proofs.Common.{sym, ◌∙◌, arith, rules}
use Rattle.schedule_events.specs.EventLaws.{event_at}
use Rattle.mattered_replay.proofs.Noting.{run_start, run_past, run_on, run_noted, known_opened, known_after}
use Rattle.mattered_replay.proofs.run_without.Goals as goal

pub loop-i-init : goal.loop-i-init
loop-i-init c =
    let a = c.args in
    let o = c.open-o in
    record {
      nodes = search rules;
      buckets = search rules;
      calls = search rules;
      few = omega arith;
      run = run_start a.r.events.now a.k a.r.count _;
      sound = known_opened a.r.config a.ns.now a.bs.now _ o.ensures.0 o.ensures.1 _ c.is_none.ensures;
    }

-- event k is left out
pub loop-i-preserved-then-i-k : goal.loop-i-preserved-then-i-k
loop-i-preserved-then-i-k c =
    let a = c.args in
    let inv = c.loop-i.invariant in
    record {
      nodes = inv.nodes;
      buckets = inv.buckets;
      calls = inv.calls;
      few = omega (arith, inv.few);
      run = run_past a.r.events.now a.k a.r.count _ inv.run c.loop-i-test.true c.if-i-k.true;
      sound = inv.sound;
    }

pub loop-i-preserved : goal.loop-i-preserved
loop-i-preserved c =
    let a = c.args in
    let inv = c.loop-i.invariant in
    let r = c.after-run in
    record {
      nodes = r.auto.ns ∙ inv.nodes;
      buckets = r.auto.bs ∙ inv.buckets;
      calls = r.auto.calls ∙ inv.calls;
      few = omega (arith, r.ensures.turn.0, inv.few);
      run = run_on a.r.events.now a.k a.r.count _ inv.run c.loop-i-test.true c.if-i-k.false _ r.ensures.turn.1;
      sound = r.ensures.as_sound ∙ inv.sound ∙ sym (known_after _ _ (event_at a.r.events.now c.loop-i.i) r.ensures.turn.1);
    }

pub returns : goal.returns
returns c =
    let a = c.args in
    let inv = c.loop-i.invariant in
    run_noted a.r.events.now a.k a.r.count _ _ c.open-o.ensures.1 a.calls.now inv.run c.loop-i-test.false (omega (arith, inv.few)) a.r.few c.requires
