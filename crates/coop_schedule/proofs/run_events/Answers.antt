-- The machine and the words of the whole run are those of running the remaining events from the present machine, with their outputs after those written.
-- A turn is `turn` of Laws.
use Rattle.std.proofs.Common.{ℕ, List, ◌*◌, ap, ◌∙◌, arith}
use Rattle.spec.specs.Words.{overwrite}
use Rattle.coop_schedule.proofs.Laws.{rest_start, turn, finished}
use Rattle.coop_schedule.proofs.run_events.Goals as goal

pub loop-i-init : goal.loop-i-init
loop-i-init c = rest_start c.args.events.now c.args.n 0 _ _

pub loop-i-preserved : goal.loop-i-preserved
loop-i-preserved c =
    let l = c.loop-i in
    let room = c.requires.1 in
    let written = c.write_words.ensures ∙ ap (λ (w : List ℕ). overwrite l.outs (4 * l.i) w) c.output_words.ensures in
    turn c.args.events.now c.args.n l.i c.loop-i-test.true (omega arith) l.invariant _ c.run_event-r.ensures _ written

pub returns : goal.returns
returns c = finished c.args.events.now c.args.n c.loop-i.i (omega arith) c.loop-i.invariant
