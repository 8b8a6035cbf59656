-- `timeline_program::text` meets its contract: a timeline is a program that prints as it goes. Assumes nothing.
use Rattle.std.proofs.Common.{sym, ap}
use Rattle.session.specs.Grammar.{input_lines}
use Rattle.stdio.specs.Runs.{prints_as}
use Rattle.timeline.specs.declared.Timeline.{Timeline}
use Rattle.timeline_program.specs.Running.{running, timeline_over, timeline_output}
use Rattle.timeline_program.proofs.text.Goals as goal

pub returns : goal.returns
unfolding timeline_over
returns g c =
    let a = c.args in
    let begun = sym c.new_timeline.ensures in record {
      prints =
          prints_as _ (timeline_over a.ns.now a.bs.now)
          (λ xs. ap (λ (t : Timeline). timeline_output (running t a.ns.now a.bs.now) (input_lines xs)) begun)
          _ _ _ _ c.text.ensures.prints;
      len_in_bounds = c.text.ensures.len_in_bounds;
    }
