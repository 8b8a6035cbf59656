-- `plan_text::program::yardplan` meets its contract. Assumes nothing.
use Rattle.stdio.specs.Runs.{exits_kept}
use Rattle.plan_text.proofs.program.yardplan.Goals as goal

pub returns : goal.returns
returns g c =
    let t = c.text-t in
    record { room = _; input = t.result.input; text = _; prints = t.ensures.prints; exits = exits_kept _ _ _ c.exit.ensures }
