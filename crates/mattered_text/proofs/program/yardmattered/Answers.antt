-- `mattered_text::program::yardmattered` meets its contract. Assumes nothing.
use native.Mathlib.Omega.{arith}
use Rattle.stdio.specs.Runs.{exits_kept}
use Rattle.mattered_text.proofs.program.yardmattered.Goals as goal

pub text-t-requires : goal.text-t-requires
text-t-requires g c = (omega arith, omega arith)

pub returns : goal.returns
returns g c =
    let t = c.text-t in
    record { room = _; input = t.result.input; text = _; prints = t.ensures.prints; exits = exits_kept _ _ _ c.exit.ensures }
