-- `reader::program::yardverify` meets its contract. Assumes nothing.
use native.Mathlib.Omega.{arith}
use Rattle.stdio.specs.Runs.{exits_kept}
use Rattle.reader.proofs.program.yardverify.Goals as goal

pub text-t-requires : goal.text-t-requires
text-t-requires g c =
    (omega (arith, c.node_words-ns.ensures.0), omega (arith, c.bucket_words-bs.ensures.0), omega arith)

pub returns : goal.returns
returns g c =
    let t = c.text-t in
    record { room = _; input = t.result.input; text = _; prints = t.ensures.prints; exits = exits_kept _ _ _ c.exit.ensures }
