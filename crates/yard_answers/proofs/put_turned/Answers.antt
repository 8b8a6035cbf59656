-- `put_turned` meets its contract: what a move writes, and the task chosen last.
use Prim.Native.Nat.{ℕ}
use mathlib.Core.Path.{ap, ◌∙◌}
use mathlib.Core.List.{List}
use native.Mathlib.Omega.{arith}
use lib.ListN.{set}
use Rattle.state_words.specs.RoundTrip.{fits_long}
use Rattle.yard_answers.proofs.Laws.{chosen_words}
use Rattle.yard_answers.proofs.put_turned.Goals as goal

pub bounds-w-8 : goal.bounds-w-8
bounds-w-8 c =
    let long = fits_long c.args.w.now c.requires in
    let same = c.put_moved.auto.w in
    omega (arith, long, same)

pub returns : goal.returns
returns c =
    let k = c.args.k in
    ap (λ (u : List ℕ). set u 8 k) c.put_moved.ensures ∙ chosen_words _ k
