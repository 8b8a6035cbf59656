-- `put_named` meets its contract: four words from the second on, and the first.
use Prim.Native.Nat.{ℕ, suc, ◌+◌, ◌*◌}
use mathlib.Core.Path.{◌≡◌, ap, ◌∙◌}
use mathlib.Core.List.{List}
use lib.ListN.{set}
use Rattle.spec.specs.Numbers.{output_words}
use Rattle.spec.specs.Words.{overwrite}
use Rattle.pool.proofs.Part.{rest, back}
use Rattle.yard_answers.proofs.Laws.{over_next}
use native.Mathlib.Omega.{arith}
use Rattle.yard_answers.proofs.put_named.Goals as goal

pub returns : goal.returns
returns c =
    let a = c.args in
    let out = a.out.now in
    let v = output_words a.o in
    let e = c.write_output.ensures ∙ ap (λ (u : List ℕ). overwrite u 0 v) (rest out (5 * a.i + 1)) in
    let at = 5 * a.i in
    let n : at + 1 ≡ suc at = omega arith in
    ap (λ (u : List ℕ). set u at a.k) (back out (at + 1) v c.write_output.new.outs e) ∙ rw n (over_next out at a.k v (omega arith))
