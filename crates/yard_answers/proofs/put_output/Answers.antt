-- An output's words over all four, or none for a refusal, whose number is small enough to add 256.
use Rattle.std.specs.Prelude.{Err}
use Rattle.std.proofs.Common.{◌≤◌, ◌∙◌, refl, arith, ap, ℕ, ◌+◌}
use Rattle.yard_answers.specs.Answers.{out_number, out_left}
use Rattle.yard_answers.proofs.Laws.{written}
use Rattle.yard_answers.proofs.put_output.Goals as goal
use Rattle.spec.specs.Numbers.{refusal_number}

pub overflow_add-result : goal.overflow_add-result
unfolding out_number
overflow_add-result c = let z : 256 + refusal_number c.in-Err.why ≤ 511 = rw c.in-Err.is at c.requires.1 in omega (arith, c.number.ensures)

pub returns-in-Err : goal.returns-in-Err
unfolding out_number out_left
returns-in-Err c = rw c.in-Err.is (ap (λ (n : ℕ). 256 + n) c.number.ensures, refl)

pub returns : goal.returns
returns c =
    let w = written c.args.o c.args.out.now c.requires.0 c.in_default.not-Err in
    (w.0, c.write_output.ensures ∙ w.1)
