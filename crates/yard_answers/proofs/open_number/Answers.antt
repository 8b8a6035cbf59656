-- No refusal, or its number, which is small enough to add 256.
use Rattle.std.proofs.Common.{◌≡◌, ◌+◌, sym, ap, ◌∙◌, ℕ, arith, ne_eqb}
use Rattle.laws.specs.Tests.{if_false}
use Rattle.laws.specs.RefusalNumbers.{never_0, from_1_to_14}
use Rattle.yard_answers.specs.Answers.{open_number}
use Rattle.yard_answers.proofs.open_number.Goals as goal

pub overflow_add-result : goal.overflow_add-result
overflow_add-result c = omega (arith, c.number.ensures, from_1_to_14 c.in-Some.refusal)

pub returns-in-None : goal.returns-in-None
unfolding open_number
returns-in-None c = rw c.in-None.is

pub returns-in-Some : goal.returns-in-Some
unfolding open_number
returns-in-Some c = let r = c.in-Some.refusal in rw (c.in-Some.is, ne_eqb _ 0 (never_0 r)) (ap (λ (n : ℕ). 256 + n) c.number.ensures)
