-- The number so far with the digits left gives what all digits give, and fits 32 bits.
use Rattle.std.proofs.Common.{◌≡◌, ◌≤◌, drop}
use Rattle.session.specs.Grammar.{parse_digits}
use Rattle.session_numbers.proofs.digits.Given as goal

abbrev pub invariant-loop-x : goal.invariant-loop-x
invariant-loop-x l = (l.n ≤ 4294967295) × (parse_digits l.n (drop l.x-index l.s) ≡ parse_digits 0 l.s)
