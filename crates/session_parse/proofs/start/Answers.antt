-- Without a comma no call is left.
use Rattle.std.specs.Prelude.{Some}
use Rattle.std.proofs.Common.{◌≡◌, sym, ◌∙◌, ◌+◌, ◌≤◌, length, take, drop_of_length-le, arith}
use Rattle.session.specs.Grammar.{parse_number, call_of_task, parse_start}
use Rattle.session_parse.proofs.Laws.{call_none}
use Rattle.session_parse.proofs.start.Goals as goal

pub returns-in_default : goal.returns-in_default
unfolding parse_start call_of_task
returns-in_default c =
    let s = c.args.s.now in
    let r = c.comma_position-c.result in
    let e : parse_number (take r s) ≡ Some c.in-Some.k = sym c.number.ensures ∙ c.in-Some.is in
    let h : length s ≤ r + 1 = omega arith in
    rw (← c.comma_position-c.ensures.0, e, drop_of_length-le s h) (sym (call_none _))
