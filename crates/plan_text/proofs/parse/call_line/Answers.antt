-- `plan_text::parse::call_line` meets its contract. The length, then the key, as in the definition. Assumes nothing.
use Rattle.std.proofs.Common.{◌≡◌, ◌≤◌, length, sym, ap, ◌∙◌, true, false, arith, le-leb}
use Rattle.std.proofs.lemmas.Bool.{lt-leb}
use Rattle.session.specs.Grammar.{starts_with, admissible}
use Rattle.session_keys.proofs.Laws.{starts_long, rest}
use Rattle.plan_text.specs.Text.{call_key, call_said, parse_call_line}
use Rattle.plan_text.proofs.parse.call_line.Goals as goal
use Rattle.plan_text.proofs.parse.call_line.Goals.{else-s-le40-via-then-s-le40+else-starts_with, else-s-le40-via-else-s-le40}

pub slice_bounds-call-count : goal.slice_bounds-call-count
slice_bounds-call-count c = omega (arith, starts_long call_key c.args.s.now (sym c.starts_with.ensures ∙ c.if-starts_with.true))

pub slice_bounds-call-start : goal.slice_bounds-call-start
slice_bounds-call-start c =
    let long : 5 ≤ length c.args.s.now = omega (arith, starts_long call_key c.args.s.now (sym c.starts_with.ensures ∙ c.if-starts_with.true)) in
    omega arith

pub returns-then-starts_with : goal.returns-then-starts_with
unfolding parse_call_line admissible
returns-then-starts_with c =
    let key : starts_with call_key c.args.s.now ≡ true = sym c.starts_with.ensures ∙ c.if-starts_with.true in
    rw (le-leb _ _ c.if-s-le40.true, key) (c.call_said.ensures ∙ ap call_said (rw rest at c.call.ensures))

pub returns-else-s-le40 : goal.returns-else-s-le40
unfolding parse_call_line admissible
returns-else-s-le40 c =
    elim c.else-s-le40.branch [
      | else-s-le40-via-then-s-le40+else-starts_with w ↦
          let key : starts_with call_key c.args.s.now ≡ false = sym w.starts_with.ensures ∙ w.if-starts_with.false in
          rw (le-leb _ _ w.if-s-le40.true, key)
      | else-s-le40-via-else-s-le40 w ↦ rw (lt-leb _ _ w.if-s-le40.false)
    ]
