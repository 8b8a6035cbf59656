-- What `run` gives, with one number in the state's place.
use Rattle.std.proofs.Common.{ℕ, ◌+◌, sym, ap, ◌∙◌, arith, eq-eqb, ne_eqb}
use Rattle.laws.specs.Tests.{if_true, if_false}
use Rattle.coop_schedule.specs.Encoding.{Result, c_result, c_result_of}
use Rattle.coop_schedule.proofs.Laws.{refusal_small}
use Rattle.coop_schedule.proofs.coop_schedule_run.Goals as goal

pub overflow_add-result : goal.overflow_add-result
overflow_add-result c =
    let a = c.args in
    let refusal = ap (λ (x : Result). x.refusal) c.run-o.ensures.words in
    omega (arith, refusal, refusal_small a.tasks a.vs.now a.events.now a.outs.now)

pub returns-then-o-ne0 : goal.returns-then-o-ne0
returns-then-o-ne0 c =
    let o = c.run-o in
    let number = if_false _ o.result.state.node (1024 + o.result.refusal) (ne_eqb _ 0 c.if-o-ne0.true) in
    ap (λ (n : ℕ). c_result n o.new.vs o.new.outs) (sym number) ∙ ap c_result_of o.ensures.words

pub returns-else-o-ne0 : goal.returns-else-o-ne0
returns-else-o-ne0 c =
    let o = c.run-o in
    let number = if_true _ o.result.state.node (1024 + o.result.refusal) (eq-eqb _ 0 c.if-o-ne0.false) in
    ap (λ (n : ℕ). c_result n o.new.vs o.new.outs) (sym number) ∙ ap c_result_of o.ensures.words
