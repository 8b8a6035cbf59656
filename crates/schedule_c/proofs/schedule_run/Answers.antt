-- `schedule_run` gives what `run` gives, with one number for the list's answer. Assumes nothing.
use Rattle.std.proofs.Common.{ℕ, ap, ◌∙◌}
use Rattle.spec.specs.declared.Config.{Config}
use Rattle.schedule.specs.Encoding.{Result, run_words}
use Rattle.schedule_c.specs.Whole.{c_result, c_result_of}
use Rattle.schedule_c.proofs.schedule_run.Goals as goal

pub returns : goal.returns
returns c =
    let a = c.args in
    let w = c.run-o.new in
    let numbered = ap (λ (n : ℕ). c_result n w.ns w.bs w.outs w.tags) c.listing_number.ensures in
    let opened : Config → Result = λ g. run_words g a.ns.now a.bs.now a.events.now a.outs.now a.tags.now in
    numbered ∙ ap c_result_of c.run-o.ensures.words ∙ ap (λ (g : Config). c_result_of (opened g)) c.config-g.ensures
