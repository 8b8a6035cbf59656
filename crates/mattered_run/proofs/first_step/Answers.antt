-- `first_step` runs all events, notes the calls that end, and searches. Assumes nothing.
use Rattle.std.proofs.Common.{ap, ◌∙◌}
use Rattle.spec.specs.Machine.{Machine}
use Rattle.schedule_events.specs.Events.{events_of}
use Rattle.mattered.specs.Mattered.{mattered}
use Rattle.mattered_run.proofs.Verdicts.{all_words_read, again_accepted, again_machine}
use Rattle.mattered_run.proofs.first_step.Goals as goal

pub search-requires : goal.search-requires
search-requires c =
    let a = c.args in
    let r = c.run_without-m in
    let p = r.auto.ns in
    let q = r.auto.bs in
    let same = again_machine a.r.config a.ns.now a.bs.now r.new.ns r.new.bs p q c.requires in (
      again_accepted a.r.config a.ns.now a.bs.now r.new.ns r.new.bs p q c.requires,
      all_words_read a.r.events.now a.r.count _ _ same _ _ r.result r.ensures.count r.ensures.words,
    )

pub returns : goal.returns
returns c =
    let a = c.args in
    let r = c.run_without-m in
    let same = again_machine a.r.config a.ns.now a.bs.now r.new.ns r.new.bs r.auto.ns r.auto.bs c.requires in
    c.search.ensures ∙ ap (λ (y : Machine). mattered y (events_of a.r.count a.r.events.now)) same
