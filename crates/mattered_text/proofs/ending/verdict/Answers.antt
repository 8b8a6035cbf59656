-- `mattered_text::ending::verdict` meets its contract. Assumes nothing.
use Rattle.std.proofs.Common.{rules, Bool, not, ◌||◌, ◌≡◌, sym, ap, ◌∙◌}
use Rattle.schedule_events.specs.Events.{events_of}
use Rattle.session.specs.Transcript.{session_opening}
use Rattle.mattered_text.specs.Reading.{opened_says}
use Rattle.mattered_text.proofs.Laws.{said_incomplete, said_complete}
use Rattle.mattered_text.proofs.ending.verdict.Goals as goal
use Rattle.mattered_text.proofs.ending.verdict.Goals.{then-not-closed, else-not-closed}

pub returns-then-not-header_complete : goal.returns-then-not-header_complete
returns-then-not-header_complete c =
    let a = c.args in
    said_incomplete a.closed a.t a.events.now (sym c.header_complete.ensures ∙ c.if-not-header_complete.true)

pub returns : goal.returns
returns c =
    let a = c.args in
    let outside : c.if-not-closed.judge ≡ (not a.closed || a.t.outside) =
    elim c.if-not-closed.branch [ then-not-closed w ↦ search rules | else-not-closed w ↦ search rules ] in
    said_complete a.closed a.t a.events.now (sym c.header_complete.ensures ∙ c.if-not-header_complete.false) c.judge.result
    (c.judge.ensures ∙ ap (λ (b : Bool). opened_says (session_opening a.t.header) b (events_of a.t.count a.events.now)) outside)
