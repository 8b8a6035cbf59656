-- `reader::by_line::turn_line` meets its contract. The listing, or the three cases of an event's line. Assumes nothing.
use Rattle.std.proofs.Common.{sym, ◌∙◌, rules}
use Rattle.recording.specs.declared.Verdict.TheVariants.{Refusal}
use Rattle.recording.specs.Verdict.{event_turn}
use Rattle.recording.specs.Reader.{read_turn}
use Rattle.reader_state.specs.Standing.{turn_line}
use Rattle.reader.proofs.Parts.{read_as, decided_back}
use Rattle.reader.proofs.Turns.{turn_lists, turn_event}
use Rattle.reader.proofs.by_line.turn_line.Goals as goal

pub returns-then-starts_with : goal.returns-then-starts_with
unfolding turn_line read_turn
returns-then-starts_with c =
    rw (turn_lists c.args.line.now (sym c.starts_with.ensures ∙ c.if-starts_with.true)) c.listed_line.ensures

pub returns-in-Some-Start : goal.returns-in-Some-Start
unfolding turn_line read_turn event_turn
returns-in-Some-Start c =
    let told = turn_event c.args.line.now _ (sym c.starts_with.ensures ∙ c.if-starts_with.false) (sym c.event_line.ensures ∙ c.in-Some-Start.is) in
    rw (told, c.in-Some-Start.field-0-is) (c.start_task.ensures _ _ c.requires)

pub returns-in-Some-Step : goal.returns-in-Some-Step
unfolding turn_line read_turn event_turn
returns-in-Some-Step c =
    let told = turn_event c.args.line.now _ (sym c.starts_with.ensures ∙ c.if-starts_with.false) (sym c.event_line.ensures ∙ c.in-Some-Step.is) in
    rw (told, c.in-Some-Step.field-0-is) c.step_task.ensures

pub returns-in-None : goal.returns-in-None
unfolding turn_line read_turn event_turn
returns-in-None c =
    let a = c.args in
    let told = turn_event a.line.now _ (sym c.starts_with.ensures ∙ c.if-starts_with.false) (sym c.event_line.ensures ∙ c.in-None.is) in
    rw told (read_as _ _ _ _ _ c.decided.ensures (decided_back a.r a.ns.now a.bs.now (search rules) (Refusal 10)))
