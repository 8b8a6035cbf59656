-- `notes_text::print::order` meets its contract. Assumes nothing.
use Rattle.std.proofs.Common.{◌≡◌, ◌<◌, length, Some, rules, sym, ap, ◌∙◌, arith}
use Rattle.notes.specs.declared.Lane.{Lane}
use Rattle.session.specs.Buffer.{append}
use Rattle.notes_text.proofs.OrderLaws.{all_printed, none_printed, first_ended, second_ended, first_printed, second_printed}
use Rattle.notes_text.proofs.print.order.Goals as goal
use Rattle.notes_text.proofs.print.order.Goals.{in-First+in-Some-split_first, in-Second+in-Some-split_first-2}

pub returns-in_default : goal.returns-in_default
returns-in_default c =
    let l = c.loop-lane in
    let within : l.lane-index < length c.args.lanes = search rules in
    record { same = l.invariant.0; shows = sym (none_printed c.args.lanes l.lane-index l.firsts.now l.seconds.now _ within c.in_default.is) ∙ l.invariant.1 }

pub returns-in_default-split_first : goal.returns-in_default-split_first
returns-in_default-split_first c =
    let l = c.loop-lane in
    let within : l.lane-index < length c.args.lanes = search rules in
    let lane = c.in-Some.is ∙ ap (λ (x : Lane). Some x) c.in-First.is in
    record { same = l.invariant.0; shows = sym (first_ended c.args.lanes l.lane-index l.firsts.now l.seconds.now _ within lane c.in_default-split_first.ensures.cases) ∙ l.invariant.1 }

pub returns-in_default-split_first-2 : goal.returns-in_default-split_first-2
returns-in_default-split_first-2 c =
    let l = c.loop-lane in
    let within : l.lane-index < length c.args.lanes = search rules in
    let lane = c.in-Some.is ∙ ap (λ (x : Lane). Some x) c.in-Second.is in
    record { same = l.invariant.0; shows = sym (second_ended c.args.lanes l.lane-index l.firsts.now l.seconds.now _ within lane c.in_default-split_first-2.ensures.cases) ∙ l.invariant.1 }

pub loop-lane-preserved : goal.loop-lane-preserved
loop-lane-preserved c =
    let l = c.loop-lane in
    let within : l.lane-index < length c.args.lanes = search rules in
    elim c.match-lane-2.branch [
      | in-First+in-Some-split_first w ↦
          let p = w.in-Some-split_first in
          let lane = c.in-Some.is ∙ ap (λ (x : Lane). Some x) w.in-First.is in
          let printed = first_printed c.args.lanes l.lane-index l.firsts.now l.seconds.now _ within p.x.now p.rest.now lane p.ensures.cases.0 in
          rw (w.page-is, w.firsts-is, w.seconds-is) (
            w.note.ensures.same ∙ l.invariant.0,
            ap (append _) (rw w.in-First.is at w.note.ensures.shows) ∙ printed ∙ l.invariant.1,
          )
      | in-Second+in-Some-split_first-2 w ↦
          let p = w.in-Some-split_first-2 in
          let lane = c.in-Some.is ∙ ap (λ (x : Lane). Some x) w.in-Second.is in
          let printed = second_printed c.args.lanes l.lane-index l.firsts.now l.seconds.now _ within p.x.now p.rest.now lane p.ensures.cases.0 in
          rw (w.page-is, w.firsts-is, w.seconds-is) (
            w.note-in-Second.ensures.same ∙ l.invariant.0,
            ap (append _) (rw w.in-Second.is at w.note-in-Second.ensures.shows) ∙ printed ∙ l.invariant.1,
          )
    ]

pub returns : goal.returns
returns c =
    let l = c.loop-lane in
    let len : length c.args.lanes ≡ 12 = search rules in
    record { same = l.invariant.0; shows = sym (all_printed c.args.lanes l.lane-index l.firsts.now l.seconds.now _ (omega arith)) ∙ l.invariant.1 }
