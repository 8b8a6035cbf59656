-- `game_text::header_line` meets its contract: by the stage that the line reaches. Assumes nothing.
use Rattle.std.proofs.Common.{subst}
use Rattle.session.specs.Grammar.{closed_line}
use Rattle.game_text.specs.declared.Standing.{Standing}
use Rattle.game_text.specs.Reading.{place, take_turn, StandsAt}
use Rattle.game_text.proofs.Laws.{stays_at, staged, header_at}
use Rattle.game_text.proofs.header_line.Goals as goal

pub returns-in-NextDue : goal.returns-in-NextDue
unfolding staged
returns-in-NextDue c =
    let a = c.args in
    header_at a.t _ a.ns.now a.bs.now _ c.header_line-d.ensures c.in-NextDue.is (stays_at _ _ _ _ c.stands.ensures)

pub returns-in-OpenedBy : goal.returns-in-OpenedBy
unfolding staged
returns-in-OpenedBy c =
    let a = c.args in
    header_at a.t _ a.ns.now a.bs.now _ c.header_line-d.ensures c.in-OpenedBy.is (stays_at _ _ _ _ c.stands-in-OpenedBy.ensures)

pub returns-in-OpenedBefore : goal.returns-in-OpenedBefore
unfolding staged
returns-in-OpenedBefore c =
    let a = c.args in
    let d = c.header_line-d in
    let l = c.turn_line in
    let turned = subst (λ (t : Standing). StandsAt (take_turn (place t d.new.ns d.new.bs) (closed_line a.line.now)) l.result l.new.ns l.new.bs)
    c.stands-in-OpenedBefore.ensures l.ensures in
    header_at a.t _ a.ns.now a.bs.now _ d.ensures c.in-OpenedBefore.is turned

pub returns-in-OpeningRefused : goal.returns-in-OpeningRefused
unfolding staged
returns-in-OpeningRefused c =
    let a = c.args in
    header_at a.t _ a.ns.now a.bs.now _ c.header_line-d.ensures c.in-OpeningRefused.is (stays_at _ _ _ _ c.stands-in-OpeningRefused.ensures)

pub returns-in-Incomplete : goal.returns-in-Incomplete
unfolding staged
returns-in-Incomplete c =
    let a = c.args in
    header_at a.t _ a.ns.now a.bs.now _ c.header_line-d.ensures c.in-Incomplete.is (stays_at _ _ _ _ c.outside.ensures)
