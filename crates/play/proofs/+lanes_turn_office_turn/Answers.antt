-- The lanes' turn and the office's meet their contracts, by one induction on the plies left. Assumes nothing.
use Rattle.std.proofs.Common.{◌-◌, not, refl, sym, ap, ◌∙◌, arith}
use native.Mathlib.Nat.{pos_of_ne-zero}
use Rattle.spec.specs.Machine.{Machine, machine_of}
use Rattle.play.specs.Moves.{lanes_moves, office_moves, said_of}
use Rattle.play.proofs.Tries.{fails_at, wins_at, none_left, lanes_no_ply, all_lanes, may_not}
use Rattle.play.proofs.Tries.{loses_at, holds_at, all_lost, office_no_ply, all_office, office_may_not}
use Rattle.play.proofs.Turns.{unended, sound_after_lanes, sound_after_office, lanes_win_as, office_loses_as, nodes_again, buckets_again}
use Rattle.play.proofs.+lanes_turn_office_turn.Invariants.{wins, loses}
use Rattle.play.proofs.+lanes_turn_office_turn.Goals as goal

-- ---- the lanes' turn

pub lanes_turn-returns-then-left-eq0 : goal.lanes_turn-returns-then-left-eq0
lanes_turn-returns-then-left-eq0 t c = (sym (lanes_no_ply c.args.left _ c.if-left-eq0.true), refl, refl)

pub lanes_turn-loop-m-init : goal.lanes_turn-loop-m-init
lanes_turn-loop-m-init t c = record { nodes = refl; buckets = refl; rest = all_lanes _ _ c.if-left-eq0.false }

-- the move may not be made
pub lanes_turn-loop-m-preserved-then-not-lanes_may : goal.lanes_turn-loop-m-preserved-then-not-lanes_may
lanes_turn-loop-m-preserved-then-not-lanes_may t c =
    let a = c.args in
    let y : Machine = machine_of a.s a.ns.now a.bs.now in
    let inv = c.loop-m.invariant in
    let may = sym (c.lanes_may.ensures a.ns.now a.bs.now) ∙ c.if-not-lanes_may.true in
    let tried = fails_at (wins a.left y) lanes_moves c.loop-m.m-index _ c.loop-m-test.true (may_not _ y _ may) in
    record { nodes = inv.nodes; buckets = inv.buckets; rest = ap said_of (sym tried) ∙ inv.rest }

pub lanes_turn-office_turn-wins-requires : goal.lanes_turn-office_turn-wins-requires
lanes_turn-office_turn-wins-requires t c =
    let inv = c.loop-m.invariant in
    let some = pos_of_ne-zero c.if-left-eq0.false in
    let left = c.decreases in
    (omega arith, sound_after_lanes c.args.s inv.nodes inv.buckets _ c.play_lanes-p.result c.play_lanes-p.ensures c.requires)

-- the move wins if the office's turn said so
pub lanes_turn-returns-then-wins : goal.lanes_turn-returns-then-wins
lanes_turn-returns-then-wins t c =
    let a = c.args in
    let y : Machine = machine_of a.s a.ns.now a.bs.now in
    let inv = c.loop-m.invariant in
    let d = c.play_lanes-p in
    let o = c.office_turn-wins.ensures in
    let may = sym (c.lanes_may.ensures a.ns.now a.bs.now) ∙ c.if-not-lanes_may.false in
    let wins_if = lanes_win_as a.s inv.nodes inv.buckets _ d.result d.ensures (a.left - 1) may _ o.0 in
    let nodes = nodes_again a.s inv.nodes inv.buckets d.result d.ensures o.1 o.2 c.put_back.ensures in
    let buckets = buckets_again a.s inv.nodes inv.buckets d.result d.ensures o.1 o.2 c.put_back.ensures in
    let found = wins_at (wins a.left y) lanes_moves c.loop-m.m-index _ c.loop-m-test.true (wins_if ∙ c.if-wins.true) in
    (ap said_of (sym found) ∙ inv.rest, nodes, buckets)

-- the move does not win
pub lanes_turn-loop-m-preserved : goal.lanes_turn-loop-m-preserved
lanes_turn-loop-m-preserved t c =
    let a = c.args in
    let y : Machine = machine_of a.s a.ns.now a.bs.now in
    let inv = c.loop-m.invariant in
    let d = c.play_lanes-p in
    let o = c.office_turn-wins.ensures in
    let may = sym (c.lanes_may.ensures a.ns.now a.bs.now) ∙ c.if-not-lanes_may.false in
    let wins_if = lanes_win_as a.s inv.nodes inv.buckets _ d.result d.ensures (a.left - 1) may _ o.0 in
    let nodes = nodes_again a.s inv.nodes inv.buckets d.result d.ensures o.1 o.2 c.put_back.ensures in
    let buckets = buckets_again a.s inv.nodes inv.buckets d.result d.ensures o.1 o.2 c.put_back.ensures in
    let tried = fails_at (wins a.left y) lanes_moves c.loop-m.m-index _ c.loop-m-test.true (wins_if ∙ c.if-wins.false) in
    record { nodes = nodes; buckets = buckets; rest = ap said_of (sym tried) ∙ inv.rest }

pub lanes_turn-returns : goal.lanes_turn-returns
lanes_turn-returns t c =
    let inv = c.loop-m.invariant in
    (ap said_of (sym (none_left (wins _ _) lanes_moves c.loop-m.m-index c.loop-m-test.false)) ∙ inv.rest, inv.nodes, inv.buckets)

-- ---- the office's turn

pub office_turn-returns-then-left-eq0 : goal.office_turn-returns-then-left-eq0
office_turn-returns-then-left-eq0 t c = (unended c.if-ended.false (office_no_ply c.args.left _ c.if-left-eq0.true), refl, refl)

pub office_turn-loop-o-init : goal.office_turn-loop-o-init
office_turn-loop-o-init t c = record { nodes = refl; buckets = refl; rest = all_office _ _ c.if-left-eq0.false }

-- the move may not be made
pub office_turn-loop-o-preserved-then-not-office_may : goal.office_turn-loop-o-preserved-then-not-office_may
office_turn-loop-o-preserved-then-not-office_may t c =
    let a = c.args in
    let y : Machine = machine_of a.s a.ns.now a.bs.now in
    let inv = c.loop-o.invariant in
    let may = sym (c.office_may.ensures a.ns.now a.bs.now) ∙ c.if-not-office_may.true in
    let lost = loses_at (loses a.left y) office_moves c.loop-o.o-index _ c.loop-o-test.true (office_may_not _ y _ may) in
    record { nodes = inv.nodes; buckets = inv.buckets; rest = sym lost ∙ inv.rest }

pub office_turn-lanes_turn-win-requires : goal.office_turn-lanes_turn-win-requires
office_turn-lanes_turn-win-requires t c =
    let inv = c.loop-o.invariant in
    let some = pos_of_ne-zero c.if-left-eq0.false in
    let left = c.decreases in
    (omega arith, sound_after_office c.args.s inv.nodes inv.buckets _ c.play_office-p.result c.play_office-p.ensures c.requires)

-- the move holds the insert off
pub office_turn-returns-then-is_none : goal.office_turn-returns-then-is_none
office_turn-returns-then-is_none t c =
    let a = c.args in
    let y : Machine = machine_of a.s a.ns.now a.bs.now in
    let inv = c.loop-o.invariant in
    let d = c.play_office-p in
    let win = c.lanes_turn-win.result in
    let v = c.lanes_turn-win.ensures in
    let may = sym (c.office_may.ensures a.ns.now a.bs.now) ∙ c.if-not-office_may.false in
    let loses_if = office_loses_as a.s inv.nodes inv.buckets _ d.result d.ensures (a.left - 1) may win v.0 in
    let nodes = nodes_again a.s inv.nodes inv.buckets d.result d.ensures v.1 v.2 c.put_back.ensures in
    let buckets = buckets_again a.s inv.nodes inv.buckets d.result d.ensures v.1 v.2 c.put_back.ensures in
    let holds = holds_at (loses a.left y) office_moves c.loop-o.o-index _ c.loop-o-test.true (loses_if ∙ c.is_none.ensures ∙ ap not c.if-is_none.true) in
    (unended c.if-ended.false (sym inv.rest ∙ holds), nodes, buckets)

-- the move loses
pub office_turn-loop-o-preserved : goal.office_turn-loop-o-preserved
office_turn-loop-o-preserved t c =
    let a = c.args in
    let y : Machine = machine_of a.s a.ns.now a.bs.now in
    let inv = c.loop-o.invariant in
    let d = c.play_office-p in
    let win = c.lanes_turn-win.result in
    let v = c.lanes_turn-win.ensures in
    let may = sym (c.office_may.ensures a.ns.now a.bs.now) ∙ c.if-not-office_may.false in
    let loses_if = office_loses_as a.s inv.nodes inv.buckets _ d.result d.ensures (a.left - 1) may win v.0 in
    let nodes = nodes_again a.s inv.nodes inv.buckets d.result d.ensures v.1 v.2 c.put_back.ensures in
    let buckets = buckets_again a.s inv.nodes inv.buckets d.result d.ensures v.1 v.2 c.put_back.ensures in
    let lost = loses_at (loses a.left y) office_moves c.loop-o.o-index _ c.loop-o-test.true (loses_if ∙ c.is_none.ensures ∙ ap not c.if-is_none.false) in
    record { nodes = nodes; buckets = buckets; rest = sym lost ∙ inv.rest }

pub office_turn-returns : goal.office_turn-returns
office_turn-returns t c =
    let inv = c.loop-o.invariant in
    (unended c.if-ended.false (sym inv.rest ∙ all_lost (loses _ _) office_moves c.loop-o.o-index c.loop-o-test.false), inv.nodes, inv.buckets)
