-- `play::game` meets its contract. Assumes nothing.
use Rattle.std.proofs.Common.{◌≡◌, refl, sym, ap, ◌∙◌, arith}
use Rattle.spec.specs.Machine.{Machine, machine_of}
use Rattle.game.specs.Game.{plies, verdict}
use Rattle.play.proofs.NoGame.{spoilt, refused, plays, turns_within}
use Rattle.play.specs.Moves.{said_of}
use Rattle.play.proofs.game.Goals as goal
use Rattle.play.proofs.game.Goals.{After-lanes_turn}

pub returns-then-not-sound : goal.returns-then-not-sound
returns-then-not-sound c =
    let a = c.args in
    let y : Machine = machine_of a.s a.ns.now a.bs.now in
    (sym (spoilt a.n y (sym c.sound.ensures ∙ c.if-not-sound.true)), refl, refl)

pub returns-then-no_game : goal.returns-then-no_game
returns-then-no_game c =
    let a = c.args in
    let y : Machine = machine_of a.s a.ns.now a.bs.now in
    let e = sym c.sound.ensures ∙ c.if-not-sound.false in
    (sym (refused a.n y e (sym (c.no_game.ensures a.ns.now a.bs.now) ∙ c.if-no_game.true)), refl, refl)

pub overflow_mul-n : goal.overflow_mul-n
overflow_mul-n c =
    let a = c.args in
    let y : Machine = machine_of a.s a.ns.now a.bs.now in
    let within = turns_within a.n y (sym (c.no_game.ensures a.ns.now a.bs.now) ∙ c.if-no_game.false) in
    omega (arith, within.1)

pub overflow_sub-n : goal.overflow_sub-n
overflow_sub-n c =
    let a = c.args in
    let y : Machine = machine_of a.s a.ns.now a.bs.now in
    let within = turns_within a.n y (sym (c.no_game.ensures a.ns.now a.bs.now) ∙ c.if-no_game.false) in
    omega (arith, within.0)

-- what the lanes' turn gave is what is said
said : (c : After-lanes_turn) → (said_of c.lanes_turn.result ≡ verdict c.args.n (machine_of c.args.s c.args.ns.now c.args.bs.now))
    × (c.lanes_turn.new.ns ≡ c.args.ns.now) × (c.lanes_turn.new.bs ≡ c.args.bs.now)
unfolding plies
said c =
    let a = c.args in
    let y : Machine = machine_of a.s a.ns.now a.bs.now in
    let e = sym c.sound.ensures ∙ c.if-not-sound.false in
    let g = sym (c.no_game.ensures a.ns.now a.bs.now) ∙ c.if-no_game.false in
    let said = c.lanes_turn.ensures in
    (said.0 ∙ sym (plays a.n y e g), said.1, said.2)

pub returns-in-Some : goal.returns-in-Some
returns-in-Some c =
    let s = said (goal.at.returns-in-Some c).After-lanes_turn in
    (ap said_of (sym c.in-Some.is) ∙ s.0, s.1, s.2)

pub returns-in-None : goal.returns-in-None
returns-in-None c =
    let s = said (goal.at.returns-in-None c).After-lanes_turn in
    (ap said_of (sym c.in-None.is) ∙ s.0, s.1, s.2)
