-- Turns one after the other, as long as there is something to run, and their words. They are a run of the moves `turns` (`turns_are_moves`): what the crate
-- dispatcher promises of every run holds of them. Assumes nothing.
use Rattle.std.specs.Prelude.{ℕ, zero, suc, ◌*◌, ◌<◌, ◌≤◌, ◌≡◌, refl, Bool, true, false, ◌&&◌, List, [], ◌∷◌, map, ltb, length, replicate, if◌then◌else◌}
use Rattle.std.proofs.Common.{ap, arith}
use Rattle.spec.specs.Lists.{concat_map}
use Rattle.spec.specs.Numbers.{output_words}
use Rattle.spec.specs.Machine.{Machine}
use Rattle.spec.specs.Words.{overwrite}
use Rattle.turns.specs.declared.Turn.{Turn}
use Rattle.turns.specs.declared.Turn.TheVariants.{Idle, Of, Refused}
use Rattle.turns.specs.Turn.{turn}
use Rattle.turns.specs.Moves.{turns, turned, Run, move, moves}

-- whether a turn names a task
unfoldable pub names : Turn → Bool
names Idle = false
names (Of k o) = true
names (Refused r) = false

-- what the turns say, and what they leave
pub record Turns : Type 0 where
  pub says : List Turn
  pub machine : Machine

-- at most n turns, up to the first that names no task: nothing runs, or memory is spoilt, and it changes nothing
unfoldable pub turns_of : ℕ → Machine → Turns
turns_of zero y = record { says = []; machine = y }
turns_of (suc n) y =
    let x = turn y in
    let r = turns_of n x.machine in
    if names x.says then record { says = x.says ∷ r.says; machine = r.machine } else record { says = []; machine = y }

-- ---- their words

-- of a turn that names a task: the task's number and its step's output, be it a refusal
unfoldable pub turn_words : Turn → List ℕ
turn_words Idle = []
turn_words (Of k o) = k ∷ output_words o
turn_words (Refused r) = []

-- how many turns named a task, what they leave, and their words, written from the first word on
pub record Written : Type 0 where
  pub number : ℕ
  pub machine : Machine
  pub words : List ℕ

abbrev pub written : ℕ → Machine → List ℕ → Written
written n y w = record { number = n; machine = y; words = w }

unfoldable pub turns_written : ℕ → Machine → List ℕ → Written
turns_written n y w = let r = turns_of n y in written (length r.says) r.machine (overwrite w 0 (concat_map turn_words r.says))

-- ---- one of them

-- whether it named a task, what it leaves, and the words
pub record TurnedSo : Type 0 where
  pub named : Bool
  pub machine : Machine
  pub words : List ℕ

abbrev pub turned_so : Bool → Machine → List ℕ → TurnedSo
turned_so b y w = record { named = b; machine = y; words = w }

-- the turn number i, unless n were taken; its words are written where those of the turns before it end
unfoldable pub next_turn : ℕ → ℕ → Machine → List ℕ → TurnedSo
next_turn i n y w =
    let x = turn y in
    if ltb i n && names x.says then turned_so true x.machine (overwrite w (5 * i) (turn_words x.says)) else turned_so false y w

-- ---- they are a run of turns, and only for want of something to run are they fewer than n

pub turns_are_moves : (n : ℕ) (y : Machine) → let r = turns_of n y in
    moves y (replicate (length r.says) turns) ≡ record { says = map turned r.says; machine = r.machine }
unfolding turns_of moves move
turns_are_moves zero y = refl
turns_are_moves (suc n) y = go (names (turn y).says) (turns_are_moves n (turn y).machine)
  where
    go : (b : Bool)
        → moves (turn y).machine (replicate (length (turns_of n (turn y).machine).says) turns)
        ≡ record { says = map turned (turns_of n (turn y).machine).says; machine = (turns_of n (turn y).machine).machine }
        → let x = turn y in
        let q = turns_of n x.machine in
        let r : Turns = if b then record { says = x.says ∷ q.says; machine = q.machine } else record { says = []; machine = y } in
        moves y (replicate (length r.says) turns) ≡ record { says = map turned r.says; machine = r.machine }
    go true e = ap (λ (r : Run). record { says = turned (turn y).says ∷ r.says; machine = r.machine }) e
    go false e = refl

pub fewer_turns : (n : ℕ) (y : Machine) → length (turns_of n y).says < n → names (turn (turns_of n y).machine).says ≡ false
unfolding turns_of
fewer_turns zero y h = absurd (omega arith)
fewer_turns (suc n) y h = go (names (turn y).says) refl (fewer_turns n (turn y).machine) h
  where
    go : (b : Bool) → names (turn y).says ≡ b
        → (length (turns_of n (turn y).machine).says < n → names (turn (turns_of n (turn y).machine).machine).says ≡ false)
        → let x = turn y in
        let q = turns_of n x.machine in
        let r : Turns = if b then record { says = x.says ∷ q.says; machine = q.machine } else record { says = []; machine = y } in
        length r.says < suc n → names (turn r.machine).says ≡ false
    go true e rest h = rest (omega arith)
    go false e rest h = e

pub turns_most : (n : ℕ) (y : Machine) → length (turns_of n y).says ≤ n
unfolding turns_of
turns_most zero y = omega arith
turns_most (suc n) y = go (names (turn y).says) (turns_most n (turn y).machine)
  where
    go : (b : Bool) → length (turns_of n (turn y).machine).says ≤ n
        → let x = turn y in
        let q = turns_of n x.machine in
        let r : Turns = if b then record { says = x.says ∷ q.says; machine = q.machine } else record { says = []; machine = y } in
        length r.says ≤ suc n
    go true h = omega arith
    go false h = omega arith
