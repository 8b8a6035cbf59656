-- One call at a time for C: what each call gives and leaves in the words lent to it, by the entries' own definitions. The state is 113 words
-- (`state_words`); words that no state has are spoilt memory, and so is a slice of another length for the state or for an answer: 8, and nothing
-- changed. Assumes nothing.
use Rattle.std.specs.Prelude.{ℕ, ◌+◌, ◌*◌, not, ◌&&◌, List, [], ◌∷◌, eqb, length, if◌then◌else◌}
use Rattle.spec.specs.declared.Call.{Call}
use Rattle.spec.specs.declared.Config.{Config}
use Rattle.spec.specs.Machine.{Machine, machine_of}
use Rattle.spec.specs.Entries.{opening, Reply, start, step, list, show}
use Rattle.turns.specs.Turn.{turn}
use Rattle.schedule_events.specs.Events.{listing_number}
use Rattle.state_words.specs.StateWords.{state_words, state_of_words, state_fits}
use Rattle.yard_answers.specs.Answers.{refusing, open_number, out_number, out_left, turn_number, turn_left}

-- the number given, and what is left in the words of the state, both pools and the answer
pub record Called : Type 0 where
  pub number : ℕ
  pub state : List ℕ
  pub nodes : List ℕ
  pub buckets : List ℕ
  pub out : List ℕ

abbrev pub called : ℕ → List ℕ → List ℕ → List ℕ → List ℕ → Called
called n w ns bs out = record { number = n; state = w; nodes = ns; buckets = bs; out = out }

-- the machine that the words are
abbrev pub machine_in : List ℕ → List ℕ → List ℕ → Machine
machine_in w ns bs = machine_of (state_of_words w) ns bs

-- ---- opening: the state's words need not have been a state's

unfoldable pub c_open : Config → List ℕ → List ℕ → List ℕ → Called
c_open g w ns bs =
    let o = opening g ns bs in
    if not (eqb (length w) 113) then called (refusing 8) w ns bs []
    else called (open_number o.refusal) (state_words o.machine.state) o.machine.nodes o.machine.buckets []

-- ---- start and step

unfoldable pub c_reply : Reply → List ℕ → Called
c_reply x out = called (out_number x.out) (state_words x.machine.state) x.machine.nodes x.machine.buckets (out_left x.out out)

unfoldable pub c_start : Call → List ℕ → ℕ → ℕ → List ℕ → List ℕ → List ℕ → Called
c_start call w k tag ns bs out =
    if not (state_fits w && eqb (length out) 4) then called (refusing 8) w ns bs out
    else c_reply (start (machine_in w ns bs) k call tag) out

unfoldable pub c_step : List ℕ → ℕ → List ℕ → List ℕ → List ℕ → Called
c_step w k ns bs out =
    if not (state_fits w && eqb (length out) 4) then called (refusing 8) w ns bs out
    else c_reply (step (machine_in w ns bs) k) out

-- ---- a turn

unfoldable pub c_turn : List ℕ → List ℕ → List ℕ → List ℕ → Called
c_turn w ns bs out =
    let x = turn (machine_in w ns bs) in
    if not (state_fits w && eqb (length out) 5) then called (refusing 8) w ns bs out
    else called (turn_number x.says) (state_words x.machine.state) x.machine.nodes x.machine.buckets (turn_left x.says out)

-- ---- list: the number of tags, written into the answer's words, of which later ones are kept

unfoldable pub c_list : List ℕ → List ℕ → List ℕ → List ℕ → Called
c_list w ns bs out =
    let x = list (machine_in w ns bs) out in
    if not (state_fits w) then called (refusing 8) w ns bs out
    else called (listing_number x.says) w ns bs x.words

-- ---- show: how many tags the bucket has, and where there are any the place of the first among the bucket words. A show refuses nothing: "a bad
-- number or spoilt memory gives an empty part", and so do words that no state has

unfoldable pub c_show : List ℕ → ℕ → List ℕ → List ℕ → List ℕ → Called
c_show w k ns bs out =
    let n = length (show (machine_in w ns bs) k) in
    if not (state_fits w && eqb (length out) 1) then called 0 w ns bs out
    else called n w ns bs (if eqb n 0 then out else ((66 * k + 2) ∷ []))
