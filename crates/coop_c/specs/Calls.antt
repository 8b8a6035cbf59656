-- One call at a time for C: what each call gives and leaves in the words lent to it, by the entries' own definitions. The state is 397 words
-- (`state_words`); words that no state has are spoilt memory, and so is a slice of another length for the state or for an answer: 8, and nothing
-- changed. Assumes nothing.
use Rattle.std.specs.Prelude.{ℕ, ◌+◌, ◌*◌, not, ◌&&◌, List, [], ◌∷◌, ltb, eqb, length, if◌then◌else◌}
use Rattle.yard_answers.specs.Answers.{refusing, open_number}
use Rattle.coop_spec.specs.declared.Call.{Call}
use Rattle.coop_spec.specs.Machine.{Machine, machine_of}
use Rattle.coop_spec.specs.Words.{tags_of}
use Rattle.coop_spec.specs.Sound.{version_count, sound}
use Rattle.coop_spec.specs.Entries.{opening, Reply, start, step}
use Rattle.coop_state_words.specs.StateWords.{state_words, state_of_words, state_fits}
use Rattle.coop_c.specs.Answers.{out_number, out_left}

-- the number given, and what is left in the words of the state, the versions and the answer
pub record Called : Type 0 where
  pub number : ℕ
  pub state : List ℕ
  pub versions : List ℕ
  pub out : List ℕ

abbrev pub called : ℕ → List ℕ → List ℕ → List ℕ → Called
called n w vs out = record { number = n; state = w; versions = vs; out = out }

-- the machine that the words are
abbrev pub machine_in : List ℕ → List ℕ → Machine
machine_in w vs = machine_of (state_of_words w) vs

-- ---- opening, of T: the state's words need not have been a state's

unfoldable pub c_open : ℕ → List ℕ → List ℕ → Called
c_open t w vs =
    let o = opening t vs in
    if not (eqb (length w) 397) then called (refusing 8) w vs []
    else called (open_number o.refusal) (state_words o.machine.state) o.machine.versions []

-- ---- start and step

unfoldable pub c_reply : Reply → List ℕ → Called
c_reply x out = called (out_number x.out) (state_words x.machine.state) x.machine.versions (out_left x.out out)

-- of task k: a call with operation n and a tag
unfoldable pub c_start : Call → List ℕ → ℕ → ℕ → ℕ → List ℕ → List ℕ → Called
c_start call w k n tag vs out =
    if not (state_fits w && eqb (length out) 4) then called (refusing 8) w vs out
    else c_reply (start (machine_in w vs) k call n tag) out

unfoldable pub c_step : List ℕ → ℕ → List ℕ → List ℕ → Called
c_step w k vs out =
    if not (state_fits w && eqb (length out) 4) then called (refusing 8) w vs out
    else c_reply (step (machine_in w vs) k) out

-- ---- show: how many tags a version has, and where there are any the place of the first among the versions' words. A freeze answers the number of the
-- version that has the set. As a show of the yard set it refuses nothing: none for a bad number, for spoilt memory and for words that no state has

unfoldable pub shown : Machine → ℕ → List ℕ
shown y k = if sound y && ltb k (version_count y) then tags_of y k else []

unfoldable pub c_show : List ℕ → ℕ → List ℕ → List ℕ → Called
c_show w k vs out =
    let n = length (shown (machine_in w vs) k) in
    if not (state_fits w && eqb (length out) 1) then called 0 w vs out
    else called n w vs (if eqb n 0 then out else ((66 * k + 2) ∷ []))
