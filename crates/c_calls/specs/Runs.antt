-- Many events or turns in one call for C, on a set that is open: memory is tested once for them all. OneByOne of yard_c has that each gives what the calls
-- for its events or turns give one by one. Assumes nothing.
use Rattle.std.specs.Prelude.{ℕ, ◌/◌, min, not, ◌&&◌, List, length, if◌then◌else◌}
use Rattle.spec.specs.Lists.{concat_map}
use Rattle.spec.specs.Numbers.{output_words}
use Rattle.spec.specs.Words.{overwrite}
use Rattle.spec.specs.Sound.{sound}
use Rattle.spec.specs.Schedule.{run}
use Rattle.schedule.specs.Encoding.{decoded}
use Rattle.state_words.specs.StateWords.{state_words, state_fits}
use Rattle.yard_answers.specs.Answers.{refusing}
use Rattle.turns.specs.Turns.{turns_written}
use Rattle.c_calls.specs.Calls.{Called, called, machine_in}

-- the events that have room for their outputs, run from the machine that the words are; in spoilt memory none of them
unfoldable pub c_run : List ℕ → List ℕ → List ℕ → List ℕ → List ℕ → Called
c_run w ns bs events outs =
    let y = machine_in w ns bs in
    let r = run y (decoded events outs) in
    if not (state_fits w && sound y) then called (refusing 8) w ns bs outs
    else called 0 (state_words r.machine.state) r.machine.nodes r.machine.buckets (overwrite outs 0 (concat_map output_words r.outs))

-- the turns that have room for their words, five each, up to the first that names no task; and never more than 255, so that their number is below every
-- refusal's
unfoldable pub c_turns : List ℕ → List ℕ → List ℕ → List ℕ → Called
c_turns w ns bs out =
    let y = machine_in w ns bs in
    let r = turns_written (min 255 (length out / 5)) y out in
    if not (state_fits w && sound y) then called (refusing 8) w ns bs out
    else called r.number (state_words r.machine.state) r.machine.nodes r.machine.buckets r.words
