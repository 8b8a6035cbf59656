-- Many events or turns in one call give what the calls for them give one by one. Assumes nothing.
use Rattle.std.specs.Prelude.{ℕ, zero, suc, ◌+◌, ◌-◌, ◌/◌, ◌≤◌, min, ◌≡◌, refl, true, List, [], ◌∷◌, ◌++◌, leb, eqb, length, replicate, if◌then◌else◌, Ok, Err}
use Rattle.std.proofs.Common.{sym, ap, ◌∙◌, arith, le-leb, ne_eqb}
use Rattle.spec.specs.Outputs.{Output}
use Rattle.spec.specs.declared.Progress.TheVariants.{At, End}
use Rattle.spec.specs.Lists.{concat_map}
use Rattle.spec.specs.Numbers.{output_words, refusal_number}
use Rattle.spec.specs.Machine.{Machine}
use Rattle.spec.specs.Words.{overwrite}
use Rattle.spec.specs.Sound.{sound}
use Rattle.spec.specs.Schedule.{Event, starts, steps, event, run}
use Rattle.turns.specs.declared.Turn.{Turn}
use Rattle.turns.specs.declared.Turn.TheVariants.{Idle, Of, Refused}
use Rattle.turns.specs.Turn.{turn}
use Rattle.schedule.specs.Encoding.{decoded}
use Rattle.state_words.specs.StateWords.{state_words, state_fits}
use Rattle.state_words.specs.RoundTrip.{Stored, words_fit}
use Rattle.state_words.proofs.RoundTrip.{words_again, state_again}
use Rattle.state_words.proofs.EntriesStore.{words_stored}
use Rattle.yard_answers.specs.Answers.{out_number, out_left, turn_number, turn_left}
use Rattle.turns.specs.Turns.{names, Turns, turns_of, turn_words, turns_written}
use Rattle.c_calls.specs.Calls.{Called, called, machine_in, c_reply, c_start, c_step, c_turn}
use Rattle.c_calls.specs.Runs.{c_run, c_turns}
use Rattle.yard_c.specs.Fits.{turn_stored, event_stored}

-- ---- events, call by call

-- the call for an event, with four words for its answer
unfoldable pub c_event : List ℕ → List ℕ → List ℕ → Event → Called
c_event w ns bs (starts k call tag) = c_start call w k tag ns bs (replicate 4 0)
c_event w ns bs (steps k) = c_step w k ns bs (replicate 4 0)

-- what a call answered, as an output's words: those that it left, or those of its refusal
unfoldable pub answer_words : Called → List ℕ
answer_words x = if leb 256 x.number then 2 ∷ (x.number - 256) ∷ 0 ∷ 0 ∷ [] else x.out

-- the calls for the events, each on what the one before left; the words of their answers, one after the other, are written from the first on
unfoldable pub calls : List ℕ → List ℕ → List ℕ → List Event → Called
calls w ns bs [] = called 0 w ns bs []
calls w ns bs (e ∷ es) =
    let x = c_event w ns bs e in
    let r = calls x.state x.nodes x.buckets es in
    called 0 r.state r.nodes r.buckets (answer_words x ++ r.out)

abbrev from : Machine → Event → Called
from y e = c_event (state_words y.state) y.nodes y.buckets e

-- a call for an event is the event
event_called : (y : Machine) → Stored y.state → (e : Event) → from y e ≡ c_reply (event y e) (replicate 4 0)
unfolding c_event c_start c_step event
event_called y h (starts k call tag) = rw (words_fit y.state h, state_again y.state h)
event_called y h (steps k) = rw (words_fit y.state h, state_again y.state h)

answered : (o : Output) (y : Machine) → answer_words (c_reply (record { out = o; machine = y }) (replicate 4 0)) ≡ output_words o
unfolding answer_words c_reply out_number out_left
answered (Ok (At line)) y = refl
answered (Ok (End a own full)) y = refl
answered (Err r) y =
    let same : 256 + refusal_number r - 256 ≡ refusal_number r = omega arith in
    let below : 256 ≤ 256 + refusal_number r = omega arith in
    rw (le-leb 256 (256 + refusal_number r) below, same)

calls_run : (es : List Event) (y : Machine) → Stored y.state
    → calls (state_words y.state) y.nodes y.buckets es
    ≡ called 0 (state_words (run y es).machine.state) (run y es).machine.nodes (run y es).machine.buckets (concat_map output_words (run y es).outs)
unfolding calls run concat_map c_reply
calls_run [] y h = refl
calls_run (e ∷ es) y h =
    let m = event y e in
    let later : Called → Called = λ x. let r = calls x.state x.nodes x.buckets es in called 0 r.state r.nodes r.buckets (answer_words x ++ r.out) in
    let first : Called → Called = λ r. called 0 r.state r.nodes r.buckets (output_words m.out ++ r.out) in
    ap later (event_called y h e) ∙ rw (answered m.out m.machine) (ap first (calls_run es m.machine (event_stored y h e)))

-- it gives what the calls for its events give one by one
pub run_is_calls : (w ns bs events outs : List ℕ) → state_fits w ≡ true → sound (machine_in w ns bs) ≡ true
    → let x = calls w ns bs (decoded events outs) in
    c_run w ns bs events outs ≡ called 0 x.state x.nodes x.buckets (overwrite outs 0 x.out)
unfolding c_run
run_is_calls w ns bs events outs fits ok =
    let es = decoded events outs in
    let same = ap (λ (v : List ℕ). calls v ns bs es) (sym (words_again w fits)) ∙ calls_run es (machine_in w ns bs) (words_stored w) in
    rw (fits, ok) (ap (λ (x : Called). called 0 x.state x.nodes x.buckets (overwrite outs 0 x.out)) (sym same))

-- ---- turns, call by call

-- calls of a turn, at most n, as long as they give 1, each on what the one before left: how many did, what they leave, and their words
unfoldable pub turn_calls : ℕ → List ℕ → List ℕ → List ℕ → Called
turn_calls zero w ns bs = called 0 w ns bs []
turn_calls (suc n) w ns bs =
    let x = c_turn w ns bs (replicate 5 0) in
    let r = turn_calls n x.state x.nodes x.buckets in
    if eqb x.number 1 then called (suc r.number) r.state r.nodes r.buckets (x.out ++ r.out) else called 0 w ns bs []

turn_called : (y : Machine) → Stored y.state → let x = turn y in
    c_turn (state_words y.state) y.nodes y.buckets (replicate 5 0)
    ≡ called (turn_number x.says) (state_words x.machine.state) x.machine.nodes x.machine.buckets (turn_left x.says (replicate 5 0))
unfolding c_turn
turn_called y h = rw (words_fit y.state h, state_again y.state h)

-- what the calls give after one that answered x and left z, and what the turns are
abbrev calls_after : ℕ → Machine → Machine → Turn → Called
calls_after n y z x =
    let r = turn_calls n (state_words z.state) z.nodes z.buckets in
    if eqb (turn_number x) 1 then called (suc r.number) r.state r.nodes r.buckets (turn_left x (replicate 5 0) ++ r.out)
    else called 0 (state_words y.state) y.nodes y.buckets []

abbrev turns_after : ℕ → Machine → Machine → Turn → Turns
turns_after n y z x =
    let r = turns_of n z in if names x then record { says = x ∷ r.says; machine = r.machine } else record { says = []; machine = y }

abbrev told : Turns → Called
told r = called (length r.says) (state_words r.machine.state) r.machine.nodes r.machine.buckets (concat_map turn_words r.says)

each_answer : (n : ℕ) (y z : Machine) → turn_calls n (state_words z.state) z.nodes z.buckets ≡ told (turns_of n z)
    → (x : Turn) → calls_after n y z x ≡ told (turns_after n y z x)
unfolding turn_number turn_left names turn_words concat_map
each_answer n y z e Idle = refl
each_answer n y z e (Of k o) =
    ap (λ (r : Called). called (suc r.number) r.state r.nodes r.buckets ((k ∷ output_words o) ++ r.out)) e
each_answer n y z e (Refused r) = rw (ne_eqb (256 + refusal_number r) 1 (λ h. omega arith))

turn_calls_are : (n : ℕ) (y : Machine) → Stored y.state → turn_calls n (state_words y.state) y.nodes y.buckets ≡ told (turns_of n y)
unfolding turn_calls turns_of concat_map
turn_calls_are zero y h = refl
turn_calls_are (suc n) y h = rw (turn_called y h) (each_answer n y (turn y).machine (turn_calls_are n (turn y).machine (turn_stored y h)) (turn y).says)

-- they give what calls of a turn give one by one
pub turns_are_calls : (w ns bs outs : List ℕ) → state_fits w ≡ true → sound (machine_in w ns bs) ≡ true
    → let x = turn_calls (min 255 (length outs / 5)) w ns bs in
    c_turns w ns bs outs ≡ called x.number x.state x.nodes x.buckets (overwrite outs 0 x.out)
unfolding c_turns turns_written
turns_are_calls w ns bs outs fits ok =
    let n = min 255 (length outs / 5) in
    let same = ap (λ (v : List ℕ). turn_calls n v ns bs) (sym (words_again w fits)) ∙ turn_calls_are n (machine_in w ns bs) (words_stored w) in
    rw (fits, ok) (ap (λ (x : Called). called x.number x.state x.nodes x.buckets (overwrite outs 0 x.out)) (sym same))
