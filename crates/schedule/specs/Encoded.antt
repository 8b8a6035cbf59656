-- Every schedule can be run: its events, written as words, are read back as the same events wherever their outputs have room.
-- Assumes nothing.
use Rattle.std.specs.Prelude.{ℕ, suc, ◌*◌, ◌/◌, ◌≤◌, min, ◌≡◌, refl, List, [], ◌∷◌, ◌++◌, length}
use Rattle.std.proofs.Common.{ap, ◌∙◌, arith, length-append}
use Rattle.spec.specs.declared.Call.TheVariants.{Insert, Remove, Contains, Grow, Shrink}
use Rattle.spec.specs.Lists.{concat_map}
use Rattle.spec.specs.Numbers.{call_number}
use Rattle.spec.specs.Schedule.{Event, starts, steps}
use Rattle.schedule_events.specs.Events.{event_of, events_of}
use Rattle.schedule.specs.Encoding.{room_for, decoded}

-- the words of an event
unfoldable pub event_words : Event → List ℕ
event_words (starts task call tag) = call_number call ∷ task ∷ tag ∷ 0 ∷ []
event_words (steps task) = 0 ∷ task ∷ 0 ∷ 0 ∷ []

first : (n : ℕ) (e : Event) (w : List ℕ) → events_of (suc n) (event_words e ++ w) ≡ e ∷ events_of n w
unfolding event_words events_of event_of
first n (starts task Insert tag) w = refl
first n (starts task Remove tag) w = refl
first n (starts task Contains tag) w = refl
first n (starts task Grow tag) w = refl
first n (starts task Shrink tag) w = refl
first n (steps task) w = refl

all : (es : List Event) → events_of (length es) (concat_map event_words es) ≡ es
unfolding events_of concat_map
all [] = refl
all (e ∷ es) = first (length es) e (concat_map event_words es) ∙ ap (λ (l : List Event). e ∷ l) (all es)

four : (e : Event) → length (event_words e) ≡ 4
unfolding event_words
four (starts task call tag) = refl
four (steps task) = refl

words_length : (es : List Event) → length (concat_map event_words es) ≡ 4 * length es
unfolding concat_map
words_length [] = refl
words_length (e ∷ es) =
    let n = length-append (event_words e) (concat_map event_words es) in
    let a = four e in
    let b = words_length es in
    omega arith

pub decoded_words : (es : List Event) (outs : List ℕ) → 4 * length es ≤ length outs → decoded (concat_map event_words es) outs ≡ es
unfolding decoded room_for
decoded_words es outs h =
    let n = words_length es in
    let e : min (length (concat_map event_words es) / 4) (length outs / 4) ≡ length es = omega arith in
    rw e (all es)
