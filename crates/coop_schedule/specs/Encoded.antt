-- Every schedule can be run: its events, written as words, are read back as the same events wherever their outputs have room.
-- Assumes nothing.
use Rattle.std.specs.Prelude.{ℕ, suc, ◌*◌, ◌/◌, ◌≤◌, min, ◌≡◌, refl, List, [], ◌∷◌, ◌++◌, length}
use Rattle.std.proofs.Common.{ap, ◌∙◌, arith, length-append}
use Rattle.spec.specs.Lists.{concat_map}
use Rattle.coop_spec.specs.declared.Call.TheVariants.{InvokeInsert, InvokeRemove, Freeze, HasMember, GetResponse}
use Rattle.coop_spec.specs.Numbers.{call_number}
use Rattle.coop_spec.specs.Schedule.{Event, starts, steps}
use Rattle.coop_words.specs.Events.{event_of, events_of}
use Rattle.coop_schedule.specs.Encoding.{decoded}

-- the words of an event
unfoldable pub event_words : Event → List ℕ
event_words (starts task call n tag) = call_number call ∷ task ∷ n ∷ tag ∷ []
event_words (steps task) = 0 ∷ task ∷ 0 ∷ 0 ∷ []

first : (m : ℕ) (e : Event) (w : List ℕ) → events_of (suc m) (event_words e ++ w) ≡ e ∷ events_of m w
unfolding event_words events_of event_of
first m (starts task InvokeInsert n tag) w = refl
first m (starts task InvokeRemove n tag) w = refl
first m (starts task Freeze n tag) w = refl
first m (starts task HasMember n tag) w = refl
first m (starts task GetResponse n tag) w = refl
first m (steps task) w = refl

all : (es : List Event) → events_of (length es) (concat_map event_words es) ≡ es
unfolding events_of concat_map
all [] = refl
all (e ∷ es) = first (length es) e (concat_map event_words es) ∙ ap (λ (l : List Event). e ∷ l) (all es)

four : (e : Event) → length (event_words e) ≡ 4
unfolding event_words
four (starts task call n tag) = refl
four (steps task) = refl

words_length : (es : List Event) → length (concat_map event_words es) ≡ 4 * length es
unfolding concat_map
words_length [] = refl
words_length (e ∷ es) =
    let n = length-append (event_words e) (concat_map event_words es) in
    let a = four e in
    let b = words_length es in
    omega arith

pub decoded_words : (es : List Event) (outs : List ℕ) → 4 * length es ≤ length outs → decoded (concat_map event_words es) outs ≡ es
unfolding decoded
decoded_words es outs h =
    let n = words_length es in
    let e : min (length (concat_map event_words es) / 4) (length outs / 4) ≡ length es = omega arith in
    rw e (all es)
