-- Calls of C one after the other, over the words that an opening wrote and with an answer of four words, are a schedule of the definitions: each gives the
-- number of the schedule's output, and leaves the words of the schedule's machine and of that output. So what is promised of every schedule is promised of
-- them (`linearizable`, `at_most_once` of coop_linear); none is refused with 8, and with T + 1 versions none with 7. Assumes nothing.
use Rattle.std.specs.Prelude.{ℕ, ◌+◌, ◌/◌, ◌≤◌, ◌≡◌, refl, true, ◌&&◌, List, [], ◌∷◌, eqb, length, Ok, Err}
use Rattle.std.proofs.Common.{ap, ◌∙◌, subst, sym, arith, eq-eqb, ne_eqb}
use Rattle.std.proofs.Math.Decide.{ℕ_discrete}
use Rattle.laws.specs.Tests.{and_i}
use Rattle.yard_answers.specs.Answers.{open_number}
use Rattle.coop_spec.specs.declared.Refusal.{Refusal}
use Rattle.coop_spec.specs.declared.Refusal.TheVariants.{NoVersion, Spoilt}
use Rattle.coop_spec.specs.Outputs.{Output}
use Rattle.coop_spec.specs.declared.Progress.TheVariants.{At, End}
use Rattle.coop_spec.specs.declared.State.{State}
use Rattle.coop_spec.specs.Machine.{Machine, machine_of}
use Rattle.coop_spec.specs.Entries.{opening, start, step}
use Rattle.coop_spec.specs.Schedule.{Event, starts, steps, event, run, run_opened, schedule}
use Rattle.coop_spec.specs.Linearizable.{Never}
use Rattle.coop_spec.specs.Numbers.{refusal_number}
use Rattle.coop_laws.specs.Enough.{suffices}
use Rattle.coop_laws.specs.RefusalNumbers.{same_refusal, from_1_to_8}
use Rattle.coop_linear.specs.Theorems as theorems
use Rattle.coop_state_words.specs.StateWords.{state_words, state_fits}
use Rattle.coop_state_words.specs.RoundTrip.{Stored, state_again, words_fit}
use Rattle.coop_state_words.specs.EntriesStore.{opening_stored, start_stored, step_stored}
use Rattle.coop_c.specs.Answers.{out_number, out_left}
use Rattle.coop_c.specs.Calls.{Called, called, machine_in, c_open, c_reply, c_start, c_step}

-- ---- one call, and calls one after the other, the same words lent to all

unfoldable pub c_event : Event → List ℕ → List ℕ → List ℕ → Called
c_event (starts k call n tag) w vs out = c_start call w k n tag vs out
c_event (steps k) w vs out = c_step w k vs out

unfoldable pub c_events : List Event → List ℕ → List ℕ → List ℕ → List Called
c_events [] w vs out = []
c_events (e ∷ es) w vs out = let x = c_event e w vs out in x ∷ c_events es x.state x.versions x.out

-- what the definitions give for them
unfoldable pub c_replies : List Event → Machine → List ℕ → List Called
c_replies [] y out = []
c_replies (e ∷ es) y out = let r = event y e in c_reply r out ∷ c_replies es r.machine (out_left r.out out)

event_stored : (y : Machine) → Stored y.state → (e : Event) → Stored (event y e).machine.state
unfolding event
event_stored y h (starts k call n tag) = start_stored y k h call n tag
event_stored y h (steps k) = step_stored y k h

four_left : (o : Output) (out : List ℕ) → length out ≡ 4 → length (out_left o out) ≡ 4
unfolding out_left
four_left (Ok (At line)) out e = refl
four_left (Ok (End a own)) out e = refl
four_left (Err r) out e = e

module _ (y : Machine) (h : Stored y.state) (out : List ℕ) (room : length out ≡ 4) where
  ready : (state_fits (state_words y.state) && eqb (length out) 4) ≡ true
  ready = and_i _ _ (words_fit y.state h) (eq-eqb (length out) 4 room)

  same : machine_in (state_words y.state) y.versions ≡ y
  same = ap (λ (s : State). machine_of s y.versions) (state_again y.state h)

  one_call : (e : Event) → c_event e (state_words y.state) y.versions out ≡ c_reply (event y e) out
  unfolding c_event c_start c_step event
  one_call (starts k call n tag) = rw ready (ap (λ (z : Machine). c_reply (start z k call n tag) out) same)
  one_call (steps k) = rw ready (ap (λ (z : Machine). c_reply (step z k) out) same)

pub calls_as_defined : (es : List Event) (y : Machine) → Stored y.state → (out : List ℕ) → length out ≡ 4
    → c_events es (state_words y.state) y.versions out ≡ c_replies es y out
unfolding c_events c_replies c_reply
calls_as_defined [] y h out room = refl
calls_as_defined (e ∷ es) y h out room =
    let r = event y e in
    let one = one_call y h out room e in
    let later = calls_as_defined es r.machine (event_stored y h e) (out_left r.out out) (four_left r.out out room) in
    ap (λ (x : Called). x ∷ c_events es x.state x.versions x.out) one ∙ ap (λ (l : List Called). c_reply r out ∷ l) later

-- ---- their numbers

abbrev pub NeverGiven : ℕ → List Called → Type 0
NeverGiven n [] = Unit {0}
NeverGiven n (x ∷ xs) = (¬ (x.number ≡ n)) × NeverGiven n xs

refusal_given : (o : Output) (r : Refusal) → out_number o ≡ 256 + refusal_number r → o ≡ Err r
unfolding out_number
refusal_given (Ok (At line)) r e = absurd (omega (arith, from_1_to_8 r))
refusal_given (Ok (End a own)) r e = absurd (omega (arith, from_1_to_8 r))
refusal_given (Err s) r e = let same : s ≡ r = same_refusal s r (omega arith) in ap Err same

never_given : (es : List Event) (y : Machine) (out : List ℕ) (r : Refusal) → Never r (run y es).outs → NeverGiven (256 + refusal_number r) (c_replies es y out)
unfolding run c_replies c_reply
never_given [] y out r h = h
never_given (e ∷ es) y out r h =
    let x = event y e in (λ g. h.0 (refusal_given x.out r g), never_given es x.machine (out_left x.out out) r h.1)

-- ---- from an opening that C was given 0 for

accepted : (r : ℕ) → open_number r ≡ 0 → r ≡ 0
unfolding open_number
accepted r e = go (ℕ_discrete r 0)
  where
    go : Dec (r ≡ 0) → r ≡ 0
    go (yes p) = p
    go (no d) = let z : 256 + r ≡ 0 = rw (ne_eqb r 0 d) at e in absurd (omega arith)

module _ (t : ℕ) (w vs out : List ℕ) (long : length w ≡ 397) (room : length out ≡ 4) (es : List Event) where
  -- the calls after it
  abbrev pub calls : List Called
  calls = c_events es (c_open t w vs).state (c_open t w vs).versions out

  opens : c_open t w vs ≡ called (open_number (opening t vs).refusal) (state_words (opening t vs).machine.state) (opening t vs).machine.versions []
  unfolding c_open
  opens = rw (eq-eqb (length w) 397 long)

  pub calls_are_a_schedule : calls ≡ c_replies es (opening t vs).machine out
  calls_are_a_schedule =
      ap (λ (x : Called). c_events es x.state x.versions out) opens
      ∙ calls_as_defined es (opening t vs).machine (opening_stored t vs) out room

  module _ (opened : (c_open t w vs).number ≡ 0) where
    not_refused : (opening t vs).refusal ≡ 0
    not_refused = accepted (opening t vs).refusal (sym (ap (λ (x : Called). x.number) opens) ∙ opened)

    runs : schedule t vs es ≡ run (opening t vs).machine es
    unfolding schedule run_opened
    runs = rw (eq-eqb (opening t vs).refusal 0 not_refused)

    never : (r : Refusal) → Never r (schedule t vs es).outs → NeverGiven (256 + refusal_number r) calls
    never r h =
        subst (NeverGiven (256 + refusal_number r)) (sym calls_are_a_schedule) (never_given es (opening t vs).machine out r (subst (λ x. Never r x.outs) runs h))

    pub never_8 : NeverGiven 264 calls
    never_8 = never Spoilt (theorems.never_8 t vs not_refused es)

    pub never_7 : t + 1 ≤ length vs / 66 → NeverGiven 263 calls
    never_7 enough = never NoVersion (suffices t vs es enough)
