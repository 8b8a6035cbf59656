-- What the code is held to that looks for the step that mattered, given what an opening is given and events as words: `Judged`. With a refusal
-- every word of both pools is kept, `refusal_keeps`. Assumes nothing.
use Rattle.std.specs.Prelude.{ℕ, ◌*◌, ◌+◌, ◌≤◌, ◌≡◌, refl, List, eqb, length, get_or, if◌then◌else◌}
use Rattle.std.proofs.Common.{ap, ◌∙◌, arith}
use Rattle.std.proofs.Math.ListN.{get_or-eq_default}
use Rattle.std.specs.declared.option.Option.{Option}
use Rattle.std.specs.declared.option.Option.TheVariants.{Some, None}
use Rattle.spec.specs.declared.Config.{Config}
use Rattle.spec.specs.Entries.{Opened, opening}
use Rattle.spec.specs.Schedule.{Event, steps}
use Rattle.schedule_events.specs.Events.{event_of}
use Rattle.schedule_events.specs.EventLaws.{event_at}
use Rattle.mattered.specs.declared.Verdict.{Verdict}
use Rattle.mattered.specs.declared.Verdict.TheVariants.{Place, NoStep, Refused}
use Rattle.mattered.specs.SessionVerdict.{events_verdict, words_after}

-- what is said of a search: the place that it finds, or that there is none
abbrev pub said_of : Option ℕ → Verdict
said_of (Some place) = Place place
said_of None = NoStep

-- the opening's refusal; 15 for more than 256 events; the place, or none
unfoldable pub opened_events_verdict : Opened → List Event → Verdict
opened_events_verdict o es = if eqb o.refusal 0 then events_verdict o.machine es else Refused o.refusal

-- that verdict, and both pools after it
pub record Judged (g : Config) (ns bs : List ℕ) (es : List Event) (v : Verdict) (ns' bs' : List ℕ) : Type 0 where
  pub answer : v ≡ opened_events_verdict (opening g ns bs) es
  pub nodes : ns' ≡ words_after v ns (opening g ns bs).machine.nodes
  pub buckets : bs' ≡ words_after v bs (opening g ns bs).machine.buckets

-- "A refusal gives only its number; state and slices keep every word."
pub refusal_keeps : (g : Config) (ns bs : List ℕ) (es : List Event) (v : Verdict) (ns' bs' : List ℕ) → Judged g ns bs es v ns' bs'
    → (r : ℕ) → v ≡ Refused r → (ns' ≡ ns) × (bs' ≡ bs)
unfolding words_after
refusal_keeps g ns bs es v ns' bs' j r e =
    let y = (opening g ns bs).machine in
    (j.nodes ∙ ap (λ (x : Verdict). words_after x ns y.nodes) e, j.buckets ∙ ap (λ (x : Verdict). words_after x bs y.buckets) e)

-- events are asked for by their number, and 15 is judged by it: one that begins at or past the end of the words is a step of task 0
pub past_the_words : (w : List ℕ) (k : ℕ) → length w ≤ 4 * k → event_at w k ≡ steps 0
unfolding event_of
past_the_words w k h =
    let at : (j : ℕ) → get_or w (4 * k + j) 0 ≡ 0 = λ j. get_or-eq_default w 0 (omega arith) in
    let first = get_or-eq_default w 0 h in
    rw (first, at 1) refl
