-- A step that is refused never is the step that mattered: it leaves every word as it was, so the list of ended calls is the same without it.
-- It counts for the place all the same. Assumes nothing.
use Rattle.std.specs.Prelude.{ℕ, ◌≡◌, refl, List, [], ◌∷◌, ◌++◌, Err}
use Rattle.std.proofs.Common.{sym, ap, ◌∙◌, append_assoc}
use Rattle.spec.specs.declared.Refusal.{Refusal}
use Rattle.spec.specs.Machine.{Machine, task_of}
use Rattle.spec.specs.Schedule.{Event, steps, event, run}
use Rattle.corollaries.specs.Unchanged.{refused_event_changes_nothing}
use Rattle.session.specs.Transcript.{task_in}
use Rattle.mattered.specs.EndedCalls.{EndedCall, ended_by, ended_calls}
use Rattle.mattered_laws.specs.Earliest.{StepAt}

calls_then : (y : Machine) (before after : List Event) → ended_calls y (before ++ after) ≡ ended_calls y before ++ ended_calls (run y before).machine after
unfolding ended_calls run
calls_then y [] after = refl
calls_then y (e ∷ before) after =
    let m = event y e in
    let calls = ended_by (task_in e) (task_of y (task_in e)) m.out in
    ap (λ (l : List EndedCall). calls ++ l) (calls_then m.machine before after)
    ∙ sym (append_assoc calls (ended_calls m.machine before) (ended_calls (run m.machine before).machine after))

module _ (y : Machine) (k : ℕ) (r : Refusal) (refused : (event y (steps k)).out ≡ Err r) (after : List Event) where
  nothing_ends : ended_calls y (steps k ∷ after) ≡ ended_calls y after
  unfolding ended_calls ended_by
  nothing_ends = rw (refused, refused_event_changes_nothing y (steps k) r refused)

pub refused_never_matters : (y : Machine) (es : List Event) (i : ℕ) (s : StepAt es i) (r : Refusal)
    → (event (run y s.before).machine (steps s.task)).out ≡ Err r → ended_calls y (s.before ++ s.after) ≡ ended_calls y es
refused_never_matters y es i s r refused =
    let z = (run y s.before).machine in
    calls_then y s.before s.after
    ∙ ap (λ (l : List EndedCall). ended_calls y s.before ++ l) (sym (nothing_ends z s.task r refused s.after))
    ∙ sym (calls_then y s.before (steps s.task ∷ s.after))
    ∙ ap (ended_calls y) (sym s.whole)
