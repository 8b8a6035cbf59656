-- Paper 02, U6: "The promise that a contains ends within five becomes exact: three if the place read at line 13 was filled, five if it was
-- empty, with no other count, in every schedule, whatever other tasks do between.": as a type, told from the events of a schedule and
-- their outputs alone. It is more than paper 01's "A contains ends at the latest with its fifth own step.". Proved in the crate linear;
-- what it allows and refuses is in ContainsExamples. Assumes nothing.
use Rattle.std.specs.Prelude.{ℕ, suc, ◌≤◌, ◌≡◌, List, [], ◌∷◌, ◌⊎◌, eqb, if◌then◌else◌, Ok, Err}
use Rattle.spec.specs.declared.Call.{Call}
use Rattle.spec.specs.declared.Call.TheVariants.{Contains, Grow}
use Rattle.spec.specs.Outputs.{Output}
use Rattle.spec.specs.declared.Progress.TheVariants.{At, End}
use Rattle.spec.specs.Schedule.{Event, starts, steps}

-- ---- a task's last started call, and how far it got

pub record Progress : Type 0 where
  pub call : Call
  -- the line at which it stands, as its last accepted event answered; 0 after its end
  pub line : ℕ
  -- its accepted steps, the one that ended it among them
  pub accepted : ℕ
  -- what those of them that did line 13 answered, the last first
  pub by_13 : List Output

-- after its accepted start; after an accepted step more, from the line at which it stood
unfoldable pub begun : Call → ℕ → Progress
begun call l = record { call = call; line = l; accepted = 0; by_13 = [] }

unfoldable pub stepped : ℕ → Output → Progress → Progress
stepped l o r =
    record {
      call = r.call;
      line = l;
      accepted = suc r.accepted;
      by_13 = if eqb r.line 13 then o ∷ r.by_13 else r.by_13;
    }

-- each task's, after one event
unfoldable pub progress : (ℕ → Progress) → Event → Output → ℕ → Progress
progress r (starts p call tag) (Ok (At l)) q = if eqb q p then begun call l else r q
progress r (starts p call tag) (Ok (End a own full)) q = r q
progress r (starts p call tag) (Err n) q = r q
progress r (steps p) (Ok (At l)) q = if eqb q p then stepped l (Ok (At l)) (r q) else r q
progress r (steps p) (Ok (End a own full)) q = if eqb q p then stepped 0 (Ok (End a own full)) (r q) else r q
progress r (steps p) (Err n) q = r q

-- before the first event no task has started a contains
abbrev pub no_progress : ℕ → Progress
no_progress q = begun Grow 0

-- a claim of each event and its output, and of the progress after it; r is the progress before the first of them
abbrev pub Throughout : ((ℕ → Progress) → Event → Output → Type 0) → (ℕ → Progress) → List Event → List Output → Type 0
Throughout P r [] os = Unit {0}
Throughout P r (e ∷ es) [] = Unit {0}
Throughout P r (e ∷ es) (o ∷ os) = P (progress r e o) e o × Throughout P (progress r e o) es os

-- ---- the claim

-- paper 01: "13 b is t's place for the tag; filled to 18, empty to 15.": a contains that has ended did line 13 once, and by what that step
-- answered it made so many steps
abbrev pub ThreeOrFive : List Output → ℕ → Type 0
ThreeOrFive by n = ((by ≡ Ok (At 18) ∷ []) × (n ≡ 3)) ⊎ ((by ≡ Ok (At 15) ∷ []) × (n ≡ 5))

-- one that goes on has made fewer, and done line 13 at most once
abbrev pub GoesOn : List Output → ℕ → Type 0
GoesOn by n = ((by ≡ []) × (n ≤ 1)) ⊎ ((by ≡ Ok (At 18) ∷ []) × (n ≤ 2)) ⊎ ((by ≡ Ok (At 15) ∷ []) × (n ≤ 4))

-- after each accepted step of a contains; the one that ends it gives as own steps how many it made
abbrev pub Exact : (ℕ → Progress) → Event → Output → Type 0
Exact r (starts p call tag) o = Unit {0}
Exact r (steps p) (Ok (At l)) = (r p).call ≡ Contains → GoesOn (r p).by_13 (r p).accepted
Exact r (steps p) (Ok (End a own full)) = (r p).call ≡ Contains → (own ≡ (r p).accepted) × ThreeOrFive (r p).by_13 own
Exact r (steps p) (Err n) = Unit {0}

abbrev pub ContainsExact : List Event → List Output → Type 0
ContainsExact es os = Throughout Exact no_progress es os
