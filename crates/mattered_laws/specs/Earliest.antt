-- What is promised of `mattered`, for any machine and any events:
--
--   event_exactly   place p is given exactly if the event there is a step without which the list of ended calls is another, and no earlier
--                   event is such a step
--   none_exactly    none is said exactly if no event is such a step
--
-- They hold since the search tries every place in turn, and since the comparison of two lists is their equality (Compared). Assumes
-- nothing.
use Rattle.std.specs.Prelude.{ℕ, zero, suc, ◌+◌, ◌<◌, ◌≤◌, ◌≡◌, true, false, not, ◌&&◌, ◌⊎◌, ◌↔◌, eqb, length, if◌then◌else◌}
use Rattle.std.proofs.Math.Path.{refl, ap}
use Rattle.std.proofs.Common.{sym, ◌∙◌, inl, inr, arith}
use mathlib.Core.List.{List, [], ◌∷◌, ◌++◌}
use Rattle.std.proofs.Math.Bool.{Bool}
use borrow.Author.Tests.{not-true, eqb-true, eqb-false}
use Rattle.spec.specs.Machine.{Machine}
use Rattle.spec.specs.Schedule.{Event, starts, steps}
use Rattle.laws.specs.Tests.{tf, bool?, and2, and_i}
use Rattle.mattered.specs.declared.Verdict.{Verdict}
use Rattle.mattered.specs.declared.Verdict.TheVariants.{Place, NoStep, Refused}
use Rattle.mattered.specs.EndedCalls.{ended_calls, same_calls}
use Rattle.mattered_laws.specs.Compared.{same_calls_true, same_calls_refl}
use Rattle.mattered.specs.Mattered.{is_step, step_at, without, alters, first_place, mattered}

-- ---- a step whose omission alters the list, in plain words

-- the event at place i, from 0, is a step
pub record StepAt (es : List Event) (i : ℕ) : Type 0 where
  pub before : List Event
  pub task : ℕ
  pub after : List Event
  pub whole : es ≡ before ++ (steps task ∷ after)
  pub place : i ≡ length before

pub record Alters (y : Machine) (es : List Event) (i : ℕ) : Type 0 where
  pub step : StepAt es i
  pub other : ¬ (ended_calls y (step.before ++ step.after) ≡ ended_calls y es)

-- "the earliest step event whose omission alters the list of ended calls ... its place among the events, from 1"
pub record Earliest (y : Machine) (es : List Event) (p : ℕ) : Type 0 where
  pub place : ℕ
  pub from_1 : p ≡ suc place
  pub alters : Alters y es place
  pub none_earlier : (j : ℕ) → j < place → ¬ Alters y es j

-- ---- the test says so

step_found : (es : List Event) (i : ℕ) → step_at i es ≡ true → StepAt es i
unfolding step_at is_step
step_found [] i e = absurd (tf e refl)
step_found (starts k call tag ∷ es) zero e = absurd (tf e refl)
step_found (steps k ∷ es) zero e = record { before = []; task = k; after = es; whole = refl; place = refl }
step_found (x ∷ es) (suc i) e =
    let s = step_found es i e in
    record { before = x ∷ s.before; task = s.task; after = s.after; whole = ap (λ l. x ∷ l) s.whole; place = ap suc s.place }

module _ (k : ℕ) (after : List Event) where
  is_step_there : (before : List Event) → step_at (length before) (before ++ (steps k ∷ after)) ≡ true
  unfolding step_at is_step
  is_step_there [] = refl
  is_step_there (x ∷ before) = is_step_there before

  without_it : (before : List Event) → without (length before) (before ++ (steps k ∷ after)) ≡ before ++ after
  unfolding without
  without_it [] = refl
  without_it (x ∷ before) = ap (λ l. x ∷ l) (without_it before)

module _ (es : List Event) (i : ℕ) (s : StepAt es i) where
  step_here : step_at i es ≡ true
  step_here = rw (s.place, s.whole) (is_step_there s.task s.after s.before)

  omitted : without i es ≡ s.before ++ s.after
  omitted = rw (s.place, s.whole) (without_it s.task s.after s.before)

  within : i < length es
  within = go s.before s.place s.whole
    where
      longer : (before : List Event) → length before < length (before ++ (steps s.task ∷ s.after))
      longer [] = omega arith
      longer (x ∷ before) = omega (arith, longer before)

      go : (before : List Event) → i ≡ length before → es ≡ before ++ (steps s.task ∷ s.after) → i < length es
      go before e f = rw (e, f) (longer before)

module _ (y : Machine) (es : List Event) (i : ℕ) where
  alters_means : alters y es i ≡ true → Alters y es i
  unfolding alters
  alters_means e =
      let q = and2 (step_at i es) (not (same_calls (ended_calls y (without i es)) (ended_calls y es))) e in
      let s = step_found es i q.0 in
      let differs = not-true _ q.1 in
      record {
        step = s;
        other = λ same.
            let t = ap (ended_calls y) (omitted es i s) ∙ same in
            tf (ap (λ l. same_calls l (ended_calls y es)) t ∙ same_calls_refl (ended_calls y es)) differs;
      }

  means_alters : Alters y es i → alters y es i ≡ true
  unfolding alters
  means_alters a = go (bool? same)
    where
      same : Bool
      same = same_calls (ended_calls y (without i es)) (ended_calls y es)

      go : (same ≡ true) ⊎ (same ≡ false) → (step_at i es && not same) ≡ true
      go (inl s) = absurd (a.other (sym (ap (ended_calls y) (omitted es i a.step)) ∙ same_calls_true _ _ s))
      go (inr s) = and_i (step_at i es) (not same) (step_here es i a.step) (ap not s)

-- ---- what the search finds

-- of n places from i on: the first at which the test passes, or none
data Searched (f : ℕ → Bool) (i n : ℕ) : Verdict → Type 0 where
  found : (p : ℕ) → i ≤ p → f p ≡ true → ((j : ℕ) → i ≤ j → j < p → f j ≡ false) → Searched f i n (Place (suc p))
  nowhere : ((j : ℕ) → i ≤ j → j < i + n → f j ≡ false) → Searched f i n NoStep

searched : (f : ℕ → Bool) (i n : ℕ) → Searched f i n (first_place f i n)
unfolding first_place
searched f i zero = nowhere (λ j a b. absurd (omega arith))
searched f i (suc n) = go (f i) refl (searched f (suc i) n)
  where
    past : f i ≡ false → (j : ℕ) → i ≤ j → (suc i ≤ j → f j ≡ false) → f j ≡ false
    past e j a g = at (bool? (eqb i j))
      where
        at : (eqb i j ≡ true) ⊎ (eqb i j ≡ false) → f j ≡ false
        at (inl q) = let z : i ≡ j = eqb-true i j q in rw (← z) e
        at (inr q) = let z : i ≡ j → ⊥ = eqb-false i j q in g (omega arith)

    later : f i ≡ false → {v : Verdict} → Searched f (suc i) n v → Searched f i (suc n) v
    later e (found p a t none) = found p (omega arith) t (λ j b c. past e j b (λ d. none j d c))
    later e (nowhere none) = nowhere (λ j b c. past e j b (λ d. none j d (omega arith)))

    go : (b : Bool) → f i ≡ b → Searched f (suc i) n (first_place f (suc i) n) → Searched f i (suc n) (if b then Place (suc i) else first_place f (suc i) n)
    go true e r = found i (omega arith) e (λ j a b. absurd (omega arith))
    go false e r = later e r

-- ---- the promises

-- what is given, and what it means
pub data Meaning (y : Machine) (es : List Event) : Verdict → Type 0 where
  earliest : {p : ℕ} → Earliest y es p → Meaning y es (Place p)
  none : ((i : ℕ) → ¬ Alters y es i) → Meaning y es NoStep

pub meaning : (y : Machine) (es : List Event) → Meaning y es (mattered y es)
unfolding mattered
meaning y es = go (searched (alters y es) 0 (length es))
  where
    not_altered : (j : ℕ) → alters y es j ≡ false → ¬ Alters y es j
    not_altered j e a = tf (means_alters y es j a) e

    go : {v : Verdict} → Searched (alters y es) 0 (length es) v → Meaning y es v
    go (found p a t none_before) =
        earliest (record {
          place = p;
          from_1 = refl;
          alters = alters_means y es p t;
          none_earlier = λ j b. not_altered j (none_before j (omega arith) b);
        })
    go (nowhere none_at) = none (λ i a. not_altered i (none_at i (omega arith) (omega (arith, within es i a.step))) a)

module _ (y : Machine) (es : List Event) where
  pub event_exactly : (p : ℕ) → (mattered y es ≡ Place p) ↔ Earliest y es p
  event_exactly p = (λ e. only (meaning y es) e, λ h. back h (meaning y es))
    where
      only : {v : Verdict} → Meaning y es v → v ≡ Place p → Earliest y es p
      only (earliest {p = q} h) e = let z : q ≡ p = cc in rw z at h
      only (none h) e = let z : ◌≡◌ {A = ℕ} 0 1 = cc in absurd (omega arith)

      same : Earliest y es p → (q : ℕ) → Earliest y es q → q ≡ p
      same h q k =
          let a : k.place < h.place → ⊥ = λ l. h.none_earlier k.place l k.alters in
          let b : h.place < k.place → ⊥ = λ l. k.none_earlier h.place l h.alters in
          omega (arith, h.from_1, k.from_1)

      back : Earliest y es p → {v : Verdict} → Meaning y es v → v ≡ Place p
      back h (earliest {p = q} k) = ap (λ (n : ℕ). Place n) (same h q k)
      back h (none k) = absurd (k h.place h.alters)

  -- "If no single omission does so, it says none."
  pub none_exactly : (mattered y es ≡ NoStep) ↔ ((i : ℕ) → ¬ Alters y es i)
  none_exactly = (λ e. only (meaning y es) e, λ h. back h (meaning y es))
    where
      only : {v : Verdict} → Meaning y es v → v ≡ NoStep → (i : ℕ) → ¬ Alters y es i
      only (earliest h) e = let z : ◌≡◌ {A = ℕ} 0 1 = cc in absurd (omega arith)
      only (none h) e = h

      back : ((i : ℕ) → ¬ Alters y es i) → {v : Verdict} → Meaning y es v → v ≡ NoStep
      back h (earliest k) = absurd (h k.place k.alters)
      back h (none k) = refl

  -- no refusal is given
  pub not_refused : (r : ℕ) → ¬ (mattered y es ≡ Refused r)
  not_refused r e = go (meaning y es) e
    where
      go : {v : Verdict} → Meaning y es v → v ≡ Refused r → ⊥
      go (earliest k) e = let z : ◌≡◌ {A = ℕ} 0 1 = cc in omega arith
      go (none k) e = let z : ◌≡◌ {A = ℕ} 0 1 = cc in omega arith
