-- How many versions always suffice: one more than there are tasks, and no fewer. A step that is refused with 7 finds each version to be the
-- o of a task (Seven), and no event changes T or the number of versions (Fixed). With T versions a schedule meets 7: each task but one
-- names a version that the bucket had, one after the other, and the one left stands at line 140. Assumes nothing.
use Rattle.std.specs.Prelude.{◌*◌, ◌+◌, ◌-◌, ◌/◌, ◌<◌, ◌≤◌, suc, zero, ℕ, Bool, false, not, true, List, [], ◌∷◌, ◌++◌, ◌≡◌, refl, eqb, length, replicate, if◌then◌else◌, Ok, Err}
use Rattle.std.proofs.Common.{inl, inr, ◌∙◌, ap, arith, eqb-true}
use Rattle.std.proofs.Math.Decide.{dec_le}
use Rattle.std.proofs.Math.Nat.{mul-div_cancel_left}
use Rattle.std.proofs.lemmas.List.{length-replicate}
use Rattle.coop_spec.specs.declared.Refusal.TheVariants.{NoVersion}
use Rattle.spec.specs.Entries.{pool_fits}
use Rattle.spec.specs.Lists.{every, member, range}
use Rattle.spec.specs.Sound.{within}
use Rattle.laws.specs.Lists.{every_head, every_tail, member_cons, no_member, range_has}
use Rattle.laws.specs.Tests.{tf}
use Rattle.coop_spec.specs.Rows.{calling, stepping}
use Rattle.coop_spec.specs.Entries.{fresh_machine, not_opened, opening}
use Rattle.coop_spec.specs.Everything.{everything}
use Rattle.coop_spec.specs.Linearizable.{Never, Suffices, enough_versions}
use Rattle.coop_spec.specs.Machine.{Machine, state_of}
use Rattle.coop_spec.specs.Schedule.{Event, event, run, run_opened, schedule, starts, steps}
use Rattle.coop_spec.specs.declared.Call.TheVariants.{HasMember, InvokeInsert}
use Rattle.coop_spec.specs.Outputs.{Output}
use Rattle.coop_laws.specs.Fixed.{event_fixed}
use Rattle.coop_laws.specs.Refusals.{StartRefused, StepRefused, start_refused_iff, step_refused_iff}
use Rattle.coop_laws.specs.Seven.{held_by_tasks}
use Rattle.coop_laws.specs.RefusalNumbers.{same_refusal}
use Rattle.coop_spec.specs.declared.Progress.TheVariants as Outs
use Rattle.coop_spec.specs.Numbers.{refusal_number}

-- ---- one more than there are tasks

start_not_7 : {y : Machine} {p : ℕ} {call : _} {n k : ℕ} → StartRefused y p call n k NoVersion → ⊥
start_not_7 (StartRefused.is_8 e s) = absurd (omega (arith, ap refusal_number e))
start_not_7 (StartRefused.is_4 e s b) = absurd (omega (arith, ap refusal_number e))
start_not_7 (StartRefused.is_5_running e s b r) = absurd (omega (arith, ap refusal_number e))
start_not_7 (StartRefused.is_5_barred e s b r a) = absurd (omega (arith, ap refusal_number e))

step_not_7 : {y : Machine} {p : ℕ} → y.state.tasks < y.state.versions → StepRefused y p NoVersion → ⊥
step_not_7 more (StepRefused.is_8 e s) = absurd (omega (arith, ap refusal_number e))
step_not_7 more (StepRefused.is_4 e s b) = absurd (omega (arith, ap refusal_number e))
step_not_7 more (StepRefused.is_6 e s b r) = absurd (omega (arith, ap refusal_number e))
step_not_7 more (StepRefused.is_8_step e s b r u) = absurd (omega (arith, ap refusal_number e))
step_not_7 {y} {p} more (StepRefused.is_7 e s b r u h) = let few = held_by_tasks y s p b h in absurd (omega arith)

event_not_7 : (y : Machine) (e : Event) → y.state.tasks < y.state.versions → ¬ ((event y e).out ≡ Err NoVersion)
unfolding event
event_not_7 y (starts p call n k) more q = start_not_7 ((start_refused_iff y p call n k NoVersion).0 q)
event_not_7 y (steps p) more q = step_not_7 more ((step_refused_iff y p NoVersion).0 q)

run_never_7 : (es : List Event) (y : Machine) → y.state.tasks < y.state.versions → Never NoVersion (run y es).outs
unfolding run
run_never_7 [] y more = tt
run_never_7 (e ∷ es) y more =
    let f = event_fixed y e in
    (event_not_7 y e more, run_never_7 es (event y e).machine (rw (f.tasks≡, f.versions≡) more))

pub suffices : (t : ℕ) → Suffices t (enough_versions t)
unfolding schedule run_opened opening not_opened fresh_machine state_of
suffices t ws es enough = go (not (within 1 8 t)) (not (pool_fits 66 1024 (length ws)))
  where
    fresh : Machine
    fresh = fresh_machine t (length ws / 66)

    go : (a b : Bool)
        → Never NoVersion (run_opened (if a then not_opened 1 ws else if b then not_opened 3 ws else record { refusal = 0; machine = fresh }) es).outs
    go true b = tt
    go false true = tt
    go false false = run_never_7 es fresh (omega arith)

-- ---- and no fewer

-- tasks 1 to n each name a version of their own: a member test stops there, and task 0 inserts a tag
unfoldable named_by : ℕ → List Event
named_by zero = []
named_by (suc n) = named_by n ++ calling (suc n) HasMember 0 0 1 ++ calling 0 InvokeInsert n n 11

-- task 0 is then refused at line 140
unfoldable crowded : ℕ → List Event
crowded t = named_by (t - 1) ++ calling 0 InvokeInsert t t 11

-- the first refusal is a 7
unfoldable refused_7 : List Output → Bool
refused_7 [] = false
refused_7 (Ok (Outs.At l) ∷ os) = refused_7 os
refused_7 (Ok (Outs.End a own) ∷ os) = refused_7 os
refused_7 (Err r ∷ os) = eqb (refusal_number r) 7

not_never : (os : List Output) → refused_7 os ≡ true → Never NoVersion os → ⊥
unfolding refused_7
not_never [] e n = tf e refl
not_never (Ok (Outs.At l) ∷ os) e n = not_never os e n.1
not_never (Ok (Outs.End a own) ∷ os) e n = not_never os e n.1
not_never (Err r ∷ os) e n = n.0 (ap Err (same_refusal r NoVersion (eqb-true (refusal_number r) 7 e)))

-- with T versions, whatever they held
unfoldable meets_7 : ℕ → Bool
meets_7 t = refused_7 (schedule t (replicate (66 * t) 7) (crowded t)).outs

each_meets_7 : every meets_7 (range 1 8) ≡ true
unfolding everything stepping calling named_by crowded refused_7 meets_7
each_meets_7 = refl

every_member : (f : ℕ → Bool) (l : List ℕ) (n : ℕ) → every f l ≡ true → member n l ≡ true → f n ≡ true
every_member f [] n e m = absurd (no_member n m)
every_member f (x ∷ l) n e m = elim (member_cons n x l m) [
  | inl q ↦ ap f q ∙ every_head f x l e
  | inr q ↦ every_member f l n (every_tail f x l e) q
]

pub least : (t v : ℕ) → 1 ≤ t → t ≤ 8 → Suffices t v → enough_versions t ≤ v
unfolding meets_7
least t v low high s = go (dec_le (t + 1) v)
  where
    go : Dec (t + 1 ≤ v) → t + 1 ≤ v
    go (yes q) = q
    go (no d) =
        let pool : List ℕ = replicate (66 * t) 7 in
        let whole : length pool / 66 ≡ t = ap (λ (n : ℕ). n / 66) (length-replicate (66 * t) 7) ∙ mul-div_cancel_left t (omega arith) in
        absurd (not_never (schedule t pool (crowded t)).outs (every_member meets_7 (range 1 8) t each_meets_7 (range_has t 1 8 low (omega arith)))
        (s pool (crowded t) (rw whole (omega arith))))
