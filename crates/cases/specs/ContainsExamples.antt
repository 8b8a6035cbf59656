-- Examples for ContainsExact (ContainsSteps of `spec`): that the set gives the outputs of ThreeAndFive, and outputs of wrong machines, each of
-- which it refuses. Assumes nothing.
use Rattle.std.specs.Prelude.{ℕ, ◌≤◌, ◌≡◌, refl, List, [], ◌∷◌, ◌++◌, length, replicate, Ok, Err}
use Rattle.std.proofs.Common.{sym, ap, inl, inr, arith}
use Rattle.spec.specs.declared.Refusal.TheVariants.{NoRecord, Spoilt}
use Rattle.spec.specs.declared.Answer.TheVariants.{Yes}
use Rattle.spec.specs.declared.Call.TheVariants.{Contains, Grow}
use Rattle.spec.specs.Outputs.{Output}
use Rattle.spec.specs.declared.Progress.TheVariants.{At}
use Rattle.spec.specs.Machine.{config_of}
use Rattle.spec.specs.Schedule.{schedule}
use Rattle.spec.specs.ContainsSteps.{begun, stepped, progress, ThreeOrFive, GoesOn, ContainsExact}
use Rattle.spec.specs.ThreeAndFive.{between, between_outs, of, ◌next◌}
use Rattle.spec.specs.Everything.{everything}
use Rattle.spec.specs.Rows.{stepping, calling, ended, first_grow}

-- ---- what it allows

pub between_runs : (schedule (config_of 2) (replicate 68 7) (replicate 132 7) between).outs ≡ between_outs
unfolding everything stepping calling first_grow between between_outs
between_runs = refl

-- a refused step is none of its steps
pub refused_between : ContainsExact (calling 0 Contains 17 4) (Ok (At 12) ∷ Ok (At 13) ∷ Err Spoilt ∷ Ok (At 18) ∷ ended Yes 3 ∷ [])
unfolding begun stepped progress stepping calling
refused_between = tt next of (inl (refl, omega arith)) next tt next of (inr (inl (refl, omega arith))) next of (refl, inl (refl, refl)) next tt

-- ---- what it says by line 13's answer: no other count

ne_15_18 : ◌≡◌ {A = List Output} (Ok (At 15) ∷ []) (Ok (At 18) ∷ []) → ⊥
ne_15_18 e = let z : ◌≡◌ {A = ℕ} 15 18 = cc in omega arith

pub filled_three : {n : ℕ} → ThreeOrFive (Ok (At 18) ∷ []) n → n ≡ 3
filled_three (inl e) = e.1
filled_three (inr e) = absurd (ne_15_18 (sym e.0))

pub empty_five : {n : ℕ} → ThreeOrFive (Ok (At 15) ∷ []) n → n ≡ 5
empty_five (inl e) = absurd (ne_15_18 e.0)
empty_five (inr e) = e.1

pub done_once : {by : List Output} {n : ℕ} → ThreeOrFive by n → length by ≡ 1
done_once (inl e) = ap length e.0
done_once (inr e) = ap length e.0

pub done_at_most_once : {by : List Output} {n : ℕ} → GoesOn by n → length by ≤ 1
done_at_most_once (inl e) = let z = ap length e.0 in omega arith
done_at_most_once (inr (inl e)) = let z = ap length e.0 in omega arith
done_at_most_once (inr (inr e)) = let z = ap length e.0 in omega arith

pub unread_goes_on : {n : ℕ} → GoesOn [] n → n ≤ 1
unread_goes_on (inl e) = e.1
unread_goes_on (inr (inl e)) = let z = ap length e.0 in omega arith
unread_goes_on (inr (inr e)) = let z = ap length e.0 in omega arith

pub filled_goes_on : {n : ℕ} → GoesOn (Ok (At 18) ∷ []) n → n ≤ 2
filled_goes_on (inl e) = let z = ap length e.0 in omega arith
filled_goes_on (inr (inl e)) = e.1
filled_goes_on (inr (inr e)) = absurd (ne_15_18 (sym e.0))

pub empty_goes_on : {n : ℕ} → GoesOn (Ok (At 15) ∷ []) n → n ≤ 4
empty_goes_on (inl e) = let z = ap length e.0 in omega arith
empty_goes_on (inr (inl e)) = absurd (ne_15_18 e.0)
empty_goes_on (inr (inr e)) = e.1

-- ---- what it refuses: outputs of one contains of task 0

-- four steps or three where line 13 answered 15, five where it answered 18
pub four_for_empty : ¬ ContainsExact (calling 0 Contains 17 4) (Ok (At 12) ∷ Ok (At 13) ∷ Ok (At 15) ∷ Ok (At 18) ∷ ended Yes 4 ∷ [])
unfolding begun stepped progress stepping calling
four_for_empty f = let ends = f.1.1.1.1.0 in let e = empty_five (ends refl).1 in omega arith

pub three_for_empty : ¬ ContainsExact (calling 0 Contains 17 3) (Ok (At 12) ∷ Ok (At 13) ∷ Ok (At 15) ∷ ended Yes 3 ∷ [])
unfolding begun stepped progress stepping calling
three_for_empty f = let ends = f.1.1.1.0 in let e = empty_five (ends refl).1 in omega arith

pub five_for_filled : ¬ ContainsExact (calling 0 Contains 17 5) (Ok (At 12) ∷ Ok (At 13) ∷ Ok (At 18) ∷ Ok (At 16) ∷ Ok (At 18) ∷ ended Yes 5 ∷ [])
unfolding begun stepped progress stepping calling
five_for_filled f = let fourth-on = f.1.1.1.1 in let e = filled_three (fourth-on.1.0 refl).1 in omega arith

-- it goes round from 15 to 13, and ends with five; and before it ends
pub goes_round : ¬ ContainsExact (calling 0 Contains 17 5) (Ok (At 12) ∷ Ok (At 13) ∷ Ok (At 15) ∷ Ok (At 13) ∷ Ok (At 18) ∷ ended Yes 5 ∷ [])
unfolding begun stepped progress stepping calling
goes_round f = let fourth-on = f.1.1.1.1 in let e = done_once (fourth-on.1.0 refl).1 in omega arith

pub goes_round_on : ¬ ContainsExact (calling 0 Contains 17 4) (Ok (At 12) ∷ Ok (At 13) ∷ Ok (At 15) ∷ Ok (At 13) ∷ Ok (At 15) ∷ [])
unfolding begun stepped progress stepping calling
goes_round_on f = let fourth = f.1.1.1.1.0 in let e = done_at_most_once (fourth refl) in omega arith

-- two steps, neither of them line 13
pub goes_past : ¬ ContainsExact (calling 0 Contains 17 2) (Ok (At 12) ∷ Ok (At 15) ∷ Ok (At 18) ∷ [])
unfolding begun stepped progress stepping calling
goes_past f = let e = unread_goes_on (f.1.1.0 refl) in omega arith

-- one that goes on after its fifth step, and after its third where line 13 answered 18
pub goes_on : ¬ ContainsExact (calling 0 Contains 17 5) (Ok (At 12) ∷ Ok (At 13) ∷ Ok (At 15) ∷ Ok (At 16) ∷ Ok (At 17) ∷ Ok (At 18) ∷ [])
unfolding begun stepped progress stepping calling
goes_on f = let fourth-on = f.1.1.1.1 in let e = empty_goes_on (fourth-on.1.0 refl) in omega arith

pub goes_on_filled : ¬ ContainsExact (calling 0 Contains 17 3) (Ok (At 12) ∷ Ok (At 13) ∷ Ok (At 18) ∷ Ok (At 18) ∷ [])
unfolding begun stepped progress stepping calling
goes_on_filled f = let e = filled_goes_on (f.1.1.1.0 refl) in omega arith

-- the same with another task's events and a refused step between
pub goes_on_between : ¬ ContainsExact (calling 0 Contains 17 2 ++ calling 1 Grow 0 1 ++ stepping 0 2)
    (Ok (At 12) ∷ Ok (At 13) ∷ Ok (At 18) ∷ Ok (At 20) ∷ Ok (At 39) ∷ Err NoRecord ∷ Ok (At 18) ∷ [])
unfolding begun stepped progress stepping calling
goes_on_between f = let other-on = f.1.1.1 in let e = filled_goes_on (other-on.1.1.1.0 refl) in omega arith

-- own steps that are not those made
pub own_steps_invented : ¬ ContainsExact (calling 0 Contains 17 5) (Ok (At 12) ∷ Ok (At 13) ∷ Ok (At 15) ∷ Ok (At 16) ∷ Ok (At 18) ∷ ended Yes 3 ∷ [])
unfolding begun stepped progress stepping calling
own_steps_invented f = let fourth-on = f.1.1.1.1 in let e = (fourth-on.1.0 refl).0 in omega arith
