-- Examples for the promises of request U12: each number at its bound and one past it, in told runs; what is a start, what is counted from now
-- on, and what refuses a step. Assumes nothing.
use Rattle.std.specs.Prelude.{ℕ, zero, suc, ◌≤◌, ◌<◌, ◌≡◌, refl, List, [], ◌∷◌, ◌++◌, map, Bool, true, false, eqb, replicate, if◌then◌else◌, Ok, Err}
use Rattle.std.proofs.Common.{sym, subst, ◌∙◌, arith, eqb-true, ap}
use Rattle.spec.specs.declared.Refusal.{Refusal}
use Rattle.spec.specs.declared.Refusal.TheVariants.{NoTask, Running, Idle, NoRecord}
use Rattle.spec.specs.declared.Answer.TheVariants.{Yes, No, Full, Done, Lost, Limit}
use Rattle.spec.specs.declared.Call.{Call}
use Rattle.spec.specs.declared.Call.TheVariants.{Insert, Remove, Contains, Grow, Shrink}
use Rattle.spec.specs.declared.Progress.TheVariants.{At}
use Rattle.spec.specs.Machine.{config_of, task_of}
use Rattle.spec.specs.Schedule.{starts, steps}
use Rattle.spec.specs.Rows.{stepping, ended}
use Rattle.spec.specs.Numbers.{refusal_number}
use Rattle.turns.specs.Moves.{Move, enters, turns, moves, run_of, stands_for, outputs}
use Rattle.pace.specs.StepCounts.{CallCount, done_with, count, counts, none_begun, anew, most_steps, StepsWithin, NobodyStarts}
use Rattle.pace.specs.StepCounts.{EndsWithin292, Only7Refuses}
use Rattle.pace.specs.EndsByTurns.{turn_count, EndsByTurns}
use Rattle.pace.specs.Rows.{counting}

-- ---- R and the numbers of steps

-- only a resize that ended done is counted, of all six answers
pub done_rows : map done_with (Yes ∷ No ∷ Full ∷ Done ∷ Lost ∷ Limit ∷ []) ≡ 0 ∷ 0 ∷ 0 ∷ 1 ∷ 0 ∷ 0 ∷ []
unfolding counting
done_rows = refl

-- 12 × (1 + R) of an insert and a remove, five of a contains, 292 of a resize, with no, one and eight resizes meanwhile
pub most_rows :
    map (λ (c : Call). map (most_steps c) (0 ∷ 1 ∷ 8 ∷ [])) (Insert ∷ Remove ∷ Contains ∷ Grow ∷ Shrink ∷ [])
    ≡ (12 ∷ 24 ∷ 108 ∷ []) ∷ (12 ∷ 24 ∷ 108 ∷ []) ∷ (5 ∷ 5 ∷ 5 ∷ []) ∷ (292 ∷ 292 ∷ 292 ∷ []) ∷ (292 ∷ 292 ∷ 292 ∷ []) ∷ []
most_rows = refl

-- every task runs this call, has made so many steps of it, and so many resizes were done meanwhile
unfoldable pub all_run : Call → ℕ → ℕ → ℕ → CallCount
all_run call n r q = record { call = call; running = true; accepted = n; resizes = r }

-- one step of task 0 more, which goes on
abbrev pub OneMore : Call → ℕ → ℕ → Type 0
OneMore call n r = StepsWithin (all_run call n r) (steps 0 ∷ []) (Ok (At 40) ∷ [])

pub within :
    OneMore Insert 11 0 × OneMore Remove 11 0 × OneMore Insert 23 1 × OneMore Remove 35 2 × OneMore Contains 4 0
    × OneMore Grow 291 0 × OneMore Shrink 291 0
unfolding counting all_run
within = ((omega arith, tt), (omega arith, tt), (omega arith, tt), (omega arith, tt), (omega arith, tt), (omega arith, tt), (omega arith, tt))

pub one_past :
    (¬ OneMore Insert 12 0) × (¬ OneMore Remove 12 0) × (¬ OneMore Insert 24 1) × (¬ OneMore Remove 36 2) × (¬ OneMore Contains 5 9)
    × (¬ OneMore Grow 292 9) × (¬ OneMore Shrink 292 9)
unfolding counting all_run
one_past = (
  λ w. (let e = w.0 in omega arith),
  λ w. (let e = w.0 in omega arith),
  λ w. (let e = w.0 in omega arith),
  λ w. (let e = w.0 in omega arith),
  λ w. (let e = w.0 in omega arith),
  λ w. (let e = w.0 in omega arith),
  λ w. (let e = w.0 in omega arith),
)

-- the step that ends the call is counted too, and so is the second event's, another task's; a refused step is none
pub past_by_its_end : ¬ StepsWithin (all_run Insert 12 0) (steps 0 ∷ []) (ended No 13 ∷ [])
unfolding counting all_run
past_by_its_end w = let e = w.0 in omega arith

pub past_later : ¬ StepsWithin (all_run Insert 11 0) (steps 0 ∷ steps 1 ∷ steps 1 ∷ []) (Ok (At 40) ∷ Ok (At 40) ∷ Ok (At 43) ∷ [])
unfolding counting all_run
past_later w = let e = w.1.1.0 in omega arith

pub refused_not_counted : StepsWithin (all_run Insert 12 0) (steps 0 ∷ starts 0 Insert 5 ∷ []) (Err NoRecord ∷ Err Running ∷ [])
unfolding counting all_run
refused_not_counted = (omega arith, (tt, tt))

-- task 0's insert has made 12 steps, all others run a grow: one that ends done allows twelve more, one that ends lost or meets its limit none
unfoldable pub beside : ℕ → CallCount
beside q = if eqb q 0 then all_run Insert 12 0 q else all_run Grow 6 0 q

pub done_allows_more : StepsWithin beside (steps 1 ∷ steps 0 ∷ []) (ended Done 7 ∷ Ok (At 40) ∷ [])
unfolding counting all_run beside
done_allows_more = (omega arith, (omega arith, tt))

pub others_allow_none :
    (¬ StepsWithin beside (steps 1 ∷ steps 0 ∷ []) (ended Lost 7 ∷ Ok (At 40) ∷ [])) × (¬ StepsWithin beside (steps 1 ∷ steps 0 ∷ []) (ended Limit 1 ∷ Ok (At 40) ∷ []))
    × (¬ StepsWithin beside (steps 1 ∷ steps 0 ∷ []) (ended Yes 3 ∷ Ok (At 40) ∷ []))
unfolding counting all_run beside
others_allow_none = (λ w. (let e = w.1.0 in omega arith), λ w. (let e = w.1.0 in omega arith), λ w. (let e = w.1.0 in omega arith))

-- a start that is accepted counts from 0 with no resize, one that is refused changes nothing
pub counted_from_its_start :
    map (λ o. counts (all_run Insert 9 4) (starts 0 Remove 5 ∷ steps 0 ∷ []) (o ∷ Ok (At 33) ∷ []) 0) (Ok (At 32) ∷ Err Running ∷ [])
    ≡ record { call = Remove; running = true; accepted = 1; resizes = 0 } ∷ record { call = Insert; running = true; accepted = 10; resizes = 4 } ∷ []
unfolding counting all_run
counted_from_its_start = refl

-- ---- "If nobody starts a new call"

-- steps, ends and refused starts are no start; an accepted one is, wherever it stands
pub nobody_starts :
    NobodyStarts (starts 0 Insert 5 ∷ steps 1 ∷ starts 8 Grow 0 ∷ steps 1 ∷ steps 1 ∷ [])
    (Err Running ∷ Ok (At 33) ∷ Err NoTask ∷ ended Yes 3 ∷ Err Idle ∷ [])
nobody_starts = (tt, (tt, (tt, (tt, (tt, tt)))))

pub somebody_starts :
    (¬ NobodyStarts (starts 0 Insert 5 ∷ []) (Ok (At 32) ∷ [])) × (¬ NobodyStarts (steps 1 ∷ starts 0 Contains 5 ∷ steps 0 ∷ []) (Ok (At 33) ∷ Ok (At 12) ∷ Ok (At 13) ∷ []))
    × (¬ NobodyStarts (steps 1 ∷ steps 1 ∷ starts 2 Grow 0 ∷ []) (Ok (At 33) ∷ Err NoRecord ∷ Ok (At 20) ∷ []))
somebody_starts = (λ n. n.0, λ n. n.1.0, λ n. n.1.1.0)

-- ---- "at the latest with its 292nd further accepted step": a shrink that has made 99 steps with 3 resizes meanwhile makes n more, and goes on; or
-- ends with one more

abbrev pub GoesOn : ℕ → Type 0
GoesOn n = EndsWithin292 (all_run Shrink 99 3) (stepping 0 n) (replicate n (Ok (At 40)))

abbrev pub Ends : ℕ → Type 0
Ends n = EndsWithin292 (all_run Shrink 99 3) (stepping 0 n ++ steps 0 ∷ []) (replicate n (Ok (At 40)) ++ ended Done 9 ∷ [])

-- further steps are counted from now on
pub from_now_on :
    map (λ n. (counts (anew (all_run Shrink 99 3)) (stepping 0 n) (replicate n (Ok (At 40))) 0).accepted) (0 ∷ 1 ∷ 291 ∷ []) ≡ 0 ∷ 1 ∷ 291 ∷ []
unfolding counting stepping all_run
from_now_on = refl

-- it may not still run after its 292nd, nor end with its 293rd
pub still_runs : ¬ GoesOn 292
unfolding counting stepping all_run
still_runs w = let e = (w 0).1 refl in omega arith

pub ends_late : ¬ Ends 292
unfolding counting stepping all_run
ends_late w = let e = (w 0).0 in omega arith

-- and it may run after its 291st, and end with its 292nd: the promise holds of task 0, whose steps they are, and of the others, which make none
others_wait : (c : ℕ → CallCount) (n q : ℕ) → eqb q 0 ≡ false → counts c (stepping 0 n) (replicate n (Ok (At 40))) q ≡ c q
unfolding counting stepping
others_wait c zero q e = refl
others_wait c (suc n) q e = others_wait (count c (steps 0) (Ok (At 40))) n q e ∙ rw e

pub in_time : GoesOn 291
unfolding counting stepping all_run
in_time q = go (eqb q 0) refl
  where
    Asked : CallCount → Type 0
    Asked d = (d.accepted ≤ 292) × (d.running ≡ true → d.accepted < 292)

    after : ℕ → CallCount
    after p = counts (anew (all_run Shrink 99 3)) (stepping 0 291) (replicate 291 (Ok (At 40))) p

    go : (b : Bool) → eqb q 0 ≡ b → Asked (after q)
    go true e = subst (λ p. Asked (after p)) (sym (eqb-true q 0 e)) (omega arith, λ runs. omega arith)
    go false e = subst Asked (sym (others_wait (anew (all_run Shrink 99 3)) 291 q e)) (omega arith, λ runs. omega arith)

pub ends_in_time : counts (anew (all_run Shrink 99 3)) (stepping 0 291 ++ steps 0 ∷ []) (replicate 291 (Ok (At 40)) ++ ended Done 9 ∷ []) 0 ≡ record {
  call = Shrink;
  running = false;
  accepted = 292;
  resizes = 0;
}
unfolding counting stepping all_run
ends_in_time = refl

-- of any task, not of the first alone
pub any_task : ¬ EndsWithin292 (all_run Shrink 99 3) (stepping 3 293) (replicate 293 (Ok (At 40)))
unfolding counting stepping all_run
any_task w = let e = (w 3).0 in omega arith

-- ---- "and until then only 7 refuses its steps"

abbrev pub Refuses : Refusal → Type 0
Refuses r = Only7Refuses (all_run Insert 3 0) (steps 0 ∷ []) (Err r ∷ [])

pub only_7 : Refuses NoRecord
unfolding all_run
only_7 = (λ runs. refl, tt)

pub not_others : (r : Refusal) → ¬ (r ≡ NoRecord) → ¬ Refuses r
unfolding all_run
not_others r f w = f (w.0 refl)

-- later, and by another task's step
pub not_later : ¬ Only7Refuses (all_run Insert 3 0) (steps 0 ∷ steps 0 ∷ steps 1 ∷ []) (Ok (At 33) ∷ Err NoRecord ∷ Err Idle ∷ [])
unfolding counting all_run
not_later w = let e = ap refusal_number (w.1.1.0 refl) in omega arith

-- a call that was started meanwhile runs; one that has ended does not, and its step is refused with 6; starts may be refused with any number
pub not_after_its_start : ¬ Only7Refuses none_begun (starts 0 Insert 5 ∷ steps 0 ∷ []) (Ok (At 32) ∷ Err Idle ∷ [])
unfolding counting
not_after_its_start w = let e = ap refusal_number (w.1.0 refl) in omega arith

pub after_its_end : Only7Refuses (all_run Insert 3 0) (steps 0 ∷ steps 0 ∷ starts 8 Insert 5 ∷ []) (ended Yes 4 ∷ Err Idle ∷ Err NoTask ∷ [])
unfolding counting all_run
after_its_end = (tt, (λ runs. absurd (let z : ◌≡◌ {A = ℕ} 0 1 = cc in omega arith), (tt, tt)))

-- ---- by turns: 292 × T of them

pub turns_counted : turn_count (turns ∷ enters (steps 0) ∷ turns ∷ turns ∷ enters (starts 0 Grow 0) ∷ []) ≡ 3
unfolding turn_count
turns_counted = refl

-- a reading, what the promise says of one task and of eight
abbrev pub EndsBy : ℕ → ℕ → List ℕ → List ℕ → Type 0
EndsBy t n ns bs = (before after : List Move)
    → let r = moves (run_of (config_of t) ns bs before).machine after in
    NobodyStarts (stands_for after r.says) (outputs r.says) → n ≤ turn_count after → (p : ℕ) → (task_of r.machine p).running ≡ false

pub ends_by : (ns bs : List ℕ) → (EndsByTurns (config_of 1) ns bs → EndsBy 1 292 ns bs) × (EndsByTurns (config_of 8) ns bs → EndsBy 8 2336 ns bs)
ends_by ns bs = (λ e before after. e before after, λ e before after. e before after)
