-- Examples for the types of request U10 (Linearizable of coop_spec): for each of its parts what breaks just that one, beside what it allows.
-- Longer schedules and their order are in Told. Assumes nothing.
use Rattle.std.specs.Prelude.{ℕ, ◌≡◌, refl, ◌⊎◌, List, [], ◌∷◌, ◌++◌, true, false, replicate}
use Rattle.std.proofs.Common.{sym, ap, subst, ◌∙◌, inl, inr, arith}
use Rattle.coop_spec.specs.declared.Call.TheVariants.{HasMember}
use Rattle.coop_spec.specs.Schedule.{Event}
use Rattle.coop_spec.specs.Atomic.{has_member, boolean, empty_bucket}
use Rattle.coop_spec.specs.History.{History, Occurrence, Ended, operations, history}
use Rattle.coop_spec.specs.Linearizable.{In, here, there, Timely, EachOnce, Answers, HasEnded, StillRuns, Linearizable}
use Rattle.coop_spec.specs.Everything.{everything}
use Rattle.coop_spec.specs.Rows.{stepping, calling}
use Rattle.coop_spec.specs.ToldRows.{ended_call, called}

pub not_both : true ≡ false → ⊥
not_both e = let z : ◌≡◌ {A = ℕ} 0 1 = cc in omega arith

-- ---- the claim of one schedule: task 0's member test of 5 has ended, tasks 1 and 2 still test for 6

unfoldable pub events : List Event
events = calling 0 HasMember 0 5 2 ++ calling 1 HasMember 0 6 1 ++ calling 2 HasMember 0 6 0

unfoldable pub short : History
short = history 3 (replicate 66 7) events

abbrev pub Ordered : Type 0
Ordered = Linearizable 3 (replicate 66 7) events

abbrev pub ended_5 : Occurrence
ended_5 = called 0 0 (has_member 5) (boolean false)

pub one_ended : short.ended ≡ ended_call 0 0 (has_member 5) (boolean false) 2 ∷ []
unfolding everything stepping calling events short
one_ended = refl

-- the only ended call is that one
pub in_one : {A : Type 0} {d e : A} → In d (e ∷ []) → d ≡ e
in_one here = refl
in_one (there x) = elim x [ ]

in_two : {A : Type 0} {d e f : A} → In d (e ∷ f ∷ []) → (e ≡ d) ⊎ (f ≡ d)
in_two here = inl refl
in_two (there here) = inr refl
in_two (there (there x)) = elim x [ ]

in_none : {A : Type 0} {d : A} → In d [] → ⊥
in_none = elim [ ]

only_ended : (d : Ended) → In d (history 3 (replicate 66 7) events).ended → d.occurrence ≡ ended_5
unfolding short
only_ended d i = ap (λ (x : Ended). x.occurrence) (in_one (subst (In d) one_ended i))

-- an order may take in one that still runs, task 1's, and leave out another, task 2's
pub ordered : Ordered
unfolding everything stepping calling events short
ordered =
    record {
      order = ended_5 ∷ called 1 3 (has_member 6) (boolean false) ∷ [];
      answers = (refl, (refl, tt));
      timely = ((λ d i same. absurd (first_only d i same), tt), (tt, tt));
      once = ((λ same. (let e = same.0 in omega arith), tt), (tt, tt));
      ended = λ d i. subst (λ o. In o (ended_5 ∷ called 1 3 (has_member 6) (boolean false) ∷ [])) (sym (only_ended d i)) here;
      others = each;
    }
  where
    first_only : (d : Ended) → In d (history 3 (replicate 66 7) events).ended → (d.occurrence.task ≡ 1) × (d.occurrence.start ≡ 3) → ⊥
    first_only d i same = let e = ap (λ (o : Occurrence). o.task) (only_ended d i) in let f = same.0 in omega arith

    Fits : Occurrence → Type 0
    Fits e = HasEnded (history 3 (replicate 66 7) events) e ⊎ StillRuns (history 3 (replicate 66 7) events) e

    each : (e : Occurrence) → In e (ended_5 ∷ called 1 3 (has_member 6) (boolean false) ∷ []) → Fits e
    each e i = go (in_two i)
      where
        go : (ended_5 ≡ e) ⊎ (called 1 3 (has_member 6) (boolean false) ≡ e) → Fits e
        go (inl q) = subst Fits q (inl (ended_call 0 0 (has_member 5) (boolean false) 2, here, refl))
        go (inr q) = subst Fits q (inr (refl, refl, refl))

-- it has no call but these, and of these the ended one with its answer
abbrev pub Refused : List Occurrence → Type 0
Refused L = (l : Ordered) → ¬ (l.order ≡ L)

-- the ended call is left out, of nothing and beside one that still runs
out_of_none : {e : Occurrence} (L : List Occurrence) → In e L → L ≡ [] → ⊥
out_of_none [] i q = in_none i
out_of_none (a ∷ L) i q = let z : ◌≡◌ {A = ℕ} 0 1 = cc in omega arith

pub left_out : Refused [] × Refused (called 1 3 (has_member 6) (boolean false) ∷ [])
unfolding everything stepping calling events short
left_out = (λ l q. out_of_none l.order (is_in l) q, λ l q. beside l.order (is_in l) q)
  where
    is_in : (l : Ordered) → In ended_5 l.order
    is_in l = l.ended (ended_call 0 0 (has_member 5) (boolean false) 2) here

    beside : (L : List Occurrence) → In ended_5 L → L ≡ called 1 3 (has_member 6) (boolean false) ∷ [] → ⊥
    beside L i q = let e = ap (λ (o : Occurrence). o.task) (in_one (subst (In ended_5) q i)) in omega arith

-- a call e beside the ended one: it must have ended so, or still run
must : (e : Occurrence) (L : List Occurrence) → (HasEnded short e → ⊥) → (StillRuns short e → ⊥) → Refused (ended_5 ∷ e ∷ L)
unfolding short
must e L f g l q = go (l.others e (subst (In e) (sym q) (there here)))
  where
    go : HasEnded short e ⊎ StillRuns short e → ⊥
    go (inl h) = f h
    go (inr h) = g h

not_ended : (e : Occurrence) → (ended_5 ≡ e → ⊥) → HasEnded short e → ⊥
unfolding short
not_ended e f h = f (sym (only_ended h.0 h.1) ∙ h.2)

-- a call of task 0, which is idle, that nobody made; the ended call with another answer
pub invented : Refused (ended_5 ∷ called 0 9 (has_member 5) (boolean false) ∷ [])
unfolding everything stepping calling events short
invented =
    must (called 0 9 (has_member 5) (boolean false)) [] (not_ended _ (λ q. (let e = ap (λ (o : Occurrence). o.start) q in omega arith)))
    (λ s. not_both (sym s.0))

pub another_answer : Refused (ended_5 ∷ called 0 0 (has_member 5) (boolean true) ∷ [])
unfolding everything stepping calling events short
another_answer =
    must (called 0 0 (has_member 5) (boolean true)) []
    (not_ended _ (λ q. (let e = ap (λ (o : Occurrence). o.result) q in let z : ◌≡◌ {A = ℕ} 0 1 = cc in omega arith))) (λ s. not_both (sym s.0))

-- task 2's running call with task 1's start, and task 1's running call as a test of another tag
pub of_another_task : Refused (ended_5 ∷ called 2 3 (has_member 6) (boolean false) ∷ [])
unfolding everything stepping calling events short
of_another_task =
    must (called 2 3 (has_member 6) (boolean false)) [] (not_ended _ (λ q. (let e = ap (λ (o : Occurrence). o.task) q in omega arith)))
    (λ s. (let e = s.1 in omega arith))

pub another_call : Refused (ended_5 ∷ called 1 3 (has_member 7) (boolean false) ∷ [])
unfolding everything stepping calling events short
another_call =
    must (called 1 3 (has_member 7) (boolean false)) [] (not_ended _ (λ q. (let e = ap (λ (o : Occurrence). o.task) q in omega arith)))
    (λ s. (let z : ◌≡◌ {A = ℕ} 6 7 = cc in omega arith))

-- a reading, what else the claim says of its order: the same answers, real time, each call once
pub orders :
    {t : ℕ} {ws : List ℕ} {es : List Event} (l : Linearizable t ws es)
    → Answers (operations (history t ws es).machine) empty_bucket l.order × Timely (history t ws es).ended l.order × EachOnce l.order
orders l = (l.answers, l.timely, l.once)
