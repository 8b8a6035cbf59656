-- "A get response is started only after an invoke of that operation has ended true": the bit that a start of a get response asks for is set exactly if
-- the history has an ended invoke of the operation that was answered true, in every schedule from an accepted opening on: `returned_iff`;
-- so its 5 speaks of the run: `early_response_5`. Assumes nothing.
use Rattle.std.specs.Prelude.{◌<◌, ℕ, Bool, false, true, List, [], ◌∷◌, ◌⊎◌, ◌↔◌, ◌≡◌, refl, length, Err}
use Rattle.std.proofs.Common.{inl, inr, ◌∙◌, ap, subst, sym, arith}
use Rattle.std.proofs.Math.Decide.{dec_lt}
use Rattle.std.proofs.Math.ListN.{get_or-eq_default}
use Rattle.laws.specs.Tests.{At, hit, miss, tf}
use Rattle.coop_spec.specs.Atomic.{AtomicCall, Operations, Result, boolean, changed, invoke}
use Rattle.coop_spec.specs.Entries.{opening, start}
use Rattle.coop_spec.specs.History.{Ended, history}
use Rattle.coop_spec.specs.Linearizable.{In, here, there}
use Rattle.coop_spec.specs.Machine.{Machine, never_invoked, operation_of, task_of}
use Rattle.coop_spec.specs.Schedule.{Event, schedule}
use Rattle.coop_spec.specs.declared.Call.TheVariants.{GetResponse}
use Rattle.coop_spec.specs.declared.Operation.{Operation}
use Rattle.coop_spec.specs.declared.Progress.TheVariants as Outs
use Rattle.coop_laws.specs.Refusals.{StartRefused, is_4, is_5_barred, is_5_running, is_8, start_refused_iff}
use Rattle.coop_model.specs.Functions.{changed_at}
use Rattle.coop_model.specs.Heap.{Heap}
use Rattle.coop_model.specs.Lines.{End, Line, e107_no, e107_yes, e113_op, e113_set, e117, e127, e130, e140, e140_lost, l100_nil, l100_op, l101_done}
use Rattle.coop_model.specs.Lines.{l101_on, l102_lost, l109, l112, l120_frozen, l120_on, l121, l122_nil, l122_op, l123_lost, l127, l129, l130_106}
use Rattle.coop_model.specs.Lines.{l130_126, l130_op, l138, l139, l140_106, l140_106_lost, l140_126, l140_126_lost, l95_done, l95_frozen, l95_on}
use Rattle.coop_model.specs.Lines.{l96_down, l96_up, l99}
use Rattle.coop_model.specs.Positions.{Position}
use Rattle.coop_model.specs.Runs.{Configuration, Reachable, Transition, begin, claim, end_call, further, move, opened, refused, seal}
use Rattle.coop_linear.specs.Schedules.{same_machine, schedule_simulated}
use Rattle.coop_linear.specs.Theorems.{sound_after}
use Rattle.coop_spec.specs.declared.Refusal.TheVariants.{NotStarted}
use Rattle.coop_spec.specs.Numbers.{refusal_number}

-- an invoke of operation n has ended, answered true
pub record EndedTrue (H : List Ended) (n : ℕ) : Type 0 where
  pub call : Ended
  pub told : In call H
  pub invokes : call.occurrence.call ≡ invoke n
  pub answered : call.occurrence.result ≡ boolean true

-- ---- lines of the model

-- one that ends no call marks no operation
line_marks : {T : Operations} {h g : Heap} {l l' : Position} → Line T h l g l' → g.returned ≡ h.returned
line_marks (l95_on x d) = refl
line_marks (l95_done d) = refl
line_marks (l95_frozen e) = refl
line_marks (l96_up f) = refl
line_marks (l96_down f) = refl
line_marks l99 = refl
line_marks (l100_nil e) = refl
line_marks (l100_op e) = refl
line_marks (l101_on d) = refl
line_marks (l101_done d) = refl
line_marks (l102_lost e) = refl
line_marks l109 = refl
line_marks l112 = refl
line_marks (l120_frozen e) = refl
line_marks (l120_on e) = refl
line_marks l121 = refl
line_marks (l122_nil e) = refl
line_marks (l122_op e) = refl
line_marks (l123_lost e) = refl
line_marks l127 = refl
line_marks l129 = refl
line_marks (l130_op e) = refl
line_marks (l130_106 x) = refl
line_marks (l130_126 x) = refl
line_marks l138 = refl
line_marks l139 = refl
line_marks (l140_106 q) = refl
line_marks (l140_126 q) = refl
line_marks (l140_106_lost q) = refl
line_marks (l140_126_lost q) = refl

-- one that ends a call marks its operation exactly if the call is an invoke and answers true
abbrev Marks : Bool → Bool → AtomicCall → Result → ℕ → Type 0
Marks before after c a n = (after ≡ true) ↔ ((before ≡ true) ⊎ ((c ≡ invoke n) × (a ≡ boolean true)))

same_number : {k n : ℕ} → invoke k ≡ invoke n → k ≡ n
same_number e = cc

marked : (f : ℕ → Bool) (k n : ℕ) → Marks (f n) (changed f k true n) (invoke k) (boolean true) n
marked f k n = (to (changed_at f k true n), from (changed_at f k true n))
  where
    to : At (n ≡ k) true (f n) (changed f k true n) → changed f k true n ≡ true → (f n ≡ true) ⊎ ((invoke k ≡ invoke n) × (boolean true ≡ boolean true))
    to (hit e u) h = inr (ap invoke (sym e), refl)
    to (miss d u) h = inl (sym u ∙ h)

    from : At (n ≡ k) true (f n) (changed f k true n) → (f n ≡ true) ⊎ ((invoke k ≡ invoke n) × (boolean true ≡ boolean true)) → changed f k true n ≡ true
    from (hit e u) x = u
    from (miss d u) (inl h) = u ∙ h
    from (miss d u) (inr q) = absurd (d (sym (same_number q.0)))

unmarked : (b : Bool) (c : AtomicCall) (a : Result) (n : ℕ) → (c ≡ invoke n → a ≡ boolean true → ⊥) → Marks b b c a n
unmarked b c a n d = (λ h. inl h, from)
  where
    from : (b ≡ true) ⊎ ((c ≡ invoke n) × (a ≡ boolean true)) → b ≡ true
    from (inl h) = h
    from (inr q) = absurd (d q.0 q.1)

end_marks : {T : Operations} {h g : Heap} {l : Position} {c : AtomicCall} {a : Result} → End T h l g c a → (n : ℕ) → Marks (h.returned n) (g.returned n) c a n
end_marks {h = h} (e107_yes {n = k} d) n = marked h.returned k n
end_marks (e107_no d) n = unmarked _ _ _ n (λ e q. let z : ◌≡◌ {A = ℕ} 0 1 = cc in omega arith)
end_marks (e113_op e q) n = unmarked _ _ _ n (λ e q. let z : ◌≡◌ {A = ℕ} 0 1 = cc in omega arith)
end_marks (e113_set x) n = unmarked _ _ _ n (λ e q. let z : ◌≡◌ {A = ℕ} 0 1 = cc in omega arith)
end_marks e117 n = unmarked _ _ _ n (λ e q. let z : ◌≡◌ {A = ℕ} 0 1 = cc in omega arith)
end_marks e127 n = unmarked _ _ _ n (λ e q. let z : ◌≡◌ {A = ℕ} 0 1 = cc in omega arith)
end_marks {h = h} (e130 {n = k} x) n = marked h.returned k n
end_marks {h = h} (e140 {n = k} q) n = marked h.returned k n
end_marks {h = h} (e140_lost {n = k} q) n = marked h.returned k n

-- ---- runs of the model

abbrev Told : Configuration → Type 0
Told w = (n : ℕ) → (w.heap.returned n ≡ true) ↔ EndedTrue w.ended n

none_told : (n : ℕ) → ¬ EndedTrue [] n
none_told n x = nowhere x.told
  where
    nowhere : {d : Ended} → In d [] → ⊥
    nowhere = elim [ ]

step_told : {T : Operations} {v w : Configuration} → Told v → Transition T v w → Told w
step_told t refused n = t n
step_told t (begin p l f e) n = t n
step_told t (move p e x) n = (
  λ h. (t n).0 (sym (ap (λ (f : ℕ → Bool). f n) (line_marks x)) ∙ h),
  λ h. ap (λ (f : ℕ → Bool). f n) (line_marks x) ∙ (t n).1 h,
)
step_told t (claim p k o e x) n = t n
step_told t (seal p o j e x) n = t n
step_told {v = v} t (end_call p {g = g} {c = c} {a = a} e x) n = (λ h. to ((end_marks x n).0 h), from)
  where
    new : Ended
    new = record { occurrence = record { task = p; start = v.start p; call = c; result = a }; end = v.clock }

    to : (v.heap.returned n ≡ true) ⊎ ((c ≡ invoke n) × (a ≡ boolean true)) → EndedTrue (new ∷ v.ended) n
    to (inl h) = let d = (t n).0 h in record { call = d.call; told = there d.told; invokes = d.invokes; answered = d.answered }
    to (inr q) = record { call = new; told = here; invokes = q.0; answered = q.1 }

    from : EndedTrue (new ∷ v.ended) n → g.returned n ≡ true
    from d = (end_marks x n).1 (at d.told d.invokes d.answered)
      where
        at : {k : Ended} → In k (new ∷ v.ended) → k.occurrence.call ≡ invoke n → k.occurrence.result ≡ boolean true
            → (v.heap.returned n ≡ true) ⊎ ((c ≡ invoke n) × (a ≡ boolean true))
        at here q r = inr (q, r)
        at (there i) q r = inl ((t n).1 (record { call = _; told = i; invokes = q; answered = r }))

told_always : {T : Operations} {w : Configuration} → Reachable T w → Told w
told_always opened n = (λ h. absurd (tf h refl), λ x. absurd (none_told n x))
told_always (further r t) n = step_told (λ m. told_always r m) t n

-- ---- schedules

pub returned_iff : (t : ℕ) (ws : List ℕ) → (opening t ws).refusal ≡ 0 → (es : List Event) (n : ℕ)
    → ((operation_of (schedule t ws es).machine n).returned ≡ true) ↔ EndedTrue (history t ws es).ended n
returned_iff t ws ok es n =
    let b = (schedule_simulated t ws ok es).0.1 in
    let told = told_always b.reach n in
    let bit : (operation_of (schedule t ws es).machine n).returned ≡ b.configuration.heap.returned n =
    ap (λ (y : Machine). (operation_of y n).returned) (sym (same_machine t ws ok es)) ∙ b.sim.rep.same_returned n in (
      λ h. subst (λ (H : List Ended). EndedTrue H n) (sym b.ended) (told.0 (sym bit ∙ h)),
      λ x. bit ∙ told.1 (subst (λ (H : List Ended). EndedTrue H n) b.ended x),
    )

-- "and otherwise gives 5": of an idle task, the start of a get response gives 5 exactly if no invoke of its operation has ended true
pub early_response_5 : (t : ℕ) (ws : List ℕ) → (opening t ws).refusal ≡ 0 → (es : List Event) (p n k : ℕ)
    → (let y = (schedule t ws es).machine in
    p < y.state.tasks → (task_of y p).running ≡ false → ((start y p GetResponse n k).out ≡ Err NotStarted) ↔ (¬ EndedTrue (history t ws es).ended n))
unfolding operation_of never_invoked
early_response_5 t ws ok es p n k below idle≡ = (
  λ e. to ((start_refused_iff y p GetResponse n k NotStarted).0 e),
  λ none. (start_refused_iff y p GetResponse n k NotStarted).1
      (is_5_barred refl (sound_after t ws ok es) below idle≡ (λ a. none ((returned_iff t ws ok es n).0 a.1))),
)
  where
    y : Machine
    y = (schedule t ws es).machine

    -- no number past 63 has an operation
    low : (operation_of y n).returned ≡ true → Dec (n < 64) → n < 64
    low r (yes b) = b
    low r (no b) =
        let few =
        ap (λ (z : Machine). length z.state.operation) (sym (same_machine t ws ok es)) ∙ (schedule_simulated t ws ok es).0.1.sim.rep.operations_64 in
        absurd (tf r (ap (λ (o : Operation). o.returned) (get_or-eq_default y.state.operation never_invoked (omega arith))))

    to : StartRefused y p GetResponse n k NotStarted → ¬ EndedTrue (history t ws es).ended n
    to (is_8 e s) = absurd (omega (arith, ap refusal_number e))
    to (is_4 e s b) = absurd (omega (arith, ap refusal_number e))
    to (is_5_running e s b r) = absurd (tf r idle≡)
    to (is_5_barred e s b r a) = λ x. let m = (returned_iff t ws ok es n).1 x in a (low m (dec_lt n 64), m)
