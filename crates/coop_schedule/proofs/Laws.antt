-- What is left to run of a schedule, a turn of the loop that runs it, and the whole. Assumes nothing.
use Rattle.std.specs.Prelude.{Ok, Err}
use Prim.Native.Nat.{ℕ, zero, suc, ◌+◌, ◌*◌, ◌-◌, ◌/◌, ◌≤◌, ◌<◌, min}
use mathlib.Core.Path.{◌≡◌, refl, sym, ap, ◌∙◌, subst}
use mathlib.Core.List.{List, [], ◌∷◌}
use mathlib.Core.Bool.{not}
use native.Mathlib.Omega.{arith}
use borrow.Author.Tests.{eq-eqb, ne_eqb}
use lib.ListN.{length, get_or, drop}
use lib.Seq.{get_or-drop, drop-drop}
use Rattle.laws.specs.Tests.{choose}
use Rattle.spec.specs.Lists.{concat_map}
use Rattle.spec.specs.Words.{overwrite}
use Rattle.spec.specs.Sound.{within}
use Rattle.spec.specs.Entries.{pool_fits}
use Rattle.schedule_words.proofs.Laws.{over_none, over_then}
use Rattle.coop_spec.specs.Outputs.{Output}
use Rattle.coop_spec.specs.declared.Progress.TheVariants.{At, End}
use Rattle.coop_spec.specs.Numbers.{output_words}
use Rattle.coop_spec.specs.Machine.{Machine}
use Rattle.coop_spec.specs.Entries.{opening, Reply}
use Rattle.coop_spec.specs.Schedule.{Event, event, run, run_opened, schedule}
use Rattle.coop_laws.specs.Refusals.{opening_refusal}
use Rattle.coop_words.specs.Events.{event_of, events_of}
use Rattle.coop_schedule.specs.Encoding.{decoded, run_words}

output_length : (o : Output) → length (output_words o) ≡ 4
output_length (Ok (At line)) = refl
output_length (Ok (End a own)) = refl
output_length (Err r) = refl

-- ---- what is left: the machine and the outputs of a run are those of the events es from the machine y on, whose words go to
-- word i and after

pub record Rest (y₀ : Machine) (w₀ : List ℕ) (es₀ : List Event) (y : Machine) (w : List ℕ) (i : ℕ) (es : List Event) : Type 0 where
  pub machine : (run y₀ es₀).machine ≡ (run y es).machine
  pub words : overwrite w₀ 0 (concat_map output_words (run y₀ es₀).outs) ≡ overwrite w i (concat_map output_words (run y es).outs)

module _ {y₀ : Machine} {w₀ : List ℕ} {es₀ : List Event} {y : Machine} {w : List ℕ} {i : ℕ} where
  rest_none : Rest y₀ w₀ es₀ y w i [] → (y ≡ (run y₀ es₀).machine) × (w ≡ overwrite w₀ 0 (concat_map output_words (run y₀ es₀).outs))
  unfolding run concat_map
  rest_none l = (sym l.machine, sym (l.words ∙ over_none w i))

  rest_on : (e : Event) (es : List Event) → Rest y₀ w₀ es₀ y w i (e ∷ es) → i + 4 ≤ length w
      → Rest y₀ w₀ es₀ (event y e).machine (overwrite w i (output_words (event y e).out)) (i + 4) es
  unfolding run concat_map
  rest_on e es l h =
      let o = (event y e).out in
      let t = output_length o in
      let q : i + length (output_words o) ≡ i + 4 = omega arith in
      let later = concat_map output_words (run (event y e).machine es).outs in
      record {
        machine = l.machine;
        words = l.words ∙ over_then w i (output_words o) later (omega arith)
            ∙ ap (λ (j : ℕ). overwrite (overwrite w i (output_words o)) j later) q;
      }

-- ---- event i of n

module _ (ws : List ℕ) (n i : ℕ) where
  abbrev pub event_at : Event
  event_at = event_of (get_or ws (4 * i) 0) (get_or ws (4 * i + 1) 0) (get_or ws (4 * i + 2) 0) (get_or ws (4 * i + 3) 0)

  events_on : i < n → events_of (n - i) (drop (4 * i) ws) ≡ event_at ∷ events_of (n - (i + 1)) (drop (4 * (i + 1)) ws)
  unfolding events_of
  events_on h =
      let less : n - i ≡ suc (n - (i + 1)) = omega arith in
      let z : 4 * i + 0 ≡ 4 * i = omega arith in
      let q : 4 * i + 4 ≡ 4 * (i + 1) = omega arith in
      let word : (j : ℕ) → get_or (drop (4 * i) ws) j 0 ≡ get_or ws (4 * i + j) 0 = λ j. get_or-drop (4 * i) ws j 0 in
      rw (less, word 0, z, word 1, word 2, word 3, drop-drop 4 (4 * i) ws, q)

  pub rest_start : (y : Machine) (w : List ℕ) → Rest y w (events_of n ws) y w (4 * 0) (events_of (n - 0) (drop (4 * 0) ws))
  rest_start y w = let z : n - 0 ≡ n = omega arith in rw z (record { machine = refl; words = refl })

  events_end : n ≤ i → (v : List ℕ) → events_of (n - i) v ≡ []
  unfolding events_of
  events_end h v = let z : n - i ≡ 0 = omega arith in rw z

  -- a turn of the loop
  pub turn : {y₀ : Machine} {w₀ : List ℕ} {es₀ : List Event} {y : Machine} {w : List ℕ} → i < n → 4 * i + 4 ≤ length w
      → Rest y₀ w₀ es₀ y w (4 * i) (events_of (n - i) (drop (4 * i) ws))
      → (r : Reply) → r ≡ event y event_at → (v : List ℕ) → v ≡ overwrite w (4 * i) (output_words r.out)
      → Rest y₀ w₀ es₀ r.machine v (4 * (i + 1)) (events_of (n - (i + 1)) (drop (4 * (i + 1)) ws))
  turn {y₀} {w₀} {es₀} {y} {w} h f l r e v g =
      let later = events_of (n - (i + 1)) (drop (4 * (i + 1)) ws) in
      let q : 4 * i + 4 ≡ 4 * (i + 1) = omega arith in
      let written = overwrite w (4 * i) (output_words (event y event_at).out) in
      let next = rest_on event_at later (rw (events_on h) at l) f in
      rw (g, e) (subst (λ (j : ℕ). Rest y₀ w₀ es₀ (event y event_at).machine written j later) q next)

  -- after the last
  pub finished : {y₀ : Machine} {w₀ : List ℕ} {es₀ : List Event} {y : Machine} {w : List ℕ} → n ≤ i
      → Rest y₀ w₀ es₀ y w (4 * i) (events_of (n - i) (drop (4 * i) ws))
      → (y ≡ (run y₀ es₀).machine) × (w ≡ overwrite w₀ 0 (concat_map output_words (run y₀ es₀).outs))
  finished h l = rest_none (rw (events_end h (drop (4 * i) ws)) at l)

-- ---- as many outputs as events

outs_length : (y : Machine) (es : List Event) → length (run y es).outs ≡ length es
unfolding run
outs_length y [] = refl
outs_length y (e ∷ es) = ap suc (outs_length (event y e).machine es)

events_length : (n : ℕ) (w : List ℕ) → length (events_of n w) ≡ n
unfolding events_of
events_length zero w = refl
events_length (suc n) w = ap suc (events_length n (drop 4 w))

-- ---- the whole

module _ (t : ℕ) (vs ws os : List ℕ) (refusal : ℕ) (r : refusal ≡ (opening t vs).refusal) (y₀ : Machine) (o : y₀ ≡ (opening t vs).machine) where
  pub not_run : (refusal ≡ 0 → ⊥) → record { refusal = refusal; ran = 0; machine = y₀; outs = os } ≡ run_words t vs ws os
  unfolding run_words schedule run_opened concat_map
  not_run d = rw (← r, ← o, ne_eqb refusal 0 d, over_none os 0)

  pub all_run : refusal ≡ 0 → (n : ℕ) → n ≡ min (length ws / 4) (length os / 4) → (y : Machine) → y ≡ (run y₀ (events_of n ws)).machine
      → (os' : List ℕ) → os' ≡ overwrite os 0 (concat_map output_words (run y₀ (events_of n ws)).outs)
      → record { refusal = 0; ran = n; machine = y; outs = os' } ≡ run_words t vs ws os
  unfolding run_words schedule run_opened decoded
  all_run z n m y e os' f =
      let q : length (run y₀ (events_of n ws)).outs ≡ n = outs_length y₀ (events_of n ws) ∙ events_length n ws in
      rw (← r, ← o, eq-eqb refusal 0 z, ← m, ← e, ← f, q)
      (ap (λ (x : ℕ). record { refusal = x; ran = n; machine = y; outs = os' }) (sym z))

-- an opening's refusal is 0, 1 or 3
pub refusal_small : (t : ℕ) (vs ws os : List ℕ) → (run_words t vs ws os).refusal ≤ 3
unfolding run_words
refusal_small t vs ws os =
    rw (opening_refusal t vs)
    (choose (λ (r : ℕ). r ≤ 3) (not (within 1 8 t)) _ _ (λ p. omega arith)
    (λ p. choose (λ (r : ℕ). r ≤ 3) (not (pool_fits 66 1024 (length vs))) _ _ (λ q. omega arith) (λ q. omega arith)))
