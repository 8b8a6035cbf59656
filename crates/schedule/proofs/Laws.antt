-- What is left to run of a schedule, and a turn of the loop that runs it: an event, and its output's words written.
-- Assumes nothing.
use Prim.Native.Nat.{ℕ, suc, ◌+◌, ◌*◌, ◌-◌, ◌≤◌, ◌<◌}
use mathlib.Core.Path.{◌≡◌, refl, sym, ap, ◌∙◌, subst}
use mathlib.Core.List.{List, [], ◌∷◌}
use mathlib.Core.Bool.{true, not, ◌||◌}
use native.Mathlib.Omega.{arith}
use borrow.Author.Tests.{eq-eqb, ne_eqb, ltb-false}
use lib.Dec.{eqb, leb, ltb}
use lib.ListN.{length, drop}
use Rattle.std.specs.Prelude.{Err}
use Rattle.laws.specs.RefusalNumbers.{never_0, numbered_back}
use Rattle.spec.specs.declared.Refusal.{Refusal}
use Rattle.spec.specs.Outputs.{Listing}
use Rattle.spec.specs.declared.Config.{Config}
use Rattle.spec.specs.Lists.{concat_map}
use Rattle.spec.specs.Numbers.{output_words, refusal_number, refusal_numbered}
use Rattle.spec.specs.Machine.{Machine}
use Rattle.spec.specs.Words.{overwrite}
use Rattle.spec.specs.Sound.{sound}
use Rattle.spec.specs.Listed.{listed}
use Rattle.spec.specs.Entries.{opening, Reply, Written, list}
use Rattle.laws.specs.Tests.{choose, or_none}
use Rattle.laws.proofs.EntriesKeep.{event_keeps}
use Rattle.spec.specs.Schedule.{Event, event, run, run_opened, schedule}
use Rattle.schedule_events.specs.Events.{events_of, listing_number}
use Rattle.schedule_events.specs.EventLaws.{events_length, event_at, events_on, events_end}
use Rattle.schedule_words.proofs.Laws.{output_length, over_none, over_then}
use Rattle.schedule.specs.Encoding.{room_for, decoded, list_opened, run_words}

-- ---- what is left: the machine and the outputs of a run are those of the events es from the machine y on, whose words go to
-- word i and after

pub record Rest (y₀ : Machine) (w₀ : List ℕ) (es₀ : List Event) (y : Machine) (w : List ℕ) (i : ℕ) (es : List Event) : Type 0 where
  pub machine : (run y₀ es₀).machine ≡ (run y es).machine
  pub words : overwrite w₀ 0 (concat_map output_words (run y₀ es₀).outs) ≡ overwrite w i (concat_map output_words (run y es).outs)

pub rest_all : (y : Machine) (w : List ℕ) (es : List Event) → Rest y w es y w 0 es
rest_all y w es = record { machine = refl; words = refl }

module _ {y₀ : Machine} {w₀ : List ℕ} {es₀ : List Event} {y : Machine} {w : List ℕ} {i : ℕ} where
  pub rest_none : Rest y₀ w₀ es₀ y w i [] → (y ≡ (run y₀ es₀).machine) × (w ≡ overwrite w₀ 0 (concat_map output_words (run y₀ es₀).outs))
  unfolding run concat_map
  rest_none l = (sym l.machine, sym (l.words ∙ over_none w i))

  pub rest_on : (e : Event) (es : List Event) → Rest y₀ w₀ es₀ y w i (e ∷ es) → i + 4 ≤ length w
      → Rest y₀ w₀ es₀ (event y e).machine (overwrite w i (output_words (event y e).out)) (i + 4) es
  unfolding run concat_map
  rest_on e es l h =
      let o = (event y e).out in
      let t = output_length o in
      let q : i + length (output_words o) ≡ i + 4 = omega arith in
      record {
        machine = l.machine;
        words = l.words ∙ over_then w i (output_words o) (concat_map output_words (run (event y e).machine es).outs) (omega arith)
            ∙ ap (λ (j : ℕ). overwrite (overwrite w i (output_words o)) j (concat_map output_words (run (event y e).machine es).outs)) q;
      }

-- ---- an event keeps memory sound

pub stays_sound : (y : Machine) (v : Event) → sound y ≡ true → (r : Reply) → r ≡ event y v → sound r.machine ≡ true
stays_sound y v s r e = rw e (event_keeps y v s)

-- ---- event i of n

module _ (ws : List ℕ) (n i : ℕ) where
  pub rest_start : (y : Machine) (w : List ℕ) → Rest y w (events_of n ws) y w (4 * 0) (events_of (n - 0) (drop (4 * 0) ws))
  rest_start y w = let z : n - 0 ≡ n = omega arith in rw z (rest_all y w (events_of n ws))

  -- a turn of the loop
  pub turn : {y₀ : Machine} {w₀ : List ℕ} {es₀ : List Event} {y : Machine} {w : List ℕ} → i < n → 4 * i + 4 ≤ length w
      → Rest y₀ w₀ es₀ y w (4 * i) (events_of (n - i) (drop (4 * i) ws))
      → (r : Reply) → r ≡ event y (event_at ws i) → (v : List ℕ) → v ≡ overwrite w (4 * i) (output_words r.out)
      → Rest y₀ w₀ es₀ r.machine v (4 * (i + 1)) (events_of (n - (i + 1)) (drop (4 * (i + 1)) ws))
  turn {y₀} {w₀} {es₀} {y} {w} h f l r e v g =
      let later = events_of (n - (i + 1)) (drop (4 * (i + 1)) ws) in
      let q : 4 * i + 4 ≡ 4 * (i + 1) = omega arith in
      let written = overwrite w (4 * i) (output_words (event y (event_at ws i)).out) in
      let next = rest_on (event_at ws i) later (rw (events_on ws n i h) at l) f in
      rw (g, e) (subst (λ (j : ℕ). Rest y₀ w₀ es₀ (event y (event_at ws i)).machine written j later) q next)

  -- after the last
  pub finished : {y₀ : Machine} {w₀ : List ℕ} {es₀ : List Event} {y : Machine} {w : List ℕ} → n ≤ i
      → Rest y₀ w₀ es₀ y w (4 * i) (events_of (n - i) (drop (4 * i) ws))
      → (y ≡ (run y₀ es₀).machine) × (w ≡ overwrite w₀ 0 (concat_map output_words (run y₀ es₀).outs))
  finished h l = rest_none (rw (events_end n i h (drop (4 * i) ws)) at l)

-- ---- as many outputs as events

outs_length : (y : Machine) (es : List Event) → length (run y es).outs ≡ length es
unfolding run
outs_length y [] = refl
outs_length y (e ∷ es) = ap suc (outs_length (event y e).machine es)

-- ---- the whole

module _ (g : Config) (ns bs ws os ts : List ℕ) (refusal : ℕ) (r : refusal ≡ (opening g ns bs).refusal) (y₀ : Machine)
    (o : y₀ ≡ (opening g ns bs).machine) where
  pub not_run : (why : Refusal) → refusal ≡ refusal_number why
      → record { refusal = refusal; ran = 0; machine = y₀; outs = os; listing = Err why; tags = ts } ≡ run_words g ns bs ws os ts
  unfolding run_words schedule run_opened list_opened concat_map
  not_run why e =
      let d : ¬ (refusal ≡ 0) = λ z. never_0 why (sym e ∙ z) in
      let same : refusal_numbered refusal ≡ why = ap refusal_numbered e ∙ numbered_back why in
      rw (← r, ← o, ne_eqb refusal 0 d, over_none os 0, same)

  module _ (z : refusal ≡ 0) (n : ℕ) (m : n ≡ room_for ws os) (y : Machine) (e : y ≡ (run y₀ (events_of n ws)).machine)
      (os' : List ℕ) (f : os' ≡ overwrite os 0 (concat_map output_words (run y₀ (events_of n ws)).outs))
      (l : Listing) (says≡ : l ≡ (list y ts).says) (ts' : List ℕ) (words≡ : ts' ≡ (list y ts).words) where
    pub all_run : record { refusal = 0; ran = n; machine = y; outs = os'; listing = l; tags = ts' } ≡ run_words g ns bs ws os ts
    unfolding run_words schedule run_opened list_opened decoded
    all_run =
        let q : length (run y₀ (events_of n ws)).outs ≡ n = outs_length y₀ (events_of n ws) ∙ events_length n ws in
        rw (← r, ← o, eq-eqb refusal 0 z, ← m, ← e, ← f, q, ← says≡, ← words≡)
        (ap (λ (x : ℕ). record { refusal = x; ran = n; machine = y; outs = os'; listing = l; tags = ts' }) (sym z))
