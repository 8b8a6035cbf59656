-- "Who can cause a refusal": for each entry a table of its refusals in the order in which they are tested, each with its condition in
-- plain propositions, and that the entry refuses with a number exactly if the table has it: so with no other number.
-- Soundness of memory is laws' SoundFacts, of a step's own line laws' StepSound, and held is laws' inductive HeldNode and HeldBucket.
-- Assumes nothing.
use Rattle.std.specs.Prelude.{ℕ, ◌*◌, ◌%◌, ◌/◌, ◌≤◌, ◌<◌, refl, ◌↔◌, ◌⊎◌, Bool, false, ◌||◌, List, leb, eqb, if◌then◌else◌, Err}
use Rattle.std.proofs.Math.Path.{◌≡◌, ap}
use Rattle.std.proofs.Common.{sym, ◌∙◌}
use Rattle.std.proofs.Math.Logic.{inl, inr}
use Rattle.std.proofs.Math.Bool.{true, not}
use Rattle.std.proofs.Math.Nat.{div-add-mod, div-eq_of_eq-mul_right, mul-mod_right}
use native.Mathlib.Omega.{arith}
use borrow.Author.Tests.{eqb-true, eq-eqb, leb-true, leb-false, le-leb, lt-leb, ltb-true, ltb-false, lt-ltb, le-ltb, not-true, not-false}
use Rattle.std.proofs.Math.Dec.{ltb}
use Rattle.std.proofs.Math.ListN.{length}
use Rattle.spec.specs.declared.Refusal.{Refusal}
use Rattle.spec.specs.declared.Refusal.TheVariants.{NoTask, Running, Idle, NoRecord, Spoilt, ShortList, Withdrawn}
use Rattle.spec.specs.declared.Task.{Task}
use Rattle.spec.specs.declared.Call.{Call}
use Rattle.spec.specs.Machine.{Machine, task_of}
use Rattle.spec.specs.declared.Config.{Config}
use Rattle.spec.specs.Sound.{within, version_known, sound}
use Rattle.spec.specs.Listed.{listed}
use Rattle.spec.specs.Lines.{effect}
use Rattle.spec.specs.StepRefusals.{unsound_step, all_held}
use Rattle.spec.specs.Entries.{Opened, opening, not_opened, pool_fits, Reply, refuse, withdrawn, start, step_running, step, Written, list}
use Rattle.spec.specs.Outputs.{Output, Listing}
use Rattle.laws.specs.Tests.{tf, bool?, and_left, and_right, and_i, or_none, choose, if_true, if_false}
use Rattle.laws.specs.SoundFacts.{SoundFacts}
use Rattle.laws.specs.Withdrawn.{InsertOfZero, withdrawn_means, means_withdrawn}
use Rattle.laws.specs.Soundness.{sound_facts, facts_sound}
use Rattle.laws.specs.StepRefusals.{StepSound, step_sound_facts, facts_step_sound}
use Rattle.laws.specs.Taking.{AllHeld}
use Rattle.laws.proofs.Taking.{all_held_means, means_all_held}
use Rattle.corollaries.specs.Unchanged.{at_refused, accept_refused}

-- ---- a test that fails, from what its passing means

fails : {P : Type 0} (b : Bool) → (b ≡ true → P) → ¬ P → b ≡ false
fails true f n = absurd (n (f refl))
fails false f n = refl

-- and back
never : {P : Type 0} (b : Bool) → (P → b ≡ true) → b ≡ false → ¬ P
never b f e p = tf (f p) e

-- ---- the opening

-- n is within the bounds
abbrev pub Within : ℕ → ℕ → ℕ → Type 0
Within low high n = (low ≤ n) × (n ≤ high)

-- the slice is so many records of a width, 1 up to most
pub record Records (width most : ℕ) (w : List ℕ) : Type 0 where
  pub number : ℕ
  pub some : 1 ≤ number
  pub few : number ≤ most
  pub words : length w ≡ width * number

within_means : (low high n : ℕ) → within low high n ≡ true → Within low high n
within_means low high n e = (leb-true low n (and_left (leb low n) (leb n high) e), leb-true n high (and_right (leb low n) (leb n high) e))

means_within : (low high n : ℕ) → Within low high n → within low high n ≡ true
means_within low high n p = and_i (leb low n) (leb n high) (le-leb low n p.0) (le-leb n high p.1)

module _ (width most : ℕ) (w : List ℕ) where
  fits_means : pool_fits width most (length w) ≡ true → Records width most w
  unfolding pool_fits
  fits_means e =
      let z = eqb-true (length w % width) 0 (and_left (eqb (length w % width) 0) (within 1 most (length w / width)) e) in
      let p = within_means 1 most (length w / width) (and_right (eqb (length w % width) 0) (within 1 most (length w / width)) e) in
      let d = div-add-mod (length w) width in
      record { number = length w / width; some = p.0; few = p.1; words = omega arith }

  means_fits : 0 < width → Records width most w → pool_fits width most (length w) ≡ true
  unfolding pool_fits
  means_fits h r =
      let q : length w / width ≡ r.number = div-eq_of_eq-mul_right h r.words in
      let m : length w % width ≡ 0 = ap (λ (n : ℕ). n % width) r.words ∙ mul-mod_right width r.number in
      and_i (eqb (length w % width) 0) (within 1 most (length w / width)) (eq-eqb _ _ m) (rw q (means_within 1 most r.number (r.some, r.few)))

-- "The installer, opening with T and two slices, in this order"
pub data OpeningRefused (g : Config) (ns bs : List ℕ) (r : ℕ) : Type 0 where
  -- "1 T outside its bounds"
  is_1 : r ≡ 1 → ¬ Within 1 8 g.tasks → OpeningRefused g ns bs r
  -- "2 node slice not 34 × H words for an H within bounds"
  is_2 : r ≡ 2 → Within 1 8 g.tasks → ¬ Records 34 64 ns → OpeningRefused g ns bs r
  -- "3 bucket slice not 66 × B words for a B within bounds"
  is_3 : r ≡ 3 → Within 1 8 g.tasks → Records 34 64 ns → ¬ Records 66 1024 bs → OpeningRefused g ns bs r
  -- paper 02, U3: "11, opening with another version, after 3"
  is_11 : r ≡ 11 → Within 1 8 g.tasks → Records 34 64 ns → Records 66 1024 bs → ¬ Within 1 2 g.version → OpeningRefused g ns bs r

module _ (g : Config) (ns bs : List ℕ) (r : ℕ) where
  why_opening : ¬ (r ≡ 0) → (opening g ns bs).refusal ≡ r → OpeningRefused g ns bs r
  unfolding opening not_opened
  why_opening d =
      choose Why (not (within 1 8 g.tasks)) _ _ (λ p e. is_1 (sym e) (never (within 1 8 g.tasks) (means_within 1 8 g.tasks) (not-true _ p))) (λ p.
      let t_ok = within_means 1 8 g.tasks (not-false _ p) in
      choose Why (not (pool_fits 34 64 (length ns))) _ _
      (λ q e. is_2 (sym e) t_ok (never (pool_fits 34 64 (length ns)) (means_fits 34 64 ns (omega arith)) (not-true _ q))) (λ q.
      let n-ok = fits_means 34 64 ns (not-false _ q) in
      choose Why (not (pool_fits 66 1024 (length bs))) _ _ (λ s e.
      is_3 (sym e) t_ok n-ok (never (pool_fits 66 1024 (length bs)) (means_fits 66 1024 bs (omega arith)) (not-true _ s))) (λ s.
      let b-ok = fits_means 66 1024 bs (not-false _ s) in
      choose Why (not (version_known g)) _ _ (λ v e.
      is_11 (sym e) t_ok n-ok b-ok (never (version_known g) (means_within 1 2 g.version) (not-true _ v))) (λ v e.
      absurd (d (sym e))))))
    where
      Why : Opened → Type 0
      Why o = o.refusal ≡ r → OpeningRefused g ns bs r

  opening_why : OpeningRefused g ns bs r → (opening g ns bs).refusal ≡ r
  unfolding opening not_opened
  opening_why (is_1 e n) = rw (e, fails (within 1 8 g.tasks) (within_means 1 8 g.tasks) n)
  opening_why (is_2 e p n) = rw (e, means_within 1 8 g.tasks p, fails (pool_fits 34 64 (length ns)) (fits_means 34 64 ns) n)
  opening_why (is_3 e p q n) =
      rw (e, means_within 1 8 g.tasks p, means_fits 34 64 ns (omega arith) q, fails (pool_fits 66 1024 (length bs)) (fits_means 66 1024 bs) n)
  opening_why (is_11 e p q s n) =
      rw (
        e,
        means_within 1 8 g.tasks p,
        means_fits 34 64 ns (omega arith) q,
        means_fits 66 1024 bs (omega arith) s,
        fails (version_known g) (within_means 1 2 g.version) n,
      )

  -- the opening is refused with a number exactly if the table has it
  pub opening_refused : ¬ (r ≡ 0) → (opening g ns bs).refusal ≡ r ↔ OpeningRefused g ns bs r
  opening_refused d = (why_opening d, opening_why)

-- ---- starts and steps

-- two refusals that are the same have one number
same : {m n : Refusal} → ◌≡◌ {A = Output} (Err m) (Err n) → n ≡ m
same e = cc

unsound : {y : Machine} → ¬ SoundFacts y → sound y ≡ false
unsound {y} n = fails (sound y) (sound_facts y) n

spoilt : {y : Machine} → sound y ≡ false → ¬ SoundFacts y
spoilt {y} e = never (sound y) (facts_sound y) e

-- "Start: 8, 4, 5.", and paper 02's 14 after 5
pub data StartRefused (y : Machine) (k : ℕ) (call : Call) (tag : ℕ) (r : Refusal) : Type 0 where
  -- "Spoilt memory"
  is_8 : r ≡ Spoilt → ¬ SoundFacts y → StartRefused y k call tag r
  -- "no such task"
  is_4 : r ≡ NoTask → SoundFacts y → y.state.config.tasks ≤ k → StartRefused y k call tag r
  -- "start while its call runs"
  is_5 : r ≡ Running → SoundFacts y → k < y.state.config.tasks → (task_of y k).running ≡ true → StartRefused y k call tag r
  -- paper 02, U9: "14, starting an insert of tag 0 under the new rule, after 5"
  is_14 : r ≡ Withdrawn → SoundFacts y → k < y.state.config.tasks → (task_of y k).running ≡ false → InsertOfZero y.state.config call tag
      → StartRefused y k call tag r

module _ (y : Machine) (k : ℕ) (r : Refusal) (call : Call) (tag : ℕ) where
  why_start : (start y k call tag).out ≡ Err r → StartRefused y k call tag r
  unfolding start refuse
  why_start =
      choose Why (not (sound y)) _ _ (λ p e. is_8 (same e) (spoilt (not-true _ p))) (λ p.
      let f = sound_facts y (not-false _ p) in
      choose Why (not (ltb k y.state.config.tasks)) _ _ (λ q e. is_4 (same e) f (ltb-false _ _ (not-true _ q))) (λ q.
      let h = ltb-true k y.state.config.tasks (not-false _ q) in
      choose Why (task_of y k).running _ _ (λ s e. is_5 (same e) f h s) (λ s.
      choose Why (withdrawn y.state.config call tag) _ _ (λ w e. is_14 (same e) f h s (withdrawn_means _ call tag w)) (λ w e. absurd (at_refused e)))))
    where
      Why : Reply → Type 0
      Why x = x.out ≡ Err r → StartRefused y k call tag r

  start_why : StartRefused y k call tag r → (start y k call tag).out ≡ Err r
  unfolding start refuse
  start_why (is_8 e n) = rw (e, unsound n)
  start_why (is_4 e f h) = rw (e, facts_sound y f, le-ltb _ _ h)
  start_why (is_5 e f h s) = rw (e, facts_sound y f, lt-ltb _ _ h) (ap (λ (x : Reply). x.out) (if_true (task_of y k).running (refuse Running y) _ s))
  start_why (is_14 e f h s z) =
      rw (e, facts_sound y f, lt-ltb _ _ h)
      (ap (λ (x : Reply). x.out)
      (if_false (task_of y k).running (refuse Running y) _ s ∙ if_true (withdrawn y.state.config call tag) (refuse Withdrawn y) _ (means_withdrawn _ call tag z)))

  -- a start is refused with a number exactly if the table has it
  pub start_refused : (start y k call tag).out ≡ Err r ↔ StartRefused y k call tag r
  start_refused = (why_start, start_why)

-- "Step: 8, 4, 6, 8 of the step, 7."
pub data StepRefused (y : Machine) (k : ℕ) (r : Refusal) : Type 0 where
  -- "Spoilt memory"
  is_8 : r ≡ Spoilt → ¬ SoundFacts y → StepRefused y k r
  -- "no such task"
  is_4 : r ≡ NoTask → SoundFacts y → y.state.config.tasks ≤ k → StepRefused y k r
  -- "step while none runs"
  is_6 : r ≡ Idle → SoundFacts y → k < y.state.config.tasks → (task_of y k).running ≡ false → StepRefused y k r
  -- "In a step, before 7, also if its line goes through an empty place, .."
  is_8_step : r ≡ Spoilt → SoundFacts y → k < y.state.config.tasks → (task_of y k).running ≡ true → ¬ StepSound y (task_of y k) → StepRefused y k r
  -- "line 27 or 49 finds every node or every bucket held"
  is_7 : r ≡ NoRecord → SoundFacts y → k < y.state.config.tasks → (task_of y k).running ≡ true → StepSound y (task_of y k) → AllHeld y (task_of y k)
      → StepRefused y k r

module _ (y : Machine) (k : ℕ) (r : Refusal) where
  abbrev c : Task
  c = task_of y k

  why_step : (step y k).out ≡ Err r → StepRefused y k r
  unfolding step step_running refuse
  why_step =
      choose Why (not (sound y)) _ _ (λ p e. is_8 (same e) (spoilt (not-true _ p))) (λ p.
      let f = sound_facts y (not-false _ p) in
      choose Why (not (ltb k y.state.config.tasks)) _ _ (λ q e. is_4 (same e) f (ltb-false _ _ (not-true _ q))) (λ q.
      let h = ltb-true k y.state.config.tasks (not-false _ q) in
      choose Why (not c.running) _ _ (λ s e. is_6 (same e) f h (not-true _ s)) (λ s.
      let g = not-false c.running s in
      choose Why (unsound_step y c) _ _ (λ u e. is_8_step (same e) f h g (λ b. tf u (facts_step_sound y c b))) (λ u.
      choose Why (all_held y c) _ _ (λ v e. is_7 (same e) f h g (step_sound_facts y c u) (all_held_means y f c v)) (λ v e.
      absurd (accept_refused y k c.own (effect y c) e))))))
    where
      Why : Reply → Type 0
      Why x = x.out ≡ Err r → StepRefused y k r

  running : SoundFacts y → k < y.state.config.tasks → c.running ≡ true → step y k ≡ step_running y k c
  unfolding step
  running f h g = rw (facts_sound y f, lt-ltb _ _ h) (ap (λ (b : Bool). if not b then refuse Idle y else step_running y k c) g)

  step_why : StepRefused y k r → (step y k).out ≡ Err r
  unfolding step step_running refuse
  step_why (is_8 e n) = rw (e, unsound n)
  step_why (is_4 e f h) = rw (e, facts_sound y f, le-ltb _ _ h)
  step_why (is_6 e f h s) = rw (e, facts_sound y f, lt-ltb _ _ h) (ap (λ (b : Bool). (if not b then refuse Idle y else step_running y k c).out) s)
  step_why (is_8_step e f h g n) =
      let u : unsound_step y c ≡ true = elim (bool? (unsound_step y c)) [ inl t ↦ t | inr t ↦ absurd (n (step_sound_facts y c t)) ] in
      rw (e, running f h g, u)
  step_why (is_7 e f h g b v) = rw (e, running f h g, facts_step_sound y c b, means_all_held y f c v)

  -- a step is refused with a number exactly if the table has it
  pub step_refused : (step y k).out ≡ Err r ↔ StepRefused y k r
  step_refused = (why_step, step_why)

-- ---- the list

-- "List: 8, 9"
pub data ListRefused (y : Machine) (w : List ℕ) (r : Refusal) : Type 0 where
  -- "Spoilt memory"
  is_8 : r ≡ Spoilt → ¬ SoundFacts y → ListRefused y w r
  -- "In a list also if more than 64 tags are listed."
  is_8_list : r ≡ Spoilt → SoundFacts y → 64 < length (listed y) → ListRefused y w r
  -- "list slice under 64 words"
  is_9 : r ≡ ShortList → SoundFacts y → length (listed y) ≤ 64 → length w < 64 → ListRefused y w r

module _ (y : Machine) (w : List ℕ) (r : Refusal) where
  abbrev n : ℕ
  n = length (listed y)

  same_list : {m : Refusal} → ◌≡◌ {A = Listing} (Err m) (Err r) → r ≡ m
  same_list e = cc

  why_list : (list y w).says ≡ Err r → ListRefused y w r
  unfolding list
  why_list =
      choose Why (not (sound y) || ltb 64 n) _ _ (λ p e. spoilt_list e (bool? (sound y)) p) (λ p.
      let b = or_none (not (sound y)) (ltb 64 n) p in
      choose Why (not (leb 64 (length w))) _ _ (λ q e. is_9 (same_list e) (sound_facts y (not-false _ b.0)) (ltb-false _ _ b.1)
      (leb-false _ _ (not-true _ q))) (λ q e.
      absurd (let z : ◌≡◌ {A = ℕ} 0 1 = cc in omega arith)))
    where
      Why : Written → Type 0
      Why x = x.says ≡ Err r → ListRefused y w r

      spoilt_list : ◌≡◌ {A = Listing} (Err Spoilt) (Err r) → (sound y ≡ true) ⊎ (sound y ≡ false) → (not (sound y) || ltb 64 n) ≡ true → ListRefused y w r
      spoilt_list e (inl s) p = let q : ltb 64 n ≡ true = rw s at p in is_8_list (same_list e) (sound_facts y s) (ltb-true 64 n q)
      spoilt_list e (inr s) p = is_8 (same_list e) (spoilt s)

  list_why : ListRefused y w r → (list y w).says ≡ Err r
  unfolding list
  list_why (is_8 e s) = rw (e, unsound s)
  list_why (is_8_list e f h) = rw (e, facts_sound y f, lt-ltb _ _ h)
  list_why (is_9 e f h l) = rw (e, facts_sound y f, le-ltb _ _ h, lt-leb _ _ l)

  -- a list is refused with a number exactly if the table has it
  pub list_refused : (list y w).says ≡ Err r ↔ ListRefused y w r
  list_refused = (why_list, list_why)
