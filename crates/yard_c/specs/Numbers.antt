-- Each number that a function for C gives, exactly under its condition, over the caller's words: papers 01 and 02 name the refusals' conditions, and the
-- functions for C add one to 8, that words are no state's or a slice has another length. A function gives no number that its list has not.
-- The entries' own conditions are those of corollaries (Refusals, Turns). Assumes nothing.
use Prim.Native.Nat.{ℕ, suc, ◌+◌, ◌/◌, ◌≤◌, ◌<◌, min}
use Rattle.std.proofs.Math.Path.{◌≡◌, refl}
use Rattle.std.proofs.Common.{ap, inl, inr}
use Rattle.std.specs.Prelude.{◌↔◌, ◌⊎◌, Bool, false, not, ◌&&◌, ◌||◌, leb, if◌then◌else◌, Ok, Err}
use Rattle.std.proofs.Math.Bool.{true}
use mathlib.Core.List.{List, [], ◌∷◌}
use native.Mathlib.Omega.{arith}
use borrow.Author.Tests.{eqb-true, eqb-false, eq-eqb, ne_eqb, ltb-true, ltb-false, lt-ltb, le-ltb, leb-true, le-leb, not-false}
use Rattle.std.proofs.Math.Dec.{eqb, ltb}
use Rattle.std.proofs.Math.ListN.{length}
use Rattle.spec.specs.declared.Refusal.{Refusal}
use Rattle.spec.specs.declared.Refusal.TheVariants.{NoTask, Running, Idle, NoRecord, Spoilt, ShortList, Withdrawn}
use Rattle.spec.specs.declared.Call.{Call}
use Rattle.spec.specs.declared.Config.{Config}
use Rattle.spec.specs.Outputs.{Output, Listing}
use Rattle.spec.specs.declared.Progress.TheVariants.{At, End}
use Rattle.spec.specs.Lists.{member}
use Rattle.spec.specs.Machine.{Machine, task_of}
use Rattle.spec.specs.Words.{tags}
use Rattle.spec.specs.Sound.{task_count, bucket_count, sound}
use Rattle.spec.specs.Listed.{listed}
use Rattle.spec.specs.Entries.{opening, start, step, Written, list, show}
use Rattle.spec.specs.Numbers.{refusal_number}
use Rattle.laws.specs.Tests.{tf, and2, and_i, or_none, choose}
use Rattle.laws.specs.SoundFacts.{SoundFacts}
use Rattle.laws.specs.Soundness.{sound_iff}
use Rattle.laws.specs.StepRefusals.{StepSound}
use Rattle.laws.specs.Withdrawn.{InsertOfZero}
use Rattle.laws.specs.RefusalNumbers.{same_refusal, from_1_to_14}
use Rattle.corollaries.specs.Tables as Table
use Rattle.corollaries.specs.Tables.{Within, Records, OpeningRefused, StartRefused, StepRefused, opening_refused, start_refused, step_refused}
use Rattle.corollaries.specs.Refusals.{refusal_1, refusal_2, refusal_3, refusal_11, refusal_4_start, refusal_5, refusal_8_start, refusal_14, Steps}
use Rattle.corollaries.specs.Refusals.{refusal_4_step, refusal_6, refusal_7, refusal_8_step, NoneFree, refusal_8_list, refusal_9}
use Rattle.corollaries.specs.TurnOutcome.{Next}
use Rattle.corollaries.specs.Turns.{turn_idle, turn_names, turn_names_none}
use Rattle.turns.specs.declared.Turn.{Turn}
use Rattle.turns.specs.declared.Turn.TheVariants.{Idle, Of, Refused}
use Rattle.turns.specs.Turn.{turn}
use Rattle.schedule_events.specs.Events.{listing_number}
use Rattle.state_words.specs.StateWords.{state_fits}
use Rattle.yard_answers.specs.Answers.{open_number, out_number, turn_number, turn_left}
use Rattle.turns.specs.Turns.{turns_of, turns_most, turns_written}
use Rattle.c_calls.specs.Calls.{Called, machine_in, c_open, c_reply, c_start, c_step, c_turn, c_list, c_show}
use Rattle.c_calls.specs.Runs.{c_run, c_turns}
use Rattle.yard_c.specs.RefusedTurns.{refused_words, told, number_words, told_number}

-- ---- conditions put together

and_then : {P Q R : Type 0} → P ↔ Q → Q ↔ R → P ↔ R
and_then f g = ((λ p. g.0 (f.0 p)), (λ r. f.1 (g.1 r)))

-- what also needs a part that is never so
only_else : {T P : Type 0} → ¬ P → ((¬ T) ⊎ (T × P)) ↔ (¬ T)
only_else {T} {P} d = (to, inl)
  where
    to : (¬ T) ⊎ (T × P) → ¬ T
    to (inl h) = h
    to (inr h) = absurd (d h.1)

-- a number that a function gives only where a test passes; the condition of each part may be said otherwise
module _ {T P : Type 0} {ok : Bool} {n : ℕ} (u v : Called) (test : ok ≡ true ↔ T) (mean : v.number ≡ n ↔ P) where
  gives : ¬ (u.number ≡ n) → (if not ok then u else v).number ≡ n ↔ (T × P)
  gives d = (to ok test, from ok test)
    where
      to : (b : Bool) → (b ≡ true ↔ T) → (if not b then u else v).number ≡ n → T × P
      to true t e = (t.0 refl, mean.0 e)
      to false t e = absurd (d e)

      from : (b : Bool) → (b ≡ true ↔ T) → T × P → (if not b then u else v).number ≡ n
      from true t h = mean.1 h.1
      from false t h = absurd (tf (t.1 h.0) refl)

  -- the number that it also gives where the test fails
  gives_else : u.number ≡ n → (if not ok then u else v).number ≡ n ↔ ((¬ T) ⊎ (T × P))
  gives_else d = (to ok test, from ok test)
    where
      to : (b : Bool) → (b ≡ true ↔ T) → (if not b then u else v).number ≡ n → (¬ T) ⊎ (T × P)
      to true t e = inr (t.0 refl, mean.0 e)
      to false t e = inl (λ h. tf (t.1 h) refl)

      from : (b : Bool) → (b ≡ true ↔ T) → (¬ T) ⊎ (T × P) → (if not b then u else v).number ≡ n
      from true t (inl h) = absurd (h (t.0 refl))
      from true t (inr h) = mean.1 h.1
      from false t h = d

-- the number of an output that is a refusal
refuses : (o : Output) (r : Refusal) → out_number o ≡ 256 + refusal_number r ↔ (o ≡ Err r)
unfolding out_number
refuses (Ok (At line)) r = ((λ e. absurd (omega (arith, from_1_to_14 r))), (λ e. absurd (let z : ◌≡◌ {A = ℕ} 0 1 = cc in omega arith)))
refuses (Ok (End a own full)) r = ((λ e. absurd (omega (arith, from_1_to_14 r))), (λ e. absurd (let z : ◌≡◌ {A = ℕ} 0 1 = cc in omega arith)))
refuses (Err m) r = ((λ e. let same : m ≡ r = same_refusal m r (omega arith) in rw same), (λ e. let same : m ≡ r = cc in rw same))

-- ---- opening: 8 for a state of another length alone

module _ (g : Config) (w ns bs : List ℕ) where
  abbrev Opens : ℕ → Type 0
  Opens n = (c_open g w ns bs).number ≡ n

  abbrev r₀ : ℕ
  r₀ = (opening g ns bs).refusal

  long : eqb (length w) 113 ≡ true ↔ (length w ≡ 113)
  long = (eqb-true _ _, eq-eqb _ _)

  opened : (r : ℕ) → ¬ (r ≡ 0) → open_number r₀ ≡ 256 + r ↔ (r₀ ≡ r)
  unfolding open_number
  opened r d = (choose (λ (n : ℕ). n ≡ 256 + r → r₀ ≡ r) (eqb r₀ 0) _ _ (λ p e. absurd (omega arith)) (λ p e. omega arith), λ e. rw (e, ne_eqb r 0 d))

  opens_with : (r : ℕ) → ¬ (r ≡ 0) → ¬ (r ≡ 8) → {P : Type 0} → (r₀ ≡ r ↔ P) → Opens (256 + r) ↔ ((length w ≡ 113) × P)
  unfolding c_open
  opens_with r d d8 f = gives _ _ long (and_then (opened r d) f) (λ e. d8 (omega arith))

  pub open_1 : Opens 257 ↔ ((length w ≡ 113) × (¬ Within 1 8 g.tasks))
  open_1 = opens_with 1 (λ z. omega arith) (λ z. omega arith) (refusal_1 g ns bs)

  pub open_2 : Opens 258 ↔ ((length w ≡ 113) × (Within 1 8 g.tasks × (¬ Records 34 64 ns)))
  open_2 = opens_with 2 (λ z. omega arith) (λ z. omega arith) (refusal_2 g ns bs)

  pub open_3 : Opens 259 ↔ ((length w ≡ 113) × (Within 1 8 g.tasks × Records 34 64 ns × (¬ Records 66 1024 bs)))
  open_3 = opens_with 3 (λ z. omega arith) (λ z. omega arith) (refusal_3 g ns bs)

  pub open_11 : Opens 267 ↔ ((length w ≡ 113) × (Within 1 8 g.tasks × Records 34 64 ns × Records 66 1024 bs × (¬ Within 1 2 g.version)))
  open_11 = opens_with 11 (λ z. omega arith) (λ z. omega arith) (refusal_11 g ns bs)

  -- the opening itself gives no 8
  not_8 : ¬ (r₀ ≡ 8)
  not_8 e = go ((opening_refused g ns bs 8 (λ z. omega arith)).0 e)
    where
      go : OpeningRefused g ns bs 8 → ⊥
      go (Table.is_1 e n) = omega arith
      go (Table.is_2 e p n) = omega arith
      go (Table.is_3 e p q n) = omega arith
      go (Table.is_11 e p q s n) = omega arith

  pub open_8 : Opens 264 ↔ (¬ (length w ≡ 113))
  unfolding c_open
  open_8 = and_then (gives_else _ _ long (opened 8 (λ z. omega arith)) refl) (only_else not_8)

  abbrev open_list : List ℕ
  open_list = 0 ∷ 257 ∷ 258 ∷ 259 ∷ 264 ∷ 267 ∷ []

  pub open_numbers : member (c_open g w ns bs).number open_list ≡ true
  unfolding c_open open_number member
  open_numbers =
      choose (λ (x : Called). member x.number open_list ≡ true) (not (eqb (length w) 113)) _ _ (λ p. refl) (λ p.
      choose (λ (n : ℕ). member n open_list ≡ true) (eqb r₀ 0) _ _ (λ q. refl) (λ q. go ((opening_refused g ns bs r₀ (eqb-false _ _ q)).0 refl)))
    where
      go : OpeningRefused g ns bs r₀ → member (256 + r₀) open_list ≡ true
      go (Table.is_1 e n) = rw e
      go (Table.is_2 e p n) = rw e
      go (Table.is_3 e p q n) = rw e
      go (Table.is_11 e p q s n) = rw e

module _ (w ns bs out : List ℕ) where
  abbrev y : Machine
  y = machine_in w ns bs

  -- words that a state has, and so many words for the answer
  abbrev pub Lent : ℕ → Type 0
  Lent n = (state_fits w ≡ true) × (length out ≡ n)

  lent : (n : ℕ) → (state_fits w && eqb (length out) n) ≡ true ↔ Lent n
  lent n = (
    (λ e. let f = and2 (state_fits w) (eqb (length out) n) e in (f.0, eqb-true _ _ f.1)),
    (λ h. and_i (state_fits w) (eqb (length out) n) h.0 (eq-eqb _ _ h.1)),
  )

  -- ---- a start

  module _ (call : Call) (k tag : ℕ) where
    abbrev Starts : ℕ → Type 0
    Starts n = (c_start call w k tag ns bs out).number ≡ n

    abbrev start_mean : (r : Refusal) → {P : Type 0} → ((start y k call tag).out ≡ Err r ↔ P) → out_number (start y k call tag).out ≡ 256 + refusal_number r ↔ P
    start_mean r f = and_then (refuses (start y k call tag).out r) f

    pub start_8 : Starts 264 ↔ ((¬ Lent 4) ⊎ (Lent 4 × (¬ SoundFacts y)))
    unfolding c_start c_reply
    start_8 = gives_else _ _ (lent 4) (start_mean Spoilt (refusal_8_start y k call tag)) refl

    pub start_4 : Starts 260 ↔ (Lent 4 × (SoundFacts y × (task_count y ≤ k)))
    unfolding c_start c_reply
    start_4 = gives _ _ (lent 4) (start_mean NoTask (refusal_4_start y k call tag)) (λ e. omega arith)

    pub start_5 : Starts 261 ↔ (Lent 4 × (SoundFacts y × (k < task_count y) × ((task_of y k).running ≡ true)))
    unfolding c_start c_reply
    start_5 = gives _ _ (lent 4) (start_mean Running (refusal_5 y k call tag)) (λ e. omega arith)

    pub start_14 : Starts 270
        ↔ (Lent 4 × (SoundFacts y × (k < task_count y) × ((task_of y k).running ≡ false) × InsertOfZero y.state.config call tag))
    unfolding c_start c_reply
    start_14 = gives _ _ (lent 4) (start_mean Withdrawn (refusal_14 y k call tag)) (λ e. omega arith)

    abbrev start_list : List ℕ
    start_list = 0 ∷ 260 ∷ 261 ∷ 264 ∷ 270 ∷ []

    pub start_numbers : member (c_start call w k tag ns bs out).number start_list ≡ true
    unfolding c_start c_reply out_number member
    start_numbers =
        choose (λ (x : Called). member x.number start_list ≡ true) (not (state_fits w && eqb (length out) 4)) _ _ (λ p. refl)
        (λ p. go (start y k call tag).out (λ r. (start_refused y k r call tag).0))
      where
        row : (r : Refusal) → StartRefused y k call tag r → member (256 + refusal_number r) start_list ≡ true
        row r (Table.is_8 e n) = rw e
        row r (Table.is_4 e f h) = rw e
        row r (Table.is_5 e f h s) = rw e
        row r (Table.is_14 e f h s z) = rw e

        go : (o : Output) → ((r : Refusal) → o ≡ Err r → StartRefused y k call tag r) → member (out_number o) start_list ≡ true
        go (Ok (At line)) t = refl
        go (Ok (End a own full)) t = refl
        go (Err r) t = row r (t r refl)

  -- ---- a step

  module _ (k : ℕ) where
    abbrev StepGives : ℕ → Type 0
    StepGives n = (c_step w k ns bs out).number ≡ n

    abbrev step_mean : (r : Refusal) → {P : Type 0} → ((step y k).out ≡ Err r ↔ P) → out_number (step y k).out ≡ 256 + refusal_number r ↔ P
    step_mean r f = and_then (refuses (step y k).out r) f

    pub step_8 : StepGives 264 ↔ ((¬ Lent 4) ⊎ (Lent 4 × ((¬ SoundFacts y) ⊎ (Steps y k × (¬ StepSound y (task_of y k))))))
    unfolding c_step c_reply
    step_8 = gives_else _ _ (lent 4) (step_mean Spoilt (refusal_8_step y k)) refl

    pub step_4 : StepGives 260 ↔ (Lent 4 × (SoundFacts y × (task_count y ≤ k)))
    unfolding c_step c_reply
    step_4 = gives _ _ (lent 4) (step_mean NoTask (refusal_4_step y k)) (λ e. omega arith)

    pub step_6 : StepGives 262 ↔ (Lent 4 × (SoundFacts y × (k < task_count y) × ((task_of y k).running ≡ false)))
    unfolding c_step c_reply
    step_6 = gives _ _ (lent 4) (step_mean Idle (refusal_6 y k)) (λ e. omega arith)

    pub step_7 : StepGives 263 ↔ (Lent 4 × (Steps y k × StepSound y (task_of y k) × NoneFree y k (task_of y k)))
    unfolding c_step c_reply
    step_7 = gives _ _ (lent 4) (step_mean NoRecord (refusal_7 y k)) (λ e. omega arith)

    abbrev step_list : List ℕ
    step_list = 0 ∷ 260 ∷ 262 ∷ 263 ∷ 264 ∷ []

    pub step_numbers : member (c_step w k ns bs out).number step_list ≡ true
    unfolding c_step c_reply out_number member
    step_numbers =
        choose (λ (x : Called). member x.number step_list ≡ true) (not (state_fits w && eqb (length out) 4)) _ _ (λ p. refl)
        (λ p. go (step y k).out (λ r. (step_refused y k r).0))
      where
        row : (r : Refusal) → StepRefused y k r → member (256 + refusal_number r) step_list ≡ true
        row r (Table.is_8 e n) = rw e
        row r (Table.is_4 e f h) = rw e
        row r (Table.is_6 e f h s) = rw e
        row r (Table.is_8_step e f h g n) = rw e
        row r (Table.is_7 e f h g b v) = rw e

        go : (o : Output) → ((r : Refusal) → o ≡ Err r → StepRefused y k r) → member (out_number o) step_list ≡ true
        go (Ok (At line)) t = refl
        go (Ok (End a own full)) t = refl
        go (Err r) t = row r (t r refl)

  -- ---- a turn

  abbrev TurnGives : ℕ → Type 0
  TurnGives n = (c_turn w ns bs out).number ≡ n

  says_none : (x : Turn) → turn_number x ≡ 0 ↔ (x ≡ Idle)
  unfolding turn_number
  says_none Idle = ((λ e. refl), (λ e. refl))
  says_none (Of k o) = ((λ e. absurd (omega arith)), (λ e. absurd (let z : ◌≡◌ {A = ℕ} 0 1 = cc in omega arith)))
  says_none (Refused r) = ((λ e. absurd (omega arith)), (λ e. absurd (let z : ◌≡◌ {A = ℕ} 0 1 = cc in omega arith)))

  says_refused : (x : Turn) → turn_number x ≡ 264 ↔ (x ≡ Refused Spoilt)
  unfolding turn_number
  says_refused Idle = ((λ e. absurd (omega arith)), (λ e. absurd (let z : ◌≡◌ {A = ℕ} 0 1 = cc in omega arith)))
  says_refused (Of k o) = ((λ e. absurd (omega arith)), (λ e. absurd (let z : ◌≡◌ {A = ℕ} 0 1 = cc in omega arith)))
  says_refused (Refused r) = ((λ e. let same : r ≡ Spoilt = same_refusal r Spoilt (omega arith) in rw same), (λ e. let same : r ≡ Spoilt = cc in rw same))

  -- nothing runs
  pub turn_0 : TurnGives 0 ↔ (Lent 5 × (SoundFacts y × ((k : ℕ) → k < task_count y → (task_of y k).running ≡ false)))
  unfolding c_turn
  turn_0 = gives _ _ (lent 5) (and_then (says_none (turn y).says) (turn_idle y)) (λ e. omega arith)

  -- a task is next
  pub turn_1 : TurnGives 1 ↔ (Lent 5 × (SoundFacts y × ((k : ℕ) × Next y k)))
  unfolding c_turn turn_number
  turn_1 = gives _ _ (lent 5) (to (turn y).says refl, from) (λ e. omega arith)
    where
      to : (x : Turn) → (turn y).says ≡ x → turn_number x ≡ 1 → SoundFacts y × ((k : ℕ) × Next y k)
      to Idle e n = absurd (omega arith)
      to (Refused r) e n = absurd (omega arith)
      to (Of k o) e n = let t = (turn_names y k o).0 e in (t.0, (k, t.1))

      from : SoundFacts y × ((k : ℕ) × Next y k) → turn_number (turn y).says ≡ 1
      from h = ap turn_number ((turn_names y h.1.0 (step y h.1.0).out).1 (h.0, h.1.1, refl))

  pub turn_8 : TurnGives 264 ↔ ((¬ Lent 5) ⊎ (Lent 5 × (¬ SoundFacts y)))
  unfolding c_turn
  turn_8 = gives_else _ _ (lent 5) (and_then (says_refused (turn y).says) (and_then (turn_names_none y Spoilt) ((λ h. h.1), (λ h. (refl, h))))) refl

  -- 1, and words that say that the step of task k was refused with r
  pub turn_1_refused : (k : ℕ) (r : Refusal) → (TurnGives 1 × ((c_turn w ns bs out).out ≡ refused_words k r))
      ↔ (Lent 5 × (SoundFacts y × Next y k × ((step y k).out ≡ Err r)))
  unfolding c_turn turn_number turn_left
  turn_1_refused k r = (to, from)
    where
      Says : Called → Type 0
      Says x = (x.number ≡ 1) × (x.out ≡ refused_words k r)

      to : Says (c_turn w ns bs out) → Lent 5 × (SoundFacts y × Next y k × ((step y k).out ≡ Err r))
      to =
          choose (λ (x : Called). Says x → Lent 5 × (SoundFacts y × Next y k × ((step y k).out ≡ Err r))) (not (state_fits w && eqb (length out) 5)) _ _
          (λ p h. absurd (let n = h.0 in omega arith))
          (λ p h. ((lent 5).0 (not-false _ p), (turn_names y k (Err r)).0 (told k r out (turn y).says h.0 h.1)))

      from : Lent 5 × (SoundFacts y × Next y k × ((step y k).out ≡ Err r)) → Says (c_turn w ns bs out)
      from h = rw ((lent 5).1 h.0, (turn_names y k (Err r)).1 h.1) (refl, refl)

  -- 1, and such words with any number: it is that of a refusal, of which `turn_1_refused` says when it is given
  pub turn_1_number : (k r : ℕ) → TurnGives 1 → (c_turn w ns bs out).out ≡ number_words k r → (s : Refusal) × (refusal_number s ≡ r)
  unfolding c_turn turn_number turn_left
  turn_1_number k r =
      choose (λ (x : Called). x.number ≡ 1 → x.out ≡ number_words k r → (s : Refusal) × (refusal_number s ≡ r)) (not (state_fits w && eqb (length out) 5)) _ _
      (λ p n e. absurd (omega arith))
      (λ p n e. told_number k r out (turn y).says n e)

  -- ---- a list

  abbrev Lists : ℕ → Type 0
  Lists n = (c_list w ns bs out).number ≡ n

  fit : state_fits w ≡ true ↔ (state_fits w ≡ true)
  fit = ((λ e. e), (λ e. e))

  lists_refused : (x : Listing) (r : Refusal) → ((n : ℕ) → x ≡ Ok n → n ≤ 64) → listing_number x ≡ 256 + refusal_number r ↔ (x ≡ Err r)
  lists_refused (Ok n) r few =
      ((λ e. absurd (let h = few n refl in omega arith)), (λ e. absurd (let z : ◌≡◌ {A = ℕ} 0 1 = cc in omega arith)))
  lists_refused (Err m) r few = ((λ e. let same : m ≡ r = same_refusal m r (omega arith) in rw same), (λ e. let same : m ≡ r = cc in rw same))

  -- a list of tags has at most 64
  few : (n : ℕ) → (list y out).says ≡ Ok n → n ≤ 64
  unfolding list
  few n =
      choose Few (not (sound y) || ltb 64 (length (listed y))) _ _ (λ p e. absurd (let z : ◌≡◌ {A = ℕ} 0 1 = cc in omega arith)) (λ p.
      choose Few (not (leb 64 (length out))) _ _ (λ q e. absurd (let z : ◌≡◌ {A = ℕ} 0 1 = cc in omega arith)) (λ q e.
      let same : length (listed y) ≡ n = cc in
      let h = ltb-false 64 (length (listed y)) (or_none (not (sound y)) (ltb 64 (length (listed y))) p).1 in omega arith))
    where
      Few : Written → Type 0
      Few x = x.says ≡ Ok n → n ≤ 64

  pub list_8 : Lists 264 ↔ ((¬ (state_fits w ≡ true)) ⊎ ((state_fits w ≡ true) × ((¬ SoundFacts y) ⊎ (SoundFacts y × (64 < length (listed y))))))
  unfolding c_list
  list_8 = gives_else _ _ fit (and_then (lists_refused (list y out).says Spoilt few) (refusal_8_list y out)) refl

  pub list_9 : Lists 265 ↔ ((state_fits w ≡ true) × (SoundFacts y × (length (listed y) ≤ 64) × (length out < 64)))
  unfolding c_list
  list_9 = gives _ _ fit (and_then (lists_refused (list y out).says ShortList few) (refusal_9 y out)) (λ e. omega arith)

  -- a number of tags
  pub list_count : (n : ℕ) → n ≤ 64 → Lists n ↔ ((state_fits w ≡ true) × (SoundFacts y × (length (listed y) ≡ n) × (64 ≤ length out)))
  unfolding c_list list
  list_count n h = gives _ _ fit (to, from) (λ e. omega arith)
    where
      Counts : Written → Type 0
      Counts x = listing_number x.says ≡ n → SoundFacts y × (length (listed y) ≡ n) × (64 ≤ length out)

      to : Counts (list y out)
      to =
          choose Counts (not (sound y) || ltb 64 (length (listed y))) _ _ (λ p e. absurd (omega arith)) (λ p.
          choose Counts (not (leb 64 (length out))) _ _ (λ q e. absurd (omega arith)) (λ q e.
          ((sound_iff y).0 (not-false _ (or_none (not (sound y)) (ltb 64 (length (listed y))) p).0), e, leb-true 64 (length out) (not-false _ q))))

      from : SoundFacts y × (length (listed y) ≡ n) × (64 ≤ length out) → listing_number (list y out).says ≡ n
      from f =
          let most : length (listed y) ≤ 64 = let e = f.1 in omega arith in
          rw ((sound_iff y).1 f.0, le-ltb 64 (length (listed y)) most, le-leb 64 (length out) f.2) f.1

  -- ---- a show refuses nothing: it gives more than 0 exactly for a bucket that is there and has tags, in sound memory

  pub show_count : (k n : ℕ) → (c_show w k ns bs out).number ≡ suc n ↔ (Lent 1 × (SoundFacts y × (k < bucket_count y) × (length (tags bs k) ≡ suc n)))
  unfolding c_show show
  show_count k n = gives _ _ (lent 1) (to, from) (λ e. omega arith)
    where
      Shows : List ℕ → Type 0
      Shows l = length l ≡ suc n → SoundFacts y × (k < bucket_count y) × (length (tags bs k) ≡ suc n)

      to : Shows (show y k)
      to =
          choose Shows (sound y && ltb k (bucket_count y)) _ _ (λ p e. let b = and2 (sound y) (ltb k (bucket_count y)) p in
          ((sound_iff y).0 b.0, ltb-true _ _ b.1, e)) (λ p e. absurd (omega arith))

      from : SoundFacts y × (k < bucket_count y) × (length (tags bs k) ≡ suc n) → length (show y k) ≡ suc n
      from f = rw ((sound_iff y).1 f.0, lt-ltb k (bucket_count y) f.1) f.2

  -- ---- many events, many turns: 8 for words that no state has and for spoilt memory alone

  abbrev pub Ready : Type 0
  Ready = (state_fits w ≡ true) × SoundFacts y

  ready : (state_fits w && sound y) ≡ true ↔ Ready
  ready = (
    (λ e. let f = and2 (state_fits w) (sound y) e in (f.0, (sound_iff y).0 f.1)),
    (λ h. and_i (state_fits w) (sound y) h.0 ((sound_iff y).1 h.1)),
  )

  pub run_0 : (events : List ℕ) → (c_run w ns bs events out).number ≡ 0 ↔ Ready
  unfolding c_run
  run_0 events = and_then (gives {P = Unit {0}} _ _ ready ((λ e. tt), (λ u. refl)) (λ e. omega arith)) ((λ h. h.0), (λ h. (h, tt)))

  pub run_8 : (events : List ℕ) → (c_run w ns bs events out).number ≡ 264 ↔ (¬ Ready)
  unfolding c_run
  run_8 events = and_then (gives_else {P = ⊥} _ _ ready ((λ e. omega arith), (λ z. absurd z)) refl) (only_else (λ z. z))

  -- how many turns named a task
  abbrev named : ℕ
  named = length (turns_of (min 255 (length out / 5)) y).says

  named_few : named ≤ 255
  named_few = let h = turns_most (min 255 (length out / 5)) y in omega arith

  pub turns_count : (n : ℕ) → n ≤ 255 → (c_turns w ns bs out).number ≡ n ↔ (Ready × (named ≡ n))
  unfolding c_turns turns_written
  turns_count n h = gives _ _ ready ((λ e. e), (λ e. e)) (λ e. omega arith)

  pub turns_8 : (c_turns w ns bs out).number ≡ 264 ↔ (¬ Ready)
  unfolding c_turns turns_written
  turns_8 = and_then (gives_else {P = named ≡ 264} _ _ ready ((λ e. e), (λ e. e)) refl) (only_else (λ e. let h = named_few in omega arith))
