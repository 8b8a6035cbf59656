-- Laws of the calls for C: the numbers are small, and what an entry gave put together as the call's definition has it. Assumes nothing.
use Rattle.std.specs.Prelude.{Ok, Err}
use Prim.Native.Nat.{ℕ, ◌+◌, ◌*◌, ◌≤◌, ◌<◌}
use mathlib.Core.Path.{◌≡◌, refl, sym, ap, ◌∙◌}
use mathlib.Core.Bool.{true, false, ◌&&◌}
use mathlib.Core.List.{List, []}
use native.Mathlib.Omega.{arith}
use borrow.Author.Tests.{eq-eqb, ne_eqb, leb-true, ltb-true, lt-ltb, le-ltb}
use lib.Dec.{eqb, ltb}
use lib.ListN.{length, get_or, set, drop, length-take, length-drop}
use lib.Seq.{get_or-drop}
use Rattle.coop_spec.specs.declared.Refusal.{Refusal}
use Rattle.spec.specs.Words.{count, tags, overwrite}
use Rattle.laws.specs.Tests.{and2, choose}
use Rattle.yard_answers.specs.Answers.{open_number}
use Rattle.yard_answers.specs.CallLaws.{Ready, ready_test, one_word}
use Rattle.yard_words.proofs.Over.{over_all}
use Rattle.coop_spec.specs.declared.Call.{Call}
use Rattle.coop_spec.specs.declared.State.{State}
use Rattle.coop_spec.specs.Outputs.{Output}
use Rattle.coop_spec.specs.declared.Progress.TheVariants.{At, End}
use Rattle.coop_spec.specs.Numbers.{output_words}
use Rattle.coop_spec.specs.Machine.{Machine, machine_of}
use Rattle.coop_spec.specs.Words.{tags_of}
use Rattle.coop_spec.specs.Sound.{version_count, sound}
use Rattle.coop_spec.specs.Entries.{opening, Reply, start, step}
use Rattle.coop_laws.specs.Refusals.{StartRefused, is_8, is_4, is_5_running, is_5_barred, start_refused_iff}
use Rattle.coop_laws.specs.Refusals.{StepRefused, is_6, is_8_step, is_7, step_refused_iff}
use Rattle.coop_laws.specs.RefusalNumbers.{from_1_to_8}
use Rattle.coop_lines.specs.declared.Stepped.{Stepped}
use Rattle.coop_lines.specs.Reply.{reply_of}
use Rattle.coop.proofs.Facts.{bounds, tagged}
use Rattle.coop_state_words.specs.StateWords.{state_words, state_of_words, state_fits}
use Rattle.coop_c.specs.Answers.{out_number, out_left}
use Rattle.coop_c.specs.Calls.{called, machine_in, c_open, c_reply, c_start, c_step, shown, c_show}

-- ---- refusals have small numbers

small_out : (o : Output) → out_number o ≤ 511
unfolding out_number
small_out (Ok (At line)) = omega arith
small_out (Ok (End a own)) = omega arith
small_out (Err r) = let s = from_1_to_8 r in omega arith

pub start_small : (y : Machine) (call : Call) (p n k : ℕ) → out_number (start y p call n k).out ≤ 511
start_small y call p n k = small_out (start y p call n k).out

pub step_small : (y : Machine) (p : ℕ) → out_number (step y p).out ≤ 511
step_small y p = small_out (step y p).out

-- ---- the answer's words

-- what is no refusal is written, and its number is 0
pub written : (o : Output) (out : List ℕ) → length out ≡ 4 → ((why : Refusal) → o ≡ Err why → ⊥) → (0 ≡ out_number o) × (overwrite out 0 (output_words o) ≡ out_left o out)
unfolding out_number out_left
written (Ok (At line)) out room d = (refl, over_all out (output_words (Ok (At line))) (sym room))
written (Ok (End a own)) out room d = (refl, over_all out (output_words (Ok (End a own))) (sym room))
written (Err why) out room d = absurd (d why refl)

-- ---- the calls

module _ (t : ℕ) (w vs : List ℕ) where
  pub not_opened : ¬ (length w ≡ 397) → called 264 w vs [] ≡ c_open t w vs
  unfolding c_open
  not_opened d = rw (ne_eqb (length w) 397 d)

  pub opened : length w ≡ 397 → (why : ℕ) (s : State) (vs' : List ℕ) → record { refusal = why; machine = machine_of s vs' } ≡ opening t vs
      → (w' : List ℕ) → w' ≡ state_words s → (r : ℕ) → r ≡ open_number why → called r w' vs' [] ≡ c_open t w vs
  unfolding c_open
  opened long why s vs' is w' words r number = rw (eq-eqb (length w) 397 long, ← is, words, number)

-- what a start or a step gave, by the machine that the words are
pub replied : (w out vs' : List ℕ) (s : State) → s ≡ state_of_words w → (x : State → Reply) (r : Stepped) → reply_of r vs' ≡ x s
    → (n : ℕ) → n ≡ out_number r.out → (w' : List ℕ) → w' ≡ state_words r.state → (out' : List ℕ) → out' ≡ out_left r.out out
    → called n w' vs' out' ≡ c_reply (x (state_of_words w)) out
unfolding c_reply
replied w out vs' s is x r gave n number w' words out' answer =
    rw (number, words, answer) (ap (λ (y : Reply). c_reply y out) (gave ∙ ap x is))

module _ (w out vs : List ℕ) where
  abbrev y : Machine
  y = machine_in w vs

  pub start_spoilt : (call : Call) (k n tag : ℕ) → (state_fits w && eqb (length out) 4) ≡ false → called 264 w vs out ≡ c_start call w k n tag vs out
  unfolding c_start
  start_spoilt call k n tag h = rw h

  pub start_called : (call : Call) (k n tag : ℕ) → Ready state_fits w out 4 → c_reply (start y k call n tag) out ≡ c_start call w k n tag vs out
  unfolding c_start
  start_called call k n tag h = rw (ready_test h)

  pub step_spoilt : (k : ℕ) → (state_fits w && eqb (length out) 4) ≡ false → called 264 w vs out ≡ c_step w k vs out
  unfolding c_step
  step_spoilt k h = rw h

  pub step_called : (k : ℕ) → Ready state_fits w out 4 → c_reply (step y k) out ≡ c_step w k vs out
  unfolding c_step
  step_called k h = rw (ready_test h)

  pub show_spoilt : (k : ℕ) → (state_fits w && eqb (length out) 1) ≡ false → called 0 w vs out ≡ c_show w k vs out
  unfolding c_show
  show_spoilt k h = rw h

  pub show_none : (k : ℕ) → Ready state_fits w out 1 → length (shown y k) ≡ 0 → called 0 w vs out ≡ c_show w k vs out
  unfolding c_show
  show_none k h e = rw (ready_test h, e)

  pub show_some : (k : ℕ) → Ready state_fits w out 1 → ¬ (length (shown y k) ≡ 0) → called (length (shown y k)) w vs (set out 0 (66 * k + 2)) ≡ c_show w k vs out
  unfolding c_show
  show_some k h d = rw (ready_test h, ne_eqb _ 0 d) (ap (λ (v : List ℕ). called (length (shown y k)) w vs v) (one_word out (66 * k + 2) h.room))

-- ---- what a show counts

module _ (s : State) (vs : List ℕ) (k : ℕ) where
  abbrev of_words : Machine
  of_words = machine_of s vs

  pub none_spoilt : sound of_words ≡ false → 0 ≡ length (shown of_words k)
  unfolding shown
  none_spoilt h = rw h

  pub none_past : sound of_words ≡ true → s.versions ≤ k → 0 ≡ length (shown of_words k)
  unfolding shown
  none_past h b = rw (h, le-ltb k s.versions b)

  pub counted : sound of_words ≡ true → k < s.versions → get_or vs (66 * k + 1) 0 ≡ length (shown of_words k)
  unfolding shown tags_of tags count
  counted h b =
      let t = tagged s vs h k b in
      let fits = t.fits in
      let few : get_or (drop (66 * k) vs) 1 0 ≤ 64 = leb-true _ 64 t.few in
      let same = get_or-drop (66 * k) vs 1 0 in
      rw (h, lt-ltb k s.versions b, length-take, length-drop) (omega arith)

  -- a version that has tags to show is one of the pool
  pub shown_below : ¬ (length (shown of_words k) ≡ 0) → k < 1024
  unfolding shown
  shown_below = choose Below (sound of_words && ltb k (version_count of_words)) _ _ in_pool (λ p d. absurd (d refl))
    where
      Below : List ℕ → Type 0
      Below v = ¬ (length v ≡ 0) → k < 1024

      in_pool : (sound of_words && ltb k (version_count of_words)) ≡ true → Below (tags_of of_words k)
      in_pool p d =
          let q = and2 (sound of_words) (ltb k (version_count of_words)) p in
          let below = ltb-true k (version_count of_words) q.1 in
          let most = (bounds s vs q.0).versions_most in
          omega arith
