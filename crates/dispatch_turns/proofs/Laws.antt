-- What is left of many turns, and one of them. Assumes nothing.
use Rattle.std.specs.Prelude.{if◌then◌else◌}
use Prim.Native.Nat.{ℕ, suc, ◌+◌, ◌*◌, ◌-◌, ◌≤◌, ◌<◌}
use mathlib.Core.Path.{◌≡◌, refl, sym, ap, ◌∙◌}
use mathlib.Core.List.{List, [], ◌∷◌}
use mathlib.Core.Bool.{Bool, true, false, ◌&&◌}
use native.Mathlib.Omega.{arith}
use borrow.Author.Tests.{ltb-true, ltb-false, lt-ltb, le-ltb}
use lib.Dec.{ltb}
use lib.ListN.{length}
use Rattle.spec.specs.Outputs.{Output}
use Rattle.spec.specs.Lists.{concat_map}
use Rattle.spec.specs.Numbers.{output_words}
use Rattle.spec.specs.Machine.{Machine, with_chosen}
use Rattle.spec.specs.Words.{link, overwrite}
use Rattle.spec.specs.Sound.{sound}
use Rattle.spec.specs.Entries.{step}
use Rattle.turns.specs.declared.Turn.{Turn}
use Rattle.turns.specs.declared.Turn.TheVariants.{Idle, Of, Refused}
use Rattle.turns.specs.Turn.{gives, turn}
use Rattle.turns.specs.Moves.{turns, move}
use Rattle.laws.specs.Tests.{tf}
use Rattle.dispatcher.specs.InOrder.{move_keeps}
use Rattle.dispatch.specs.Turned.{next_to_step, chosen_after}
use Rattle.dispatch.proofs.TurnLaws.{names_its_step}
use Rattle.schedule_words.proofs.Laws.{output_length, over_none, over_then}
use Rattle.turns.specs.Turns.{names, turns_of, turn_words, Written, written, turns_written, TurnedSo, turned_so, next_turn}

-- ---- one turn, by its outcome

module _ (i n : ℕ) (y : Machine) (w : List ℕ) where
  pub none_room : n ≤ i → turned_so false y w ≡ next_turn i n y w
  unfolding next_turn
  none_room h = rw (le-ltb i n h)

  pub none_runs : i < n → gives Idle y ≡ turn y → turned_so false y w ≡ next_turn i n y w
  unfolding next_turn names
  none_runs h e = rw (lt-ltb i n h, ← e)

  -- task k is next, its step answers and leaves so, and the task chosen last is stored with what it leaves
  pub names_one : i < n → sound y ≡ true → (k : ℕ) → next_to_step y ≡ link k → (o : Output) (z : Machine) → record { out = o; machine = z } ≡ step y k
      → (last : ℕ) → last ≡ chosen_after o k z.state.chosen → (v : List ℕ) → v ≡ overwrite w (5 * i) (k ∷ output_words o)
      → turned_so true (with_chosen last z) v ≡ next_turn i n y w
  unfolding next_turn names turn_words
  names_one h ok k next o z gave last chosen v words =
      let e = ap (λ (c : ℕ). gives (Of k o) (with_chosen c z)) chosen ∙ names_its_step y k next o z gave ok in
      rw (lt-ltb i n h, ← e, words)

-- ---- the turns from y on, where i have been taken and their words written

unfoldable pub left : ℕ → ℕ → Machine → List ℕ → Written
left i n y w = let r = turns_of n y in written (i + length r.says) r.machine (overwrite w (5 * i) (concat_map turn_words r.says))

pub left_all : (n : ℕ) (y : Machine) (w : List ℕ) → left 0 (n - 0) y w ≡ turns_written n y w
unfolding left turns_written
left_all n y w =
    let m : n - 0 ≡ n = omega arith in
    let z : 0 + length (turns_of n y).says ≡ length (turns_of n y).says = omega arith in
    rw (m, z)

-- nothing is left
none_left : (i : ℕ) (y : Machine) (w : List ℕ) → written (i + 0) y (overwrite w (5 * i) []) ≡ written i y w
none_left i y w = let z : i + 0 ≡ i = omega arith in rw (z, over_none w (5 * i))

-- the words of a turn that names a task are five
five : (x : Turn) → names x ≡ true → length (turn_words x) ≡ 5
unfolding names turn_words
five Idle e = absurd (tf e refl)
five (Of k o) e = let four = output_length o in omega arith
five (Refused r) e = absurd (tf e refl)

module _ (i n : ℕ) (y : Machine) (w : List ℕ) where
  left_end : n ≤ i → left i (n - i) y w ≡ written i y w
  unfolding left turns_of concat_map
  left_end h = let z : n - i ≡ 0 = omega arith in rw z (none_left i y w)

  left_none : i < n → names (turn y).says ≡ false → left i (n - i) y w ≡ written i y w
  unfolding left turns_of concat_map
  left_none h e = let z : n - i ≡ suc (n - i - 1) = omega arith in rw (z, e) (none_left i y w)

  left_on : i < n → 5 * n ≤ length w → names (turn y).says ≡ true
      → left i (n - i) y w ≡ left (i + 1) (n - (i + 1)) (turn y).machine (overwrite w (5 * i) (turn_words (turn y).says))
  unfolding left turns_of concat_map
  left_on h room e =
      let q = n - (i + 1) in
      let x = turn y in
      let m : n - i ≡ suc q = omega arith in
      let r = turns_of q x.machine in
      let more : i + suc (length r.says) ≡ i + 1 + length r.says = omega arith in
      let l = five x.says e in
      let on : 5 * i + length (turn_words x.says) ≡ 5 * (i + 1) = omega arith in
      let long : 5 * i + length (turn_words x.says) ≤ length w = omega arith in
      rw (m, e, more, over_then w (5 * i) (turn_words x.says) (concat_map turn_words r.says) long, on)

  -- one turn of the loop: it is the last, and names no task
  pub ends : (z : Machine) (v : List ℕ) → turned_so false z v ≡ next_turn i n y w → left i (n - i) y w ≡ written i z v
  unfolding next_turn
  ends z v = go (ltb i n) (names (turn y).says) refl refl
    where
      go : (a b : Bool) → ltb i n ≡ a → names (turn y).says ≡ b
          → turned_so false z v
          ≡ (if a && b then turned_so true (turn y).machine (overwrite w (5 * i) (turn_words (turn y).says)) else turned_so false y w)
          → left i (n - i) y w ≡ written i z v
      go false b p q e = left_end (ltb-false i n p) ∙ ap (λ (t : TurnedSo). written i t.machine t.words) (sym e)
      go true false p q e = left_none (ltb-true i n p) q ∙ ap (λ (t : TurnedSo). written i t.machine t.words) (sym e)
      go true true p q e = absurd (tf (ap (λ (t : TurnedSo). t.named) e) refl)

  -- or it names one, and there may be more
  pub goes_on : 5 * n ≤ length w → sound y ≡ true → (z : Machine) (v : List ℕ) → turned_so true z v ≡ next_turn i n y w
      → (i < n) × (sound z ≡ true) × (left i (n - i) y w ≡ left (i + 1) (n - (i + 1)) z v)
  unfolding next_turn move
  goes_on room ok z v = go (ltb i n) (names (turn y).says) refl refl
    where
      go : (a b : Bool) → ltb i n ≡ a → names (turn y).says ≡ b
          → turned_so true z v
          ≡ (if a && b then turned_so true (turn y).machine (overwrite w (5 * i) (turn_words (turn y).says)) else turned_so false y w)
          → (i < n) × (sound z ≡ true) × (left i (n - i) y w ≡ left (i + 1) (n - (i + 1)) z v)
      go false b p q e = absurd (tf (sym (ap (λ (t : TurnedSo). t.named) e)) refl)
      go true false p q e = absurd (tf (sym (ap (λ (t : TurnedSo). t.named) e)) refl)
      go true true p q e =
          let same = ap (λ (t : TurnedSo). t.machine) e in
          let below = ltb-true i n p in (
            below,
            ap sound same ∙ move_keeps y turns ok,
            left_on below room q ∙ ap (λ (t : TurnedSo). left (i + 1) (n - (i + 1)) t.machine t.words) (sym e),
          )
