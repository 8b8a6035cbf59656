-- The events that are left at event i of n where event k is left out: what the loop of `run_without` goes by. Assumes nothing.
use Rattle.std.specs.Prelude.{if◌then◌else◌}
use Prim.Native.Nat.{ℕ, zero, suc, ◌+◌, ◌*◌, ◌-◌, ◌≤◌, ◌<◌}
use mathlib.Core.Path.{◌≡◌, refl, ap}
use mathlib.Core.List.{List, [], ◌∷◌}
use native.Mathlib.Decide.{dec_lt}
use native.Mathlib.Omega.{arith}
use borrow.Author.Tests.{lt-ltb, le-ltb}
use lib.Dec.{ltb}
use lib.ListN.{length, drop}
use Rattle.spec.specs.Schedule.{Event}
use Rattle.schedule_events.specs.Events.{events_of}
use Rattle.schedule_events.specs.EventLaws.{events_length, event_at, events_on, events_end}
use Rattle.mattered.specs.Mattered.{without}

module _ (ws : List ℕ) (k n : ℕ) where
  abbrev from : ℕ → List Event
  from i = events_of (n - i) (drop (4 * i) ws)

  unfoldable pub left : ℕ → List Event
  left i = if ltb k i then from i else without (k - i) (from i)

  pub left_start : left 0 ≡ without k (events_of n ws)
  unfolding left
  left_start =
      let z : n - 0 ≡ n = omega arith in
      let q : k - 0 ≡ k = omega arith in
      rw (le-ltb k 0 (omega arith), z, q) refl

  module _ (i : ℕ) (h : i < n) where
    pub left_out : i ≡ k → left i ≡ left (i + 1)
    unfolding left without
    left_out e =
        let z : k - i ≡ 0 = omega arith in
        rw (le-ltb k i (omega arith), lt-ltb k (i + 1) (omega arith), z, events_on ws n i h) refl

    past : k < i → left i ≡ event_at ws i ∷ left (i + 1)
    unfolding left
    past l = rw (lt-ltb k i l, lt-ltb k (i + 1) (omega arith), events_on ws n i h) refl

    before : i < k → left i ≡ event_at ws i ∷ left (i + 1)
    unfolding left without
    before l =
        let z : k - i ≡ suc (k - (i + 1)) = omega arith in
        rw (le-ltb k i (omega arith), le-ltb k (i + 1) (omega arith), z, events_on ws n i h) refl

    pub left_on : ¬ (i ≡ k) → left i ≡ event_at ws i ∷ left (i + 1)
    left_on d = go (dec_lt k i)
      where
        go : Dec (k < i) → left i ≡ event_at ws i ∷ left (i + 1)
        go (yes l) = past l
        go (no l) = before (omega (arith, l, d))

  pub left_end : (i : ℕ) → n ≤ i → left i ≡ []
  unfolding left without
  left_end i h = go (dec_lt k i)
    where
      go : Dec (k < i) → left i ≡ []
      go (yes l) = rw (lt-ltb k i l, events_end n i h (drop (4 * i) ws)) refl
      go (no l) = rw (le-ltb k i (omega (arith, l)), events_end n i h (drop (4 * i) ws)) refl

-- ---- nothing is left out past the end

pub without_none : (es : List Event) (n : ℕ) → length es ≤ n → without n es ≡ es
unfolding without
without_none [] n h = refl
without_none (e ∷ es) zero h = absurd (omega arith)
without_none (e ∷ es) (suc n) h = ap (λ (l : List Event). e ∷ l) (without_none es n (omega arith))

pub all_events_run : (ws : List ℕ) (n : ℕ) → without n (events_of n ws) ≡ events_of n ws
all_events_run ws n = without_none (events_of n ws) n (let l = events_length n ws in omega arith)

pub without_length : (es : List Event) (k : ℕ) → length (without k es) ≤ length es
unfolding without
without_length [] k = omega arith
without_length (e ∷ es) zero = omega arith
without_length (e ∷ es) (suc k) = let h = without_length es k in omega arith
