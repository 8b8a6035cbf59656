-- Events read one after the other from their words: event i of n, and none after the last. Assumes nothing.
use Rattle.std.specs.Prelude.{ℕ, zero, suc, ◌+◌, ◌*◌, ◌-◌, ◌≤◌, ◌<◌, ◌≡◌, refl, List, [], ◌∷◌, length, get_or, drop}
use Rattle.std.proofs.Common.{ap, arith, get_or-drop, drop-drop}
use Rattle.spec.specs.Schedule.{Event}
use Rattle.schedule_events.specs.Events.{event_of, events_of}

pub events_length : (n : ℕ) (w : List ℕ) → length (events_of n w) ≡ n
unfolding events_of
events_length zero w = refl
events_length (suc n) w = ap suc (events_length n (drop 4 w))

-- event i, from 0
abbrev pub event_at : List ℕ → ℕ → Event
event_at ws i = event_of (get_or ws (4 * i) 0) (get_or ws (4 * i + 1) 0) (get_or ws (4 * i + 2) 0)

pub events_on : (ws : List ℕ) (n i : ℕ) → i < n
    → events_of (n - i) (drop (4 * i) ws) ≡ event_at ws i ∷ events_of (n - (i + 1)) (drop (4 * (i + 1)) ws)
unfolding events_of
events_on ws n i h =
    let less : n - i ≡ suc (n - (i + 1)) = omega arith in
    let z : 4 * i + 0 ≡ 4 * i = omega arith in
    let q : 4 * i + 4 ≡ 4 * (i + 1) = omega arith in
    rw (less, get_or-drop (4 * i) ws 0 0, z, get_or-drop (4 * i) ws 1 0, get_or-drop (4 * i) ws 2 0, drop-drop 4 (4 * i) ws, q)

pub events_end : (n i : ℕ) → n ≤ i → (v : List ℕ) → events_of (n - i) v ≡ []
unfolding events_of
events_end n i h v = let z : n - i ≡ 0 = omega arith in rw z
