-- How many accepted steps a call can have made, by its position in the model. An insert or remove makes at most twelve in one pass, from
-- line 32 through at most nine lines of filling to line 36. It makes another pass only if the bucket that line 36 met was frozen, and then
-- that bucket's node is not the head any more: the head has moved since the pass began. A resize fills each place of one node once, of at
-- most 32 places, with at most nine lines each. `base` is the head's number when the count began. Assumes nothing.
use Rattle.std.specs.Prelude.{◌≡◌, refl, Bool, true, false, List, ℕ, suc, ◌+◌, ◌*◌, ◌-◌, ◌≤◌, ◌<◌}
use Rattle.std.proofs.Math.Decide.{ℕ_discrete}
use Rattle.std.proofs.Common.{arith}
use Rattle.spec.specs.declared.Call.{Call}
use Rattle.spec.specs.declared.Call.TheVariants.{Contains, Grow, Shrink}
use Rattle.spec.specs.History.{Ended}
use Rattle.model.specs.PlaceState.{frozen}
use Rattle.model.specs.Heap.{Heap, state_for, slot_in}
use Rattle.model.specs.HeapInvariant.{HeapInvariant, place<}
use Rattle.model.specs.Positions.{Fill, at_39, at_40, at_43, at_44, at_46, at_47, at_48, at_52, at_49, at_50, at_51, Position, no_call, lookup}
use Rattle.model.specs.Positions.{at_12, at_13, at_15, at_16, at_17, at_18, Update, at_32, at_33, at_36, Resize, at_20, at_24, at_27, at_28}
use Rattle.model.specs.Positions.{update, resize}
use Rattle.model.specs.Lines.{FillStep, step_39_empty, step_39_filled, step_40_filled, step_40_none, step_40_grown, step_40_shrunk}
use Rattle.model.specs.Lines.{step_43, step_44, step_46, step_47, step_48, step_52, step_49, step_50_empty, step_50_filled}
use Rattle.model.specs.Lines.{Step, step_12, step_13_filled, step_13_empty, step_15_some, step_15_none, step_16, step_17, step_32, step_33_filled}
use Rattle.model.specs.Lines.{step_33_empty, step_36_frozen, update_fills, step_51_update, step_20, resize_fills, step_51_next, step_51_last}
use Rattle.model.specs.Lines.{step_24_head, step_24_past, step_27_grow, step_27_shrink, step_20_limit, step_28_done, step_28_lost}
use Rattle.model.specs.FillSteps.{fill_head}
use Rattle.model.specs.PositionFacts.{PositionFacts}
use Rattle.linear.specs.KnownNodes.{Names}
use Rattle.linear.specs.StartedAs.{set_of}

-- ---- the call of a position

abbrev pub resize_of : Bool → Call
resize_of true = Grow
resize_of false = Shrink

abbrev pub IsCall : Call → Position → Type 0
IsCall c no_call = ⊥
IsCall c (lookup k l) = c ≡ Contains
IsCall c (update u k l) = c ≡ set_of u
IsCall c (resize u l) = c ≡ resize_of u

-- ---- filling a place takes at most nine lines: those before this one, at most

abbrev pub lines_before : Fill → ℕ
lines_before at_39 = 0
lines_before (at_40 b) = 1
lines_before (at_43 s) = 2
lines_before (at_44 s) = 3
lines_before (at_46 s) = 2
lines_before (at_47 s) = 3
lines_before (at_48 s) = 4
lines_before (at_52 s) = 5
lines_before (at_49 s) = 6
lines_before (at_50 s) = 7
lines_before at_51 = 8

fill_goes_on : {h : Heap} {t i : ℕ} {g : Heap} {l l' : Fill} → FillStep h t i l g l' → lines_before l < lines_before l'
fill_goes_on (step_39_empty e) = omega arith
fill_goes_on (step_39_filled e) = omega arith
fill_goes_on step_40_filled = omega arith
fill_goes_on (step_40_none b n) = omega arith
fill_goes_on (step_40_grown p e) = omega arith
fill_goes_on (step_40_shrunk p e) = omega arith
fill_goes_on step_43 = omega arith
fill_goes_on step_44 = omega arith
fill_goes_on step_46 = omega arith
fill_goes_on step_47 = omega arith
fill_goes_on step_48 = omega arith
fill_goes_on step_52 = omega arith
fill_goes_on step_49 = omega arith
fill_goes_on (step_50_empty e) = omega arith
fill_goes_on (step_50_filled e) = omega arith

-- ---- the most accepted steps that a call can have made until here; hd is the head's number
abbrev pub most_so_far : (hd base : ℕ) → Position → ℕ
most_so_far hd base no_call = 0
most_so_far hd base (lookup k at_12) = 0
most_so_far hd base (lookup k (at_13 t)) = 1
most_so_far hd base (lookup k (at_15 t)) = 2
most_so_far hd base (lookup k (at_16 t)) = 3
most_so_far hd base (lookup k (at_17 t)) = 3
most_so_far hd base (lookup k (at_18 t)) = 4
most_so_far hd base (update u k at_32) = 12 * (hd - base)
most_so_far hd base (update u k (at_33 t)) = 12 * (t - base) + 1
most_so_far hd base (update u k (at_36 t)) = 12 * (t - base) + 11
most_so_far hd base (update u k (Update.filling t i l)) = 12 * (t - base) + 2 + lines_before l
most_so_far hd base (resize u at_20) = 0
most_so_far hd base (resize u (at_24 t)) = 289
most_so_far hd base (resize u (at_27 t)) = 290
most_so_far hd base (resize u (at_28 t n)) = 291
most_so_far hd base (resize u (Resize.filling t i l)) = 1 + 9 * i + lines_before l

-- the node of an insert's or a remove's pass, from line 33 on
abbrev pub PassNode : Position → ℕ → Type 0
PassNode no_call x = ⊥
PassNode (lookup k l) x = ⊥
PassNode (update u k at_32) x = ⊥
PassNode (update u k (at_33 t)) x = x ≡ t
PassNode (update u k (at_36 t)) x = x ≡ t
PassNode (update u k (Update.filling t i l)) x = x ≡ t
PassNode (resize u l) x = ⊥

-- if a pass is at a node that is not the head any more, the head has moved since the count began
abbrev pub BehindMoved : (hd base : ℕ) → Position → Type 0
BehindMoved hd base l = (x : ℕ) → PassNode l x → x < hd → base < hd

-- ---- what is kept of a call that has made m steps
pub record Paced (c : Call) (m hd base : ℕ) (l : Position) : Type 0 where
  pub is_call : IsCall c l
  pub made : m ≤ most_so_far hd base l
  pub behind_moved : BehindMoved hd base l

-- while another task moves the head
most_rises : (hd hd' base : ℕ) (l : Position) → hd ≤ hd' → most_so_far hd base l ≤ most_so_far hd' base l
most_rises hd hd' base no_call le = omega arith
most_rises hd hd' base (lookup k at_12) le = omega arith
most_rises hd hd' base (lookup k (at_13 t)) le = omega arith
most_rises hd hd' base (lookup k (at_15 t)) le = omega arith
most_rises hd hd' base (lookup k (at_16 t)) le = omega arith
most_rises hd hd' base (lookup k (at_17 t)) le = omega arith
most_rises hd hd' base (lookup k (at_18 t)) le = omega arith
most_rises hd hd' base (update u k at_32) le = omega arith
most_rises hd hd' base (update u k (at_33 t)) le = omega arith
most_rises hd hd' base (update u k (at_36 t)) le = omega arith
most_rises hd hd' base (update u k (Update.filling t i l)) le = omega arith
most_rises hd hd' base (resize u at_20) le = omega arith
most_rises hd hd' base (resize u (at_24 t)) le = omega arith
most_rises hd hd' base (resize u (at_27 t)) le = omega arith
most_rises hd hd' base (resize u (at_28 t n)) le = omega arith
most_rises hd hd' base (resize u (Resize.filling t i l)) le = omega arith

behind_stays : (hd hd' base : ℕ) (l : Position) → hd ≤ hd' → base ≤ hd → BehindMoved hd base l → BehindMoved hd' base l
behind_stays hd hd' base l le b p x n lt = go (ℕ_discrete hd hd')
  where
    go : Dec (hd ≡ hd') → base < hd'
    go (yes e) = let q = p x n (omega arith) in omega arith
    go (no d) = omega arith

pub paced_stays : {c : Call} {m hd base : ℕ} (hd' : ℕ) (l : Position) → hd ≤ hd' → base ≤ hd → Paced c m hd base l → Paced c m hd' base l
paced_stays {c} {m} {hd} {base} hd' l le b p =
    let made = p.made in
    let more = most_rises hd hd' base l le in
    record { is_call = p.is_call; made = omega arith; behind_moved = behind_stays hd hd' base l le b p.behind_moved }

-- ---- its own steps
module _ (h : Heap) (inv : HeapInvariant h) (L : List Ended) (r base m : ℕ) (c : Call) where
  -- a frozen bucket is not the head's
  frozen_is_past : (k x : ℕ) → x ≤ h.head → state_for h x k ≡ frozen → x < h.head
  frozen_is_past k x le e = go (ℕ_discrete x h.head)
    where
      go : Dec (x ≡ h.head) → x < h.head
      go (yes q) =
          absurd (inv.head_changeable (slot_in h h.head k) (place< h inv h.head (h.key k) (omega arith)) (rw q at e))
      go (no d) = omega arith

  -- a position with no pass node
  paced : {hd : ℕ} (l : Position) → IsCall c l → suc m ≤ most_so_far hd base l → ((x : ℕ) → ¬ PassNode l x) → Paced c (suc m) hd base l
  paced l i le none = record { is_call = i; made = le; behind_moved = λ x n. absurd (none x n) }

  -- one with the pass node that it had
  paced_at : {hd : ℕ} (l : Position) → IsCall c l → suc m ≤ most_so_far hd base l → BehindMoved hd base l → Paced c (suc m) hd base l
  paced_at l i le b = record { is_call = i; made = le; behind_moved = b }

  pub paced_step : {g : Heap} {l l' : Position} → PositionFacts h L r l → ((x : ℕ) → Names l x → h.size x ≤ 32) → base ≤ h.head
      → Step h l g l' → ¬ (l' ≡ no_call) → Paced c m h.head base l → Paced c (suc m) g.head base l'
  paced_step o sz b step_12 d p = let le = p.made in paced _ p.is_call (omega arith) (λ x n. n)
  paced_step o sz b (step_13_filled f) d p = let le = p.made in paced _ p.is_call (omega arith) (λ x n. n)
  paced_step o sz b (step_13_empty f) d p = let le = p.made in paced _ p.is_call (omega arith) (λ x n. n)
  paced_step o sz b (step_15_some f) d p = let le = p.made in paced _ p.is_call (omega arith) (λ x n. n)
  paced_step o sz b (step_15_none f) d p = let le = p.made in paced _ p.is_call (omega arith) (λ x n. n)
  paced_step o sz b step_16 d p = let le = p.made in paced _ p.is_call (omega arith) (λ x n. n)
  paced_step o sz b step_17 d p = let le = p.made in paced _ p.is_call (omega arith) (λ x n. n)
  paced_step o sz b step_32 d p = let le = p.made in paced_at _ p.is_call (omega arith) (λ x n lt. absurd (omega arith))
  paced_step o sz b (step_33_filled f) d p = let le = p.made in paced_at _ p.is_call (omega arith) p.behind_moved
  paced_step o sz b (step_33_empty f) d p = let le = p.made in paced_at _ p.is_call (omega arith) p.behind_moved
  paced_step o sz b (step_36_frozen {k = k} {x = x} f) d p =
      let le = p.made in
      let lt = frozen_is_past k x o.0 f in
      let moved = p.behind_moved x refl lt in
      paced _ p.is_call (omega arith) (λ x n. n)
  paced_step o sz b (update_fills f) d p =
      let le = p.made in
      let more = fill_goes_on f in
      paced_at _ p.is_call (omega arith) (rw (fill_head f) p.behind_moved)
  paced_step o sz b step_51_update d p = let le = p.made in paced_at _ p.is_call (omega arith) p.behind_moved
  paced_step o sz b step_20 d p = let le = p.made in paced _ p.is_call (omega arith) (λ x n. n)
  paced_step o sz b (resize_fills f) d p = let le = p.made in let more = fill_goes_on f in paced _ p.is_call (omega arith) (λ x n. n)
  paced_step o sz b (step_51_next f) d p = let le = p.made in paced _ p.is_call (omega arith) (λ x n. n)
  paced_step o sz b (step_51_last {t = t} f) d p = let le = p.made in let s = sz t refl in paced _ p.is_call (omega arith) (λ x n. n)
  paced_step o sz b (step_24_head f) d p = let le = p.made in paced _ p.is_call (omega arith) (λ x n. n)
  paced_step o sz b (step_24_past f) d p = let le = p.made in paced _ p.is_call (omega arith) (λ x n. n)
  paced_step o sz b step_27_grow d p = let le = p.made in paced _ p.is_call (omega arith) (λ x n. n)
  paced_step o sz b (step_27_shrink f) d p = let le = p.made in paced _ p.is_call (omega arith) (λ x n. n)
  paced_step o sz b step_20_limit d p = absurd (d refl)
  paced_step o sz b (step_28_done f) d p = absurd (d refl)
  paced_step o sz b (step_28_lost f) d p = absurd (d refl)
