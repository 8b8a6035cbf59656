-- What an accepted line that fills a place comes to in the model, for insert, remove and resizes alike. Assumes nothing.
use Rattle.std.specs.Prelude.{◌≡◌, refl, false, List, ℕ, suc, ◌≤◌, ◌<◌, length}
use Rattle.std.proofs.Common.{inl}
use Rattle.spec.specs.declared.Task.{Task}
use Rattle.spec.specs.Lists.{member}
use Rattle.spec.specs.Machine.{Machine}
use Rattle.spec.specs.Words.{link, set_place, new_bucket}
use Rattle.spec.specs.Words as Words
use Rattle.spec.specs.Sound.{bucket_count}
use Rattle.spec.specs.Lines.{Effect, moves, writes, effect}
use Rattle.spec.specs.StepRefusals.{unsound_step, all_held}
use Rattle.laws.specs.Held.{HeldBucket}
use Rattle.model.specs.PlaceState.{empty, Filled}
use Rattle.model.specs.Heap.{Heap, fill, freeze, slot_in}
use Rattle.model.specs.Positions.{Fill, at_39, at_40, at_43, at_44, at_46, at_47, at_48, at_52, at_49, at_50, at_51}
use Rattle.model.specs.Lines.{FillStep}
use Rattle.linear.specs.Represents.{Represents, NewBucket, Records, with_bucket}
use Rattle.linear.specs.KnownNodes.{FillNames, fill_takes, nothing, bucket}
use Rattle.linear.specs.Matches.{FillMatches}

module _ {y : Machine} {h : Heap} {K : ℕ → Type 0} {R : Records} (rep : Represents y h K R) (call tag t i : ℕ) where
  pub data FillEffectOf (c : Task) (l : Fill) : Effect → Type 0 where
    fill_moves : {c' : Task} (l' : Fill) → FillStep h t i l h l' → ((x : ℕ) → FillNames t l' x → K x) → FillMatches h R call tag t i l' c'
        → fill_takes t i l' ≡ nothing
        → FillEffectOf c l (moves c')
    fill_freezes : {c' : Task} (l' : Fill) (x j : ℕ) → K x → j < h.size x → Filled (h.place x j) → FillStep h t i l (freeze x j h) l'
        → ((x : ℕ) → FillNames t l' x → K x)
        → FillMatches (freeze x j h) R call tag t i l' c' → fill_takes t i l' ≡ nothing → FillEffectOf c l (writes (Words.freeze (R.bucket x j)) c')
    fill_fills : {c' : Task} (l' : Fill) (s r : ℕ) → t ≡ h.head → t ≡ suc s → i < h.size t → h.place t i ≡ empty → fill_takes t i l ≡ bucket s t i
        → c.new_bucket ≡ link r → NewBucket y h K R s t i r
        → FillStep h t i l (fill s t i h) l' → ((x : ℕ) → FillNames t l' x → K x) → FillMatches (fill s t i h) (with_bucket t i r R) call tag t i l' c'
        → fill_takes t i l' ≡ nothing
        → FillEffectOf c l (writes (set_place (R.node t) i (link r)) c')
    fill_takes_bucket : {c' : Task} (s r : ℕ) (ks : List ℕ) → FillStep h t i l h (at_50 s) → ((x : ℕ) → FillNames t (at_50 s) x → K x)
        → FillMatches h R call tag t i (at_50 s) c'
        → c'.new_bucket ≡ link r → r < bucket_count y → ¬ HeldBucket y r → length ks ≤ 64
        → ((k : ℕ) → slot_in h t k ≡ i → member k ks ≡ h.has s k) → ((k : ℕ) → ¬ (slot_in h t k ≡ i) → member k ks ≡ false)
        → FillEffectOf c l (writes (new_bucket r ks) c')

  pub record FillAccepts (c : Task) (l : Fill) : Type 0 where
    pub sound_step : unsound_step y c ≡ false
    pub effect_of : all_held y c ≡ false → FillEffectOf c l (effect y c)

-- the records before line 51
abbrev pub Before51 : Fill → Type 0
Before51 at_39 = Unit {0}
Before51 (at_40 b) = Unit {0}
Before51 (at_43 s) = Unit {0}
Before51 (at_44 s) = Unit {0}
Before51 (at_46 s) = Unit {0}
Before51 (at_47 s) = Unit {0}
Before51 (at_48 s) = Unit {0}
Before51 (at_52 s) = Unit {0}
Before51 (at_49 s) = Unit {0}
Before51 (at_50 s) = Unit {0}
Before51 at_51 = ⊥

-- 51, or a line before it, which names t
pub data Which51 (t : ℕ) : Fill → Type 0 where
  last : Which51 t at_51
  before : {l : Fill} → Before51 l → FillNames t l t → Which51 t l

pub which_51 : (t : ℕ) (l : Fill) → Which51 t l
which_51 t at_39 = before tt refl
which_51 t (at_40 b) = before tt refl
which_51 t (at_43 s) = before tt (inl refl)
which_51 t (at_44 s) = before tt (inl refl)
which_51 t (at_46 s) = before tt (inl refl)
which_51 t (at_47 s) = before tt (inl refl)
which_51 t (at_48 s) = before tt (inl refl)
which_51 t (at_52 s) = before tt (inl refl)
which_51 t (at_49 s) = before tt (inl refl)
which_51 t (at_50 s) = before tt (inl refl)
which_51 t at_51 = last
