-- The position at which a started call stands. Assumes nothing.
use Rattle.std.specs.Prelude.{◌≡◌, refl, true, false, ℕ}
use Rattle.spec.specs.declared.Call.{Call}
use Rattle.spec.specs.declared.Call.TheVariants.{Insert, Remove, Contains, Grow, Shrink}
use Rattle.spec.specs.Machine.{fresh_task}
use Rattle.spec.specs.Entries.{started}
use Rattle.model.specs.Heap.{Heap}
use Rattle.spec.specs.History.{set_call}
use Rattle.model.specs.Positions.{at_12, at_32, at_20, Position, lookup, update, resize}
use Rattle.model.specs.Runs.{FirstPosition, first_contains, first_update, first_resize}
use Rattle.linear.specs.Represents.{Records}
use Rattle.linear.specs.KnownNodes.{Names, takes_at, nothing}
use Rattle.linear.specs.Matches.{Matches}
use Rattle.linear.specs.StartedAs.{StartedAs}

-- ---- first lines
abbrev pub first_of : Call → ℕ → Position
first_of Insert k = update true k at_32
first_of Remove k = update false k at_32
first_of Contains k = lookup k at_12
first_of Grow k = resize true at_20
first_of Shrink k = resize false at_20

pub is_first : (c : Call) (k : ℕ) → FirstPosition (first_of c k)
is_first Insert k = first_update true k
is_first Remove k = first_update false k
is_first Contains k = first_contains k
is_first Grow k = first_resize true
is_first Shrink k = first_resize false

pub first_names : (c : Call) (k x : ℕ) → ¬ Names (first_of c k) x
first_names Insert k x n = n
first_names Remove k x n = n
first_names Contains k x n = n
first_names Grow k x n = n
first_names Shrink k x n = n

pub first_takes : (c : Call) (k : ℕ) → takes_at (first_of c k) ≡ nothing
first_takes Insert k = refl
first_takes Remove k = refl
first_takes Contains k = refl
first_takes Grow k = refl
first_takes Shrink k = refl

pub first_match : (h : Heap) (R : Records) (c : Call) (k : ℕ) → Matches h R (first_of c k) (started c k)
unfolding started fresh_task
first_match h R Insert k = (record { runs = refl; call≡ = refl; tag≡ = refl; line≡ = refl }, refl)
first_match h R Remove k = (record { runs = refl; call≡ = refl; tag≡ = refl; line≡ = refl }, refl)
first_match h R Contains k = record { runs = refl; call≡ = refl; tag≡ = refl; line≡ = refl }
first_match h R Grow k = (record { runs = refl; call≡ = refl; tag≡ = refl; line≡ = refl }, refl)
first_match h R Shrink k = (record { runs = refl; call≡ = refl; tag≡ = refl; line≡ = refl }, refl)

pub first_started : (c : Call) (k n s : ℕ) → n ≡ s → StartedAs (record { call = c; tag = k; start = n }) (first_of c k) s
unfolding set_call
first_started Insert k n s e = (refl, refl, e)
first_started Remove k n s e = (refl, refl, e)
first_started Contains k n s e = (refl, refl, e)
first_started Grow k n s e = refl
first_started Shrink k n s e = refl
