-- An opening in parts, as the code makes it: the refusal, and what an accepted opening writes. Assumes nothing.
use Rattle.std.specs.Prelude.{ℕ, ◌/◌, ◌≡◌, refl, List, Bool, true, false, not, length, set, replicate, if◌then◌else◌}
use Rattle.spec.specs.declared.Config.{Config}
use Rattle.spec.specs.Sound.{within, version_known}
use Rattle.spec.specs.Entries.{Opened, opening, pool_fits, not_opened, fresh_machine}

-- the refusal of an opening with these lengths of the slices, 0 for none
unfoldable pub refusal_of : Config → ℕ → ℕ → ℕ
refusal_of g n m =
    if not (within 1 8 g.tasks) then 1
    else if not (pool_fits 34 64 n) then 2
    else if not (pool_fits 66 1024 m) then 3
    else if not (version_known g) then 11
    else 0

-- it is the opening's, which asks of the slices only how long they are
pub opening_refusal : (g : Config) (ns bs : List ℕ) → (opening g ns bs).refusal ≡ refusal_of g (length ns) (length bs)
unfolding opening refusal_of not_opened
opening_refusal g ns bs = go (not (within 1 8 g.tasks)) (not (pool_fits 34 64 (length ns))) (not (pool_fits 66 1024 (length bs))) (not (version_known g))
  where
    given : Opened
    given = record { refusal = 0; machine = fresh_machine g (length ns / 34) (length bs / 66) }

    go : (a b c d : Bool)
        → (if a then not_opened 1 ns bs else if b then not_opened 2 ns bs else if c then not_opened 3 ns bs else if d then not_opened 11 ns bs else given).refusal
        ≡ (if a then 1 else if b then 2 else if c then 3 else if d then 11 else 0)
    go true b c d = refl
    go false true c d = refl
    go false false true d = refl
    go false false false true = refl
    go false false false false = refl

-- n words of nodes: node 0 of size 1 places bucket 0
abbrev pub first_node : ℕ → List ℕ
first_node n = set (set (replicate n 0) 0 1) 2 1

-- n words of buckets: bucket 0 is changeable and empty
abbrev pub first_bucket : ℕ → List ℕ
first_bucket n = set (replicate n 0) 0 1
