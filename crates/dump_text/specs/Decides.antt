-- Which bucket decides whether a tag is in the set, and that it does (`deciding_decides`). Assumes nothing.
use Rattle.std.specs.Prelude.{ℕ, ◌≡◌, refl, List, Bool, true, false, ◌&&◌, if◌then◌else◌}
use Rattle.std.proofs.Common.{arith}
use Rattle.spec.specs.declared.Config.{Config}
use Rattle.spec.specs.Machine.{Machine}
use Rattle.spec.specs.Words.{link, number, filled, size, pred, place}
use Rattle.spec.specs.Listed.{slot, size_of, pred_of, place_of, place_for, head_of, in_bucket, in_set}

-- node n's place for a tag in a set opened so
abbrev pub place_in : Config → List ℕ → ℕ → ℕ → ℕ
place_in g ns n k = place ns n (slot g k (size ns n))

-- "the head's place k mod size ..; where that place is empty, the predecessor's place k mod (its size) decides": its link, 0 if there is none
unfoldable pub deciding : Config → List ℕ → ℕ → ℕ → ℕ
deciding g ns head k =
    let p = place_in g ns head k in
    let s = pred ns head in
    if filled p then p else (if filled s then place_in g ns (number s) k else 0)

pub deciding_decides : (y : Machine) (k : ℕ) → in_set y k ≡ in_bucket y (deciding y.state.config y.nodes y.state.head k) k
unfolding deciding in_set in_bucket place_for place_of size_of pred_of head_of
deciding_decides y k =
    let h : number (link y.state.head) ≡ y.state.head = omega arith in
    rw h (go (filled p) (filled s))
  where
    p : ℕ
    p = place_in y.state.config y.nodes y.state.head k

    s : ℕ
    s = pred y.nodes y.state.head

    old : ℕ
    old = place_in y.state.config y.nodes (number s) k

    go : (a b : Bool) → (if a then in_bucket y p k else (b && in_bucket y old k)) ≡ in_bucket y (if a then p else (if b then old else 0)) k
    go true b = refl
    go false true = refl
    go false false = refl
