-- The opening of a session over its part of lent pools is the opening of the definition: `opening_same`; and what an opening
-- leaves is as long as what it was lent: `opening_lengths`. Assumes nothing.
use Rattle.std.specs.Prelude.{◌≡◌, refl, Bool, true, false, not, ◌&&◌, ℕ, ◌-◌, ◌*◌, ◌/◌, ◌≤◌, leb, take, replicate, if◌then◌else◌}
use Rattle.std.proofs.Common.{sym, ◌∙◌, arith, le-leb, leb-true, length-append, length-drop, length-take-le, take_at}
use Rattle.std.proofs.Math.Path.{ap}
use mathlib.Core.List.{List, [], ◌++◌}
use Rattle.std.proofs.Math.ListN.{length, drop}
use Rattle.std.proofs.lemmas.List.{length-replicate}
use Rattle.spec.specs.declared.Config.{Config}
use Rattle.spec.specs.Machine.{Machine, machine_of}
use Rattle.spec.specs.Sound.{within, version_known}
use Rattle.spec.specs.Entries.{Opened, opening, pool_fits, not_opened, fresh_machine}
use Rattle.laws.specs.Tests.{and_right}
use Rattle.laws.specs.OpeningSound.{OpeningOutcome, refused, accepted, opening_outcome}
use Rattle.session.specs.declared.Header.{Header}
use Rattle.session.specs.Transcript.{pool_words}
use Rattle.session_pools.specs.PoolParts.{extent, node_extent, bucket_extent, bucket_part}
use Rattle.session_state.specs.declared.Phase.{Phase}
use Rattle.session_state.specs.Handling.{session_machine, with_machine}

-- ---- the part of a pool

extent_within : (width most n words : ℕ) → extent width most n words ≤ words
unfolding extent
extent_within width most n words = go (within 1 most n) (leb (width * n) words) refl
  where
    go : (a c : Bool) → leb (width * n) words ≡ c → (if a && c then (width * n) else 0) ≤ words
    go true true e = leb-true _ _ e
    go true false e = omega arith
    go false c e = omega arith

pub part_length : (width most n : ℕ) (w : List ℕ) → length (take (extent width most n (length w)) w) ≡ extent width most n (length w)
part_length width most n w = length-take-le (extent width most n (length w)) w (extent_within width most n (length w))

-- in a pool that is long enough for all, it is as long as the words that the definition opens with
pub part_words : (width most n : ℕ) (w : List ℕ) → width * most ≤ length w → (n ≤ most → width * n ≤ width * most)
    → length (take (extent width most n (length w)) w) ≡ length (pool_words width most n)
unfolding extent pool_words
part_words width most n w big mono = part_length width most n w ∙ go (within 1 most n) refl
  where
    go : (a : Bool) → within 1 most n ≡ a
        → (if a && leb (width * n) (length w) then (width * n) else 0) ≡ length {A = ℕ} (if a then replicate (width * n) 0 else [])
    go true q =
        let l : n ≤ most = leb-true _ _ (and_right (leb 1 n) (leb n most) q) in
        let f : width * n ≤ length w = omega (arith, mono l) in
        rw (le-leb _ _ f) (sym (length-replicate (width * n) 0))
    go false q = refl

-- the front of a list, replaced by as many
module _ (xs w : List ℕ) (a : ℕ) (fits : a ≤ length w) (e : length xs ≡ a) where
  front_length : length (xs ++ drop a w) ≡ length w
  front_length = simp (length-append, length-drop) (omega arith)

  front_take : take a (xs ++ drop a w) ≡ xs
  front_take = take_at xs (drop a w) a e

-- a machine put back is the session's machine again
module _ (phase : Phase) (prints : List ℕ) (y : Machine) (h : Header) (ns bs : List ℕ)
    (en : length y.nodes ≡ node_extent h ns) (eb : length y.buckets ≡ bucket_extent h bs) where
  pub machine_back :
      let d = with_machine phase prints y h ns bs in
      session_machine d.session d.nodes d.buckets ≡ y
  unfolding with_machine
  machine_back =
      let a = node_extent h ns in
      let b = bucket_extent h bs in
      let fa : a ≤ length ns = extent_within 34 64 h.nodes (length ns) in
      let fb : b ≤ length bs = extent_within 66 200 h.buckets (length bs) in
      let na = y.nodes ++ drop a ns in
      let nb = y.buckets ++ drop b bs in
      let la : node_extent h na ≡ a = ap (extent 34 64 h.nodes) (front_length y.nodes ns a fa en) in
      let lb : bucket_extent h nb ≡ b = ap (extent 66 200 h.buckets) (front_length y.buckets bs b fb eb) in
      ap (λ (n : ℕ). machine_of y.state (take n na) (bucket_part h nb)) la
      ∙ ap (λ (n : ℕ). machine_of y.state (take a na) (take n nb)) lb
      ∙ ap (λ (l : List ℕ). machine_of y.state l (take b nb)) (front_take y.nodes ns a fa en)
      ∙ ap (λ (l : List ℕ). machine_of y.state y.nodes l) (front_take y.buckets bs b fb eb)

-- ---- an opening

-- it asks only how long the pools are, and an accepted one leaves nothing of what they held
pub record Alike (o o' : Opened) : Type 0 where
  pub refusal : o.refusal ≡ o'.refusal
  pub machine : o.refusal ≡ 0 → o.machine ≡ o'.machine

pub opening_same : (g : Config) (ns bs ns' bs' : List ℕ) → length ns ≡ length ns' → length bs ≡ length bs'
    → Alike (opening g ns bs) (opening g ns' bs')
unfolding opening not_opened
opening_same g ns bs ns' bs' p q =
    rw (p, q)
    (go (not (within 1 8 g.tasks)) (not (pool_fits 34 64 (length ns'))) (not (pool_fits 66 1024 (length bs'))) (not (version_known g)))
  where
    pick : Bool → Bool → Bool → Bool → List ℕ → List ℕ → Opened
    pick a b c d w v =
        if a then not_opened 1 w v
        else if b then not_opened 2 w v
        else if c then not_opened 3 w v
        else if d then not_opened 11 w v
        else record { refusal = 0; machine = fresh_machine g (length ns' / 34) (length bs' / 66) }

    go : (a b c d : Bool) → Alike (pick a b c d ns bs) (pick a b c d ns' bs')
    go true b c d = record { refusal = refl; machine = λ z. absurd (omega arith) }
    go false true c d = record { refusal = refl; machine = λ z. absurd (omega arith) }
    go false false true d = record { refusal = refl; machine = λ z. absurd (omega arith) }
    go false false false true = record { refusal = refl; machine = λ z. absurd (omega arith) }
    go false false false false = record { refusal = refl; machine = λ z. refl }

pub record OpenedLengths (ns bs : List ℕ) (o : Opened) : Type 0 where
  pub nodes : length o.machine.nodes ≡ length ns
  pub buckets : length o.machine.buckets ≡ length bs

pub opening_lengths : (g : Config) (ns bs : List ℕ) → OpenedLengths ns bs (opening g ns bs)
unfolding not_opened fresh_machine
opening_lengths g ns bs = go (opening_outcome g ns bs)
  where
    go : {o : Opened} → OpeningOutcome g ns bs o → OpenedLengths ns bs o
    go (refused n h) = record { nodes = refl; buckets = refl }
    go (accepted config nodes-whole nodes-low nodes-high buckets-whole buckets-low buckets-high) =
        let p : length (replicate {A = ℕ} (34 * (length ns / 34) - 3) 0) ≡ 34 * (length ns / 34) - 3 = length-replicate _ _ in
        let q : length (replicate {A = ℕ} (66 * (length bs / 66) - 1) 0) ≡ 66 * (length bs / 66) - 1 = length-replicate _ _ in
        record { nodes = omega arith; buckets = omega arith }
