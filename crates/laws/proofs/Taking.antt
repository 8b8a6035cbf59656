-- What rests on statements of specs/Taking.antt that a must-fail edit makes false: theorems moved from there as they stood. Assumes nothing.
use Rattle.std.specs.Prelude.{ℕ, ◌<◌, ◌≡◌, ◌↔◌, ◌⊎◌, true, ◌&&◌, eqb}
use Rattle.std.proofs.Common.{inl, inr, eqb-true, eq-eqb}
use Rattle.std.proofs.Math.Bool.{not}
use Rattle.std.proofs.lemmas.Bool.{not-true}
use Rattle.spec.specs.declared.Task.{Task}
use Rattle.spec.specs.Machine.{Machine}
use Rattle.spec.specs.Words.{link, filled}
use Rattle.spec.specs.Sound.{node_count, bucket_count}
use Rattle.spec.specs.Held.{held_nodes, held_buckets, free_node, free_bucket}
use Rattle.spec.specs.StepRefusals.{all_held}
use Rattle.laws.specs.Tests.{and2, and_i, or_e, or_l, or_r}
use Rattle.laws.specs.SoundFacts.{SoundFacts}
use Rattle.laws.specs.Links.{filled_false, false_filled}
use Rattle.laws.specs.Held.{HeldNode, HeldBucket}
use Rattle.laws.proofs.Held.{member_held, member_held_bucket, held_member, held_bucket_member}
use Rattle.laws.specs.Taking.{AllHeld, FirstFree, Taking, taking, taking_none, taking_some, taking_this, all_buckets, all_nodes}

-- ---- the record taken of each pool

module _ (y : Machine) (f : SoundFacts y) where
  pub node_taking : Taking (HeldNode y) (node_count y) y.state.last_node (free_node y)
  unfolding free_node
  node_taking = taking (HeldNode y) (held_nodes y) (node_count y) y.state.last_node f.H_low f.last_node (member_held y) (held_member y f)

  pub bucket_taking : Taking (HeldBucket y) (bucket_count y) y.state.last_bucket (free_bucket y)
  unfolding free_bucket
  bucket_taking = taking (HeldBucket y) (held_buckets y) (bucket_count y) y.state.last_bucket f.B_low f.last_bucket (member_held_bucket y)
      (held_bucket_member y f)

  -- the record taken is the first one not held
  pub taken_node : (k : ℕ) → free_node y ≡ link k → FirstFree (HeldNode y) (node_count y) y.state.last_node k
  taken_node = taking_this node_taking

  pub taken_bucket : (k : ℕ) → free_bucket y ≡ link k → FirstFree (HeldBucket y) (bucket_count y) y.state.last_bucket k
  taken_bucket = taking_this bucket_taking

  -- none is taken exactly if every record is held
  pub no_node_iff_all_held : (free_node y ≡ 0) ↔ ((k : ℕ) → k < node_count y → HeldNode y k)
  no_node_iff_all_held = taking_none node_taking

  pub no_bucket_iff_all_held : (free_bucket y ≡ 0) ↔ ((k : ℕ) → k < bucket_count y → HeldBucket y k)
  no_bucket_iff_all_held = taking_none bucket_taking

  -- what is taken else: a record of the pool
  pub some_node : ¬ (free_node y ≡ 0) → (k : ℕ) × (free_node y ≡ link k) × (k < node_count y) × FirstFree (HeldNode y) (node_count y) y.state.last_node k
  some_node = taking_some node_taking

  pub some_bucket : ¬ (free_bucket y ≡ 0) → (k : ℕ) × (free_bucket y ≡ link k) × (k < bucket_count y)
      × FirstFree (HeldBucket y) (bucket_count y) y.state.last_bucket k
  some_bucket = taking_some bucket_taking

  -- ---- refusal 7

  pub all_held_means : (c : Task) → all_held y c ≡ true → AllHeld y c
  unfolding all_held
  all_held_means c e = go (or_e (eqb c.line 27 && not (filled (free_node y))) (eqb c.line 49 && not (filled (free_bucket y))) e)
    where
      go : ((eqb c.line 27 && not (filled (free_node y))) ≡ true) ⊎ ((eqb c.line 49 && not (filled (free_bucket y))) ≡ true) → AllHeld y c
      go (inl p) =
          let q = and2 (eqb c.line 27) (not (filled (free_node y))) p in
          all_nodes (eqb-true _ _ q.0) (no_node_iff_all_held.0 (filled_false (free_node y) (not-true (filled (free_node y)) q.1)))
      go (inr p) =
          let q = and2 (eqb c.line 49) (not (filled (free_bucket y))) p in
          all_buckets (eqb-true _ _ q.0) (no_bucket_iff_all_held.0 (filled_false (free_bucket y) (not-true (filled (free_bucket y)) q.1)))

  pub means_all_held : (c : Task) → AllHeld y c → all_held y c ≡ true
  unfolding all_held
  means_all_held c (all_nodes p h) =
      or_l (eqb c.line 27 && not (filled (free_node y))) _
      (and_i (eqb c.line 27) (not (filled (free_node y))) (eq-eqb c.line 27 p) (rw (false_filled (free_node y) (no_node_iff_all_held.1 h))))
  means_all_held c (all_buckets p h) =
      or_r (eqb c.line 27 && not (filled (free_node y))) _
      (and_i (eqb c.line 49) (not (filled (free_bucket y))) (eq-eqb c.line 49 p) (rw (false_filled (free_bucket y) (no_bucket_iff_all_held.1 h))))

  -- a step is refused with 7 exactly then
  pub all_held_iff : (c : Task) → (all_held y c ≡ true) ↔ AllHeld y c
  all_held_iff c = (all_held_means c, means_all_held c)
