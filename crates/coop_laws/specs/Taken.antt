-- "With the same rules of holding and taking": the version taken is the first one not held in the cyclic order after the last taken; none is
-- taken exactly if every version is held. Assumes nothing.
use Rattle.std.specs.Prelude.{◌<◌, ◌≤◌, ℕ, ◌↔◌, ◌≡◌}
use Rattle.std.proofs.Common.{subst, sym, arith}
use Rattle.spec.specs.Words.{number}
use Rattle.laws.specs.Taking.{Taking, taking, taking_none, taking_some}
use Rattle.coop_spec.specs.Held.{free_version, held_versions}
use Rattle.coop_spec.specs.Machine.{Machine}
use Rattle.coop_spec.specs.Sound.{version_count}
use Rattle.coop_laws.specs.Held.{HeldVersion, held_member, member_held}

module _ (y : Machine) (low : 1 ≤ version_count y) (last_below : y.state.last < version_count y) where
  pub version_taking : Taking (HeldVersion y) (version_count y) y.state.last (free_version y)
  unfolding free_version
  version_taking = taking (HeldVersion y) (held_versions y) (version_count y) y.state.last low last_below (member_held y) (held_member y)

  pub no_version_iff_all_held : (free_version y ≡ 0) ↔ ((k : ℕ) → k < version_count y → HeldVersion y k)
  no_version_iff_all_held = taking_none version_taking

  -- the version taken, by its number
  pub taken_number : ¬ (free_version y ≡ 0) → (number (free_version y) < version_count y) × (¬ HeldVersion y (number (free_version y)))
  taken_number d =
      let (k, link_of, below, first) = taking_some version_taking d in
      let q : number (free_version y) ≡ k = omega arith in
      (subst (λ (x : ℕ). x < version_count y) (sym q) below, subst (λ (x : ℕ). ¬ HeldVersion y x) (sym q) first.not_held)
