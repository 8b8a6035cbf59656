-- A whole schedule is simulated: by induction over its events. At its end the listed tags are those of the plain set after the
-- model's order. Assumes nothing.
use Rattle.std.specs.Prelude.{◌≡◌, ℕ, ◌≤◌, ◌<◌, length, drop, Ok, Err}
use Rattle.std.proofs.Common.{sym, ◌∙◌}
use mathlib.Core.List.{List, [], ◌++◌}
use Rattle.spec.specs.declared.Refusal.TheVariants.{ShortList}
use Rattle.spec.specs.declared.Config.{Config}
use Rattle.spec.specs.Machine.{Machine}
use Rattle.spec.specs.Listed.{listed}
use Rattle.spec.specs.Schedule.{Event, run, schedule, run_opened}
use Rattle.laws.specs.SoundFacts.{SoundFacts}
use Rattle.laws.specs.Soundness.{sound_facts}
use Rattle.laws.specs.Listing.{listed_rising, listed_member}
use Rattle.spec.specs.History.{Ended}
use Rattle.model.specs.Runs.{Configuration, Reachable}
use Rattle.model.specs.Linearization.{Invariant}
use Rattle.model.proofs.Linearization.{invariant}
use Rattle.model.specs.Orders.{after_rising, after_few}
use Rattle.laws.specs.SameTags.{rising_same}
use Rattle.linear.specs.ListedTags.{in_set_abs}
use Rattle.linear.specs.Simulates.{Simulates}
use Rattle.spec.specs.Linearizable.{after}
use Rattle.spec.specs.Entries.{list, opening}
use borrow.Author.Tests.{le-ltb, eq-eqb, le-leb, lt-leb}

-- ---- all events
pub record AtEnd (y : Machine) (H : List Ended) : Type 0 where
  pub configuration : Configuration
  pub reach : Reachable configuration
  pub sim : Simulates y configuration.heap configuration.position
  pub ended : H ≡ configuration.ended

-- ---- the listed tags at the end

module _ (y : Machine) (H : List Ended) (z : AtEnd y H) where
  facts : SoundFacts y
  facts = sound_facts y z.sim.sound_now

  -- the plain set after the order has the listed tags
  pub ends_listed : (L : List Ended) → Invariant z.configuration L → after [] L ≡ listed y
  ends_listed L v =
      rising_same (after [] L) (listed y) (after_rising [] L tt) (listed_rising y)
      (λ k. v.same k ∙ sym (in_set_abs v.heap z.sim.rep k) ∙ sym (listed_member y facts k))

  pub few_listed : length (listed y) ≤ 64
  few_listed =
      let i = invariant z.reach in
      let b = after_few [] i.0 i.1.answers in
      rw (ends_listed i.0 i.1) at b

  -- what a list writes, given 64 words or more; and given fewer
  pub list_written : (w : List ℕ) → 64 ≤ length w → list y w ≡ record { says = Ok (length (listed y)); words = listed y ++ drop (length (listed y)) w }
  unfolding list
  list_written w h = rw (z.sim.sound_now, le-ltb 64 (length (listed y)) few_listed, le-leb 64 (length w) h)

  pub list_short : (w : List ℕ) → length w < 64 → list y w ≡ record { says = Err ShortList; words = w }
  unfolding list
  list_short w h = rw (z.sim.sound_now, le-ltb 64 (length (listed y)) few_listed, lt-leb 64 (length w) h)

-- ---- a schedule, from its opening on
module _ (g : Config) (ns bs : List ℕ) (ok : (opening g ns bs).refusal ≡ 0) (es : List Event) where
  pub schedule_runs : schedule g ns bs es ≡ run (opening g ns bs).machine es
  unfolding schedule run_opened
  schedule_runs = rw (eq-eqb (opening g ns bs).refusal 0 ok)
