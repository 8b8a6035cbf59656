-- What request U10 promises of every schedule, whatever T, whatever stood in the slice before an accepted opening, and whatever starts and
-- steps follow, accepted or refused.
--
--   linearizable    the ended calls, and some still running, have an order that respects real time, in which the atomic bucket of Figure 1
--                   gives exactly their answers
--   at_most_once    each operation is put into one version of the bucket at most, and makes at most one new one
--   never_8         no start or step is refused with 8: memory that an opening made never counts as spoilt
--   no_65th_tag     no version needs a 65th tag
--   sound_after     the words stay in order
--
-- How many versions suffice is in coop_laws (Enough, suffices_iff), of any memory, as are the refusals (Refusals).
--
-- The types are those of coop_spec's Linearizable. They hold because the words simulate a heap without records and reuse (Schedules), and
-- every run of that heap has such an order (Linearization). Assumes nothing.
use Rattle.std.specs.Prelude.{ℕ, true, List, ◌≡◌}
use Rattle.std.proofs.Common.{inl, inr, ◌∙◌, ap, subst}
use Rattle.coop_spec.specs.declared.Refusal.TheVariants.{Spoilt}
use Rattle.coop_spec.specs.Entries.{opening}
use Rattle.coop_spec.specs.History.{Occurrence, history}
use Rattle.coop_spec.specs.Linearizable.{AtMostOnce, Linearizable, Never, No65thTag, StillRuns}
use Rattle.coop_spec.specs.Machine.{Machine}
use Rattle.coop_spec.specs.Schedule.{Event, schedule}
use Rattle.coop_spec.specs.Sound.{sound}
use Rattle.coop_spec.specs.declared.Task.{Task}
use Rattle.coop_linear.specs.Events.{Before}
use Rattle.coop_model.proofs.Linearization.{invariant}
use Rattle.coop_model.specs.Positions.{call_at, runs}
use Rattle.coop_linear.specs.Schedules.{same_machine, schedule_simulated, types_at_end}
use Rattle.coop_linear.specs.Simulates.{no_65th, sound_now}
use Rattle.coop_linear.specs.TaskImages.{image_runs}

module _ (t : ℕ) (ws : List ℕ) (ok : (opening t ws).refusal ≡ 0) (es : List Event) where
  before : Before (types_at_end t ws ok es) (schedule_simulated t ws ok es).0.0 (history t ws es)
  before = (schedule_simulated t ws ok es).0.1

  pub linearizable : Linearizable t ws es
  linearizable =
      let z = before in
      let i = invariant z.reach in
      record {
        order = i.0;
        answers = i.1.answers;
        timely = rw z.ended i.1.timely;
        once = i.1.once;
        ended = λ d x. i.1.ended d (rw z.ended at x);
        others = λ e x. elim (i.1.ended_or_runs e x) [ inl a ↦ inl (a.0, rw z.ended a.1, a.2) | inr a ↦ inr (still_runs e a) ];
      }
    where
      still_runs : (e : Occurrence)
          → (before.configuration.start e.task ≡ e.start) × (call_at (before.configuration.position e.task) ≡ runs e.call)
          → StillRuns (history t ws es) e
      still_runs e a =
          let m = before.sim.images e.task in (
            ap (λ (c : Task). c.running) m.1 ∙ image_runs (types_at_end t ws ok es) before.sim.slot m.0
                (before.configuration.position e.task) a.1,
            before.start≡ e.task ∙ a.0,
            before.call≡ e.task e.call a.1,
          )

  pub at_most_once : AtMostOnce t ws es
  at_most_once = record { claimed = before.claimed.twice_none; installed = before.installed.twice_none }

  pub never_8 : Never Spoilt (schedule t ws es).outs
  never_8 = (schedule_simulated t ws ok es).1

  pub no_65th_tag : No65thTag (schedule t ws es).machine
  no_65th_tag = subst No65thTag (same_machine t ws ok es) (no_65th before.sim (invariant before.reach).1)

  pub sound_after : sound (schedule t ws es).machine ≡ true
  sound_after = subst (λ (y : Machine). sound y ≡ true) (same_machine t ws ok es) (sound_now before.sim (invariant before.reach).1)
