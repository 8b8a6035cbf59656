-- What is promised of every schedule, whatever T, whatever stood in the two slices before an accepted opening, and whatever starts and
-- steps follow, accepted or refused.
--
--   linearizable           demand 3: one order of all ended inserts, removes and contains that respects real time, in which a plain set of
--                          at most 64 tags gives exactly their answers, and which ends with exactly the tags that a list then writes
--   never_8, list_never_8  no start, step or list is refused with 8: memory that an opening made never counts as spoilt
--   contains_exact         a contains ends with exactly three own steps if its line 13 answered 18 (a filled place), with exactly five if it
--                          answered 15 (an empty one), has done line 13 once, and does not go on past them
--   sound_after            the words stay in order
--
-- The types are those of spec's Linearizable and ContainsSteps. The first two hold because the words simulate a heap without records and
-- reuse (Schedules), and every run of that heap has such an order (the crate model, Linearization); three or five holds of the words alone
-- (LookupPace, which also has `line_13_tells`: the answer of line 13 says whether the place was filled). Assumes nothing.
use Rattle.std.specs.Prelude.{◌≡◌, true, List, ℕ, ◌≤◌, length, Err}
use Rattle.std.proofs.Common.{ap, arith}
use Rattle.std.proofs.Math.Decide.{dec_le}
use Rattle.laws.specs.RefusalNumbers.{apart}
use Rattle.spec.specs.declared.Refusal.TheVariants.{Spoilt, ShortList}
use Rattle.spec.specs.declared.Config.{Config}
use Rattle.spec.specs.Sound.{sound}
use Rattle.spec.specs.Entries.{Written, list, opening}
use Rattle.spec.specs.Schedule.{Event, schedule}
use Rattle.spec.specs.Linearizable.{Linearizable, NoEight}
use Rattle.spec.specs.ContainsSteps.{ContainsExact}
use Rattle.model.proofs.Linearization.{invariant}
use Rattle.linear.specs.Schedules.{ends_listed, list_written, list_short}
use Rattle.linear.proofs.Schedules.{schedule_simulated}

module _ (g : Config) (ns bs : List ℕ) (ok : (opening g ns bs).refusal ≡ 0) (es : List Event) where
  pub linearizable : Linearizable g ns bs es
  linearizable =
      let z = (schedule_simulated g ns bs ok es).0 in
      let i = invariant z.reach in
      record {
        order = i.0;
        once = rw z.ended i.1.order;
        timely = i.1.timely;
        answers = i.1.answers;
        listed = λ w e. rw (ends_listed _ _ z i.0 i.1) (list_written _ _ z w (omega arith));
      }

  pub never_8 : NoEight (schedule g ns bs es).outs
  never_8 = (schedule_simulated g ns bs ok es).1

  pub list_never_8 : (w : List ℕ) → ¬ ((list (schedule g ns bs es).machine w).says ≡ Err Spoilt)
  list_never_8 w e = go (dec_le 64 (length w))
    where
      go : Dec (64 ≤ length w) → ⊥
      go (yes h) =
          let q = ap (λ (r : Written). r.says) (list_written _ _ (schedule_simulated g ns bs ok es).0 w h) in let z : ◌≡◌ {A = ℕ} 0 1 = cc in omega arith
      go (no h) = let q = ap (λ (r : Written). r.says) (list_short _ _ (schedule_simulated g ns bs ok es).0 w (omega arith)) in
          apart Spoilt ShortList (λ n. omega arith) (cc)

  pub contains_exact : ContainsExact es (schedule g ns bs es).outs
  contains_exact = (schedule_simulated g ns bs ok es).2

  pub sound_after : sound (schedule g ns bs es).machine ≡ true
  sound_after = (schedule_simulated g ns bs ok es).0.sim.sound_now
