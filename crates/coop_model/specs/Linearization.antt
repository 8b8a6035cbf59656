-- Every run of the model has an order of its ended calls, and some still running, that respects real time and in which the atomic bucket of
-- Figure 1 gives the same answers: by induction on the run. Assumes nothing.
use Rattle.std.specs.Prelude.{[], refl}
use Rattle.std.proofs.Common.{arith}
use Rattle.laws.specs.Tests.{tf}
use Rattle.coop_spec.specs.Atomic.{Operations}
use Rattle.coop_model.specs.HeapInvariant.{nil_not_op}
use Rattle.coop_model.specs.Invariant.{Invariant, not_running, nothing_in}
use Rattle.coop_model.specs.Runs.{first_configuration}

pub first_keeps : (T : Operations) → Invariant T first_configuration []
first_keeps T = record {
  heap = record {
    same_ok = refl;
    same_set = refl;
    past_done = λ v a. absurd (omega arith);
    ahead_nil = λ v a. refl;
    claimed_done = λ v m e. absurd (nil_not_op refl e);
    done_claimed = λ m e. absurd (tf e refl);
    done_answered = λ m e. absurd (tf e refl);
    returned_done = λ m e. e;
    one_version = λ v u m e f. absurd (nil_not_op refl e);
    rising = λ v. tt;
    few_tags = λ v a. omega arith;
    numbers_low = λ v m e. absurd (nil_not_op refl e);
  };
  task = λ p. tt;
  freeze_runs = λ e n. absurd (tf e refl);
  numbers_low = λ p n e. absurd (not_running e);
  started_before = λ p. omega arith;
  answers = tt;
  timely = tt;
  all_begun = tt;
  once = tt;
  ended = λ d x. absurd (nothing_in x refl);
  ended_or_runs = λ e x. absurd (nothing_in x refl);
}
