-- What an accepted opening leaves simulates the model's first configuration. Assumes nothing.
use Rattle.std.specs.Prelude.{◌≡◌, refl, true, List, [], ℕ, zero, suc, ◌*◌, ◌-◌, ◌/◌, length, get_or, replicate}
use Rattle.std.proofs.Math.Path.{sym, ap}
use Rattle.std.proofs.Common.{◌∙◌}
use native.Mathlib.Omega.{arith}
use Rattle.spec.specs.declared.Task.{Task}
use Rattle.spec.specs.declared.Config.{Config}
use Rattle.spec.specs.Lists.{member}
use Rattle.spec.specs.Machine.{idle, state_of, task_of}
use Rattle.spec.specs.Words as Words
use Rattle.spec.specs.Words.{size, pred, place, count, tags}
use Rattle.spec.specs.Sound.{sound}
use Rattle.spec.specs.Listed.{key, slot}
use Rattle.spec.specs.Entries.{fresh_machine, opening}
use Rattle.laws.specs.Soundness.{sound_facts}
use Rattle.laws.specs.Tests.{tf}
use Rattle.model.specs.Positions.{no_call}
use Rattle.model.specs.Runs.{opened, initial, Reachable}
use Rattle.linear.specs.Simulates.{Simulates}
use Rattle.linear.specs.KnownNodes.{Known, head, behind, named}
use Rattle.linear.specs.Events.{Before}
use Rattle.spec.specs.History.{none_started}
use Rattle.laws.specs.OpeningSound.{opened_machine, opening_sound}

pub same_default : {A : Type 0} (n i : ℕ) (a : A) → get_or (replicate n a) i a ≡ a
same_default zero i a = refl
same_default (suc n) zero a = refl
same_default (suc n) (suc i) a = same_default n i a

-- the model is over any rule for what of a tag is taken mod a node's size: here spec's `key`, in a set opened so
only_0 : {rule : ℕ → ℕ} (x : ℕ) → Known (opened rule) (λ p. no_call) x → x ≡ 0
only_0 x (head e) = e
only_0 x (behind l e) = absurd (tf l refl)
only_0 x (named p n) = absurd n

module _ (g : Config) (h b : ℕ) (so : sound (fresh_machine g h b) ≡ true) where
  no_tags : tags (fresh_machine g h b).buckets 0 ≡ []
  unfolding fresh_machine tags count
  no_tags = rw (same_default {A = ℕ} (66 * b - 1) 0 0)

  fresh_simulates : Simulates (fresh_machine g h b) (opened (key g)) (λ p. no_call)
  unfolding fresh_machine state_of size pred place Words.changeable task_of member idle slot
  fresh_simulates = record {
    records = record { node = λ x. 0; bucket = λ x i. 0 };
    sound_now = so;
    eight_tasks = refl;
    rep = record {
      head≡ = refl;
      head_known = head refl;
      pred_known = λ l. absurd (tf l refl);
      known_bound = λ x k. let e = only_0 x k in omega arith;
      node_in_pool = λ x k. (sound_facts (fresh_machine g h b) so).H_low;
      slot≡ = λ k n. refl;
      size≡ = λ x k. refl;
      pred_some = λ l. absurd (tf l refl);
      pred_none = λ x k n. refl;
      place≡ = λ x i k lt. let e : i ≡ 0 = omega arith in rw e;
      first_word≡ = λ x i k lt p. refl;
      tags = λ x i k lt p. record { inside = λ a e. ap (member a) no_tags; outside = λ a e. ap (member a) no_tags };
      node_injective = λ x z k l e. only_0 x k ∙ sym (only_0 z l);
      bucket_injective = λ x i z j k lt p l lt' p' e. (only_0 x k ∙ sym (only_0 z l), omega arith);
    };
    matches = λ p. ap (λ (c : Task). c.running) (same_default 8 p idle);
    taken = λ p. tt;
    buckets_apart = λ p q n a. absurd a;
    nodes_apart = λ p q n a. absurd a;
  }

module _ (g : Config) (ns bs : List ℕ) (ok : (opening g ns bs).refusal ≡ 0) where
  pub opening_simulates : Simulates (opening g ns bs).machine (opened (key g)) (λ p. no_call)
  opening_simulates =
      let e = opened_machine g ns bs ok in
      let so : sound (fresh_machine g (length ns / 34) (length bs / 66)) ≡ true = rw e at (opening_sound g ns bs ok) in
      rw e (fresh_simulates g (length ns / 34) (length bs / 66) so)

  pub opening_before : Before 0 none_started [] (opening g ns bs).machine
  opening_before = record {
    configuration = initial (key g);
    reach = Reachable.initially (key g);
    clock = refl;
    sim = opening_simulates;
    started_as = λ q. tt;
    ended = refl;
  }
