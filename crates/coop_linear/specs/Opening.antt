-- What an accepted opening leaves simulates the first configuration of the model. Assumes nothing.
use Rattle.std.specs.Prelude.{◌%◌, ◌*◌, ◌+◌, ◌/◌, ◌≤◌, suc, zero, ℕ, not, List, [], ◌≡◌, eqb, leb, get_or, length, replicate}
use Rattle.std.proofs.Math.Logic.{inl}
use Rattle.std.proofs.Common.{inr, ◌∙◌, arith, leb-true}
use Rattle.std.proofs.Math.Path.{ap, refl, sym}
use Rattle.std.proofs.lemmas.Bool.{not-false}
use Rattle.std.proofs.Math.ListN.{length-replicate}
use Rattle.spec.specs.Entries.{pool_fits}
use Rattle.spec.specs.Lists.{ascending}
use Rattle.spec.specs.Sound.{within}
use Rattle.spec.specs.Words.{count, tags}
use Rattle.laws.specs.Tests.{and_left, and_right, choose}
use Rattle.coop_spec.specs.Atomic.{Operations}
use Rattle.coop_spec.specs.Entries.{Opened, fresh_machine, not_opened, opening}
use Rattle.coop_spec.specs.History.{no_history}
use Rattle.coop_spec.specs.Machine.{idle, never_invoked, operation_of, state_of, task_of}
use Rattle.coop_spec.specs.Words.{op_word, tags_of}
use Rattle.coop_spec.specs.declared.Operation.{Operation}
use Rattle.coop_linear.specs.Events.{Before}
use Rattle.coop_model.specs.HeapInvariant.{nil_not_op}
use Rattle.coop_model.specs.Invariant.{not_running, nothing_in}
use Rattle.coop_linear.specs.Named.{Known}
use Rattle.coop_model.specs.Positions.{no_call}
use Rattle.coop_linear.specs.Represents.{Represents}
use Rattle.coop_model.specs.Runs.{Reachable, first_configuration, first_heap}
use Rattle.coop_linear.specs.Simulates.{Simulates}
use Rattle.coop_laws.specs.SoundFacts.{MemoryFacts, no_operation}

same_getD : {A : Type 0} (x : A) (n i : ℕ) → get_or (replicate n x) i x ≡ x
same_getD x zero i = refl
same_getD x (suc n) zero = refl
same_getD x (suc n) (suc i) = same_getD x n i

module _ (T : Operations) (t v : ℕ) (T_low : 1 ≤ t) (T_high : t ≤ 8) (v_low : 1 ≤ v) (v_high : v ≤ 1024) where
  no_operation_yet : (n : ℕ) → operation_of (fresh_machine t v) n ≡ never_invoked
  unfolding operation_of fresh_machine state_of
  no_operation_yet n = same_getD never_invoked 64 n

  zero_kind : (n : ℕ) → (operation_of (fresh_machine t v) n).kind ≡ 0
  unfolding never_invoked
  zero_kind n = ap (λ (q : Operation). q.kind) (no_operation_yet n)

  zero_word : (i : ℕ) → get_or (fresh_machine t v).versions i 0 ≡ 0
  unfolding fresh_machine
  zero_word i = same_getD 0 (66 * v) i

  zero_count : (k : ℕ) → count (fresh_machine t v).versions k ≡ 0
  unfolding count
  zero_count k = zero_word (66 * k + 1)

  no_tags : (k : ℕ) → tags_of (fresh_machine t v) k ≡ []
  unfolding tags_of tags
  no_tags k = rw (zero_count k)

  long : length (fresh_machine t v).versions ≡ 66 * v
  unfolding fresh_machine
  long = length-replicate (66 * v) 0

  fresh_represented : Represents T (fresh_machine t v) first_heap (Known 0 (λ p. no_call)) (λ u. 0)
  unfolding fresh_machine state_of never_invoked op_word
  fresh_represented = record {
    same_node = refl;
    same_flag = refl;
    same_resp = λ n. ap (λ (q : Operation). q.resp) (no_operation_yet n);
    same_done = λ n. ap (λ (q : Operation). q.done) (no_operation_yet n);
    types = λ n d. absurd (d (zero_kind n));
    in_use = λ u m e. absurd (nil_not_op refl e);
    same_op = λ u k. zero_word (66 * 0);
    same_set = λ u k. no_tags 0;
    apart = λ u x k l e. first u k ∙ sym (first x l);
    has_current = inl refl;
    same_returned = λ n. ap (λ (q : Operation). q.returned) (no_operation_yet n);
    below = λ u k. v_low;
    few_in = λ u k. let z = zero_count 0 in omega arith;
    length_right = long;
    operations_64 = length-replicate 64 never_invoked;
  }
    where
      first : (u : ℕ) → Known 0 (λ p. no_call) u → u ≡ 0
      first u (inl e) = e
      first u (inr (q, n)) = absurd n

  fresh_memory : MemoryFacts (fresh_machine t v)
  unfolding fresh_machine state_of never_invoked op_word ascending
  fresh_memory = record {
    T_low = T_low;
    T_high = T_high;
    versions_low = v_low;
    versions_high = v_high;
    last_below = v_low;
    eight_tasks = length-replicate 8 idle;
    kind_known = λ n. let z = zero_kind n in omega arith;
    untouched = λ n e. no_operation_yet n;
    version = λ k b. record {
      op_known = no_operation (let z = zero_word (66 * k) in omega arith);
      few = let z = zero_count k in omega arith;
      ascends = rw (no_tags k) refl;
      zeros_after = λ j a c. zero_word (66 * k + 2 + j);
    };
  }

  pub fresh_simulates : Simulates T (fresh_machine t v) first_heap (λ p. no_call)
  unfolding fresh_machine state_of task_of idle
  fresh_simulates = record {
    slot = λ u. 0;
    rep = fresh_represented;
    memory = fresh_memory;
    images = λ p. (0, same_getD idle 8 p);
    below_T = λ p c e. absurd (not_running e);
    shapes = λ p. tt;
    invoked = λ p n e. absurd (not_running e);
    asked = λ p n e. absurd (not_running e);
  }

-- ---- an accepted opening

pub record Accepted (t : ℕ) (ws : List ℕ) (o : Opened) : Type 0 where
  pub T_low : 1 ≤ t
  pub T_high : t ≤ 8
  pub v_low : 1 ≤ length ws / 66
  pub v_high : length ws / 66 ≤ 1024
  pub machine≡ : o.machine ≡ fresh_machine t (length ws / 66)

pub opening_accepted : (t : ℕ) (ws : List ℕ) → (opening t ws).refusal ≡ 0 → Accepted t ws (opening t ws)
unfolding opening not_opened pool_fits
opening_accepted t ws =
    choose P (not (within 1 8 t)) _ _ (λ x. λ e. absurd (omega arith))
    (λ x. choose P (not (pool_fits 66 1024 (length ws))) _ _ (λ y. λ e. absurd (omega arith))
    (λ y. λ e.
    let a = not-false (within 1 8 t) x in
    let b = and_right (eqb (length ws % 66) 0) _ (not-false (pool_fits 66 1024 (length ws)) y) in
    record {
      T_low = leb-true 1 t (and_left (leb 1 t) _ a);
      T_high = leb-true t 8 (and_right (leb 1 t) _ a);
      v_low = leb-true 1 (length ws / 66) (and_left (leb 1 (length ws / 66)) _ b);
      v_high = leb-true (length ws / 66) 1024 (and_right (leb 1 (length ws / 66)) _ b);
      machine≡ = refl;
    }))
  where
    P : Opened → Type 0
    P o = o.refusal ≡ 0 → Accepted t ws o

pub opening_before : (T : Operations) (t : ℕ) (ws : List ℕ) → (opening t ws).refusal ≡ 0 → Before T 0 (no_history (opening t ws).machine)
opening_before T t ws ok =
    let a = opening_accepted t ws ok in
    record {
      configuration = first_configuration;
      reach = Reachable.opened;
      clock = refl;
      sim = rw a.machine≡ (fresh_simulates T t (length ws / 66) a.T_low a.T_high a.v_low a.v_high);
      start≡ = λ q. refl;
      call≡ = λ q c e. absurd (not_running e);
      ended = refl;
      claimed = record { claimed_in = λ m x. absurd (nothing_in x refl); twice_none = tt };
      installed = record { installed_in = λ m x. absurd (nothing_in x refl); twice_none = tt };
    }
