-- An opening by its outcome; an accepted one leaves sound memory. Assumes nothing.
use Prim.Native.Nat.{ℕ, zero, suc, ◌+◌, ◌*◌, ◌-◌, ◌%◌, ◌/◌, ◌≤◌}
use Rattle.std.specs.Prelude.{◌≡◌, refl, List, [], true, not, eqb, length, get_or, replicate}
use native.Mathlib.Omega.{arith}
use Rattle.std.proofs.Math.Decide.{ℕ_discrete}
use Rattle.std.proofs.Common.{eqb-true}
use Rattle.std.proofs.lemmas.Bool.{not-false}
use Rattle.std.proofs.lemmas.List.{length-replicate}
use Rattle.spec.specs.declared.Config.{Config}
use Rattle.spec.specs.Lists.{member, ascending}
use Rattle.spec.specs.Machine.{idle, state_of, task_of}
use Rattle.spec.specs.Words.{size, pred, place, changeable, count, tags}
use Rattle.spec.specs.Sound.{listed_size, sound, within, version_known}
use Rattle.spec.specs.Entries.{pool_fits, not_opened, fresh_machine, Opened, opening}
use Rattle.laws.specs.Tests.{choose, and2}
use Rattle.laws.specs.SoundFacts.{NodeFacts, BucketFacts, is_idle, ConfigFacts, SoundFacts}
use Rattle.laws.specs.Sizes.{unused, used}
use Rattle.laws.specs.Soundness.{within_facts, facts_sound}
use Rattle.laws.specs.TaskKeeps.{no_link}

-- ---- opening

replicated : {A : Type 0} (n i : ℕ) (a : A) → get_or (replicate n a) i a ≡ a
replicated zero i a = refl
replicated (suc n) zero a = refl
replicated (suc n) (suc i) a = replicated n i a

module _ (g : Config) (h b : ℕ) (config-ok : ConfigFacts g) (h-low : 1 ≤ h) (h-high : h ≤ 64) (b-low : 1 ≤ b) (b-high : b ≤ 1024) where
  word_0 : (p : ℕ) → 3 ≤ p → get_or (fresh_machine g h b).nodes p 0 ≡ 0
  unfolding fresh_machine
  word_0 p q = let e : p ≡ suc (suc (suc (p - 3))) = omega arith in rw e (replicated (34 * h - 3) (p - 3) 0)

  bword_0 : (p : ℕ) → 1 ≤ p → get_or (fresh_machine g h b).buckets p 0 ≡ 0
  unfolding fresh_machine
  bword_0 p q = let e : p ≡ suc (p - 1) = omega arith in rw e (replicated (66 * b - 1) (p - 1) 0)

  first_node : NodeFacts (fresh_machine g h b) 0
  unfolding size pred place fresh_machine state_of listed_size member
  first_node = record {
    size_ok = used refl;
    pred_ok = no_link (fresh_machine g h b);
    place_ok = λ i p. elim (ℕ_discrete i 0) [ yes q ↦ rw q b-low | no d ↦ rw (word_0 (2 + i) (omega arith)) (omega arith) ];
    past = λ i p q. word_0 (2 + i) (omega arith);
  }

  fresh_node : (k : ℕ) → NodeFacts (fresh_machine g h b) k
  unfolding size pred place
  fresh_node k = go (ℕ_discrete k 0)
    where
      go : Dec (k ≡ 0) → NodeFacts (fresh_machine g h b) k
      go (yes q) = rw q first_node
      go (no d) = record {
        size_ok = unused (word_0 (34 * k) (omega arith));
        pred_ok = rw (word_0 (34 * k + 1) (omega arith)) (no_link (fresh_machine g h b));
        place_ok = λ i p. rw (word_0 (34 * k + 2 + i) (omega arith)) (omega arith);
        past = λ i p q. word_0 (34 * k + 2 + i) (omega arith);
      }

  no_count : (k : ℕ) → count (fresh_machine g h b).buckets k ≡ 0
  unfolding count
  no_count k = bword_0 (66 * k + 1) (omega arith)

  no_tags : (k : ℕ) → tags (fresh_machine g h b).buckets k ≡ []
  unfolding tags
  no_tags k = rw (no_count k)

  fresh_flag : (k : ℕ) → changeable (fresh_machine g h b).buckets k ≤ 1
  unfolding changeable fresh_machine
  fresh_flag zero = omega arith
  fresh_flag (suc k) = rw (bword_0 (66 * suc k) (omega arith)) (omega arith)

  fresh_bucket : (k : ℕ) → BucketFacts (fresh_machine g h b) k
  unfolding ascending
  fresh_bucket k = record {
    flag = fresh_flag k;
    few = rw (no_count k) (omega arith);
    long = rw (no_tags k, no_count k);
    rising = rw (no_tags k);
    after = λ j p q. bword_0 (66 * k + 2 + j) (omega arith);
  }

  fresh_task_sound : (k : ℕ) → task_of (fresh_machine g h b) k ≡ idle
  unfolding task_of fresh_machine state_of
  fresh_task_sound k = replicated 8 k idle

  pub fresh_sound : SoundFacts (fresh_machine g h b)
  unfolding fresh_machine state_of size
  fresh_sound = record {
    config = config-ok;
    H_low = h-low;
    H_high = h-high;
    B_low = b-low;
    B_high = b-high;
    nodes_length = rw (length-replicate {A = ℕ} (34 * h - 3) 0) (omega arith);
    buckets_length = rw (length-replicate {A = ℕ} (66 * b - 1) 0) (omega arith);
    head = h-low;
    last_node = h-low;
    last_bucket = b-low;
    head_sized = λ e. omega arith;
    chosen = let t = config-ok.T_low in omega arith;
    node = λ k q. fresh_node k;
    bucket = λ k q. fresh_bucket k;
    task = λ k. is_idle (fresh_task_sound k);
  }

-- an opening, by its outcome
pub data OpeningOutcome (g : Config) (ns bs : List ℕ) : Opened → Type 0 where
  refused : (n : ℕ) → 1 ≤ n → OpeningOutcome g ns bs (not_opened n ns bs)
  accepted : ConfigFacts g → length ns % 34 ≡ 0 → 1 ≤ length ns / 34 → length ns / 34 ≤ 64 → length bs % 66 ≡ 0 → 1 ≤ length bs / 66 → length bs / 66 ≤ 1024
      → OpeningOutcome g ns bs (record { refusal = 0; machine = fresh_machine g (length ns / 34) (length bs / 66) })

fits_means : (width most words : ℕ) → pool_fits width most words ≡ true → (words % width ≡ 0) × (1 ≤ words / width) × (words / width ≤ most)
unfolding pool_fits
fits_means width most words e =
    let p = and2 (eqb (words % width) 0) (within 1 most (words / width)) e in
    let q = within_facts 1 most (words / width) p.1 in
    (eqb-true (words % width) 0 p.0, q.0, q.1)

pub opening_outcome : (g : Config) (ns bs : List ℕ) → OpeningOutcome g ns bs (opening g ns bs)
unfolding opening
opening_outcome g ns bs =
    choose (OpeningOutcome g ns bs) (not (within 1 8 g.tasks)) _ _ (λ q. refused 1 (omega arith))
    (λ a. choose (OpeningOutcome g ns bs) (not (pool_fits 34 64 (length ns))) _ _ (λ q. refused 2 (omega arith))
    (λ c. choose (OpeningOutcome g ns bs) (not (pool_fits 66 1024 (length bs))) _ _ (λ q. refused 3 (omega arith))
    (λ d. choose (OpeningOutcome g ns bs) (not (version_known g)) _ _ (λ q. refused 11 (omega arith))
    (λ e.
    let x = within_facts 1 8 g.tasks (not-false _ a) in
    let known = within_facts 1 2 g.version (not-false _ e) in
    let v = fits_means 34 64 (length ns) (not-false (pool_fits 34 64 (length ns)) c) in
    let w = fits_means 66 1024 (length bs) (not-false (pool_fits 66 1024 (length bs)) d) in
    let g_ok : ConfigFacts g = record { T_low = x.0; T_high = x.1; version_low = known.0; version_high = known.1 } in
    accepted g_ok v.0 v.1 v.2 w.0 w.1 w.2))))

pub opening_sound : (g : Config) (ns bs : List ℕ) → (opening g ns bs).refusal ≡ 0 → sound (opening g ns bs).machine ≡ true
unfolding not_opened
opening_sound g ns bs e = go (opening_outcome g ns bs) e
  where
    go : {o : Opened} → OpeningOutcome g ns bs o → o.refusal ≡ 0 → sound o.machine ≡ true
    go (refused n h) q = let z : n ≡ 0 = q in absurd (omega arith)
    go (accepted a h i j k l m) q = facts_sound _ (fresh_sound g (length ns / 34) (length bs / 66) a i j l m)

-- an accepted opening leaves the fresh machine, whatever stood in the two slices
pub opened_machine : (g : Config) (ns bs : List ℕ) → (opening g ns bs).refusal ≡ 0 → (opening g ns bs).machine ≡ fresh_machine g (length ns / 34) (length bs / 66)
unfolding not_opened
opened_machine g ns bs e = go (opening_outcome g ns bs) e
  where
    go : {o : Opened} → OpeningOutcome g ns bs o → o.refusal ≡ 0 → o.machine ≡ fresh_machine g (length ns / 34) (length bs / 66)
    go (refused n h) q = let z : n ≡ 0 = q in absurd (omega arith)
    go (accepted a h i j k l m) q = refl
