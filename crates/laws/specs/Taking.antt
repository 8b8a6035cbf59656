-- The record that is taken: the first one not held in the cyclic order after the last taken, which is itself the last tried. No
-- record is taken exactly if all are held, which is refusal 7. Assumes nothing.
use Rattle.std.specs.Prelude.{ℕ, zero, suc, ◌+◌, ◌-◌, ◌%◌, ◌≤◌, ◌<◌, ◌≡◌, refl, ◌↔◌, ◌⊎◌, true, false, List, map, if◌then◌else◌}
use Rattle.std.proofs.Common.{◌∙◌, inl, inr, mod-eq_of_lt, mod-lt, le_refl, arith}
use Rattle.std.proofs.Math.Nat.{add-mod_right}
use Rattle.std.proofs.Math.Decide.{ℕ_discrete, dec_lt}
use Rattle.spec.specs.declared.Task.{Task}
use Rattle.spec.specs.Lists.{member, range}
use Rattle.spec.specs.Machine.{Machine}
use Rattle.spec.specs.Words.{link}
use Rattle.spec.specs.Sound.{node_count, bucket_count}
use Rattle.spec.specs.Held.{first_free, cyclic_order}
use Rattle.laws.specs.Tests.{bool?, tf, if_true, if_false}
use Rattle.laws.specs.Held.{HeldNode, HeldBucket}

-- record k is the first one not held after the last taken, going round: `distance` records after it, from 1 up to n, where the last
-- taken itself stands; and every record strictly between is held
pub record FirstFree (Held : ℕ → Type 0) (n last k : ℕ) : Type 0 where
  pub distance : ℕ
  pub after_last : 1 ≤ distance
  pub once_round : distance ≤ n
  pub there : k ≡ (last + distance) % n
  pub not_held : ¬ Held k
  pub held_between : (e : ℕ) → 1 ≤ e → e < distance → Held ((last + e) % n)

-- the link l of the record to be taken, 0 if all are held
pub data Taking (Held : ℕ → Type 0) (n last l : ℕ) : Type 0 where
  none_free : l ≡ 0 → ((k : ℕ) → k < n → Held k) → Taking Held n last l
  takes : (k : ℕ) → l ≡ link k → k < n → FirstFree Held n last k → Taking Held n last l

module _ {Held : ℕ → Type 0} {n last l : ℕ} where
  pub taking_none : Taking Held n last l → (l ≡ 0) ↔ ((k : ℕ) → k < n → Held k)
  taking_none (none_free z all) = (λ e. all, λ h. z)
  taking_none (takes k z h first) = (λ e. absurd (omega arith), λ all. absurd (first.not_held (all k h)))

  pub taking_some : Taking Held n last l → ¬ (l ≡ 0) → (k : ℕ) × (l ≡ link k) × (k < n) × FirstFree Held n last k
  taking_some (none_free z all) e = absurd (e z)
  taking_some (takes k z h first) e = (k, z, h, first)

  pub taking_this : Taking Held n last l → (k : ℕ) → l ≡ link k → FirstFree Held n last k
  taking_this (none_free z all) k e = absurd (omega arith)
  taking_this (takes j z h first) k e = let q : j ≡ k = omega arith in rw q at first

-- "line 27 or 49 finds every node or every bucket held"
pub data AllHeld (y : Machine) (c : Task) : Type 0 where
  all_nodes : c.line ≡ 27 → ((k : ℕ) → k < node_count y → HeldNode y k) → AllHeld y c
  all_buckets : c.line ≡ 49 → ((k : ℕ) → k < bucket_count y → HeldBucket y k) → AllHeld y c

-- ---- the first free one

data Search (held : List ℕ) (at : ℕ → ℕ) (i m r : ℕ) : Type 0 where
  nowhere : r ≡ 0 → ((e : ℕ) → i ≤ e → e < i + m → member (at e) held ≡ true) → Search held at i m r
  found : (d : ℕ) → i ≤ d → d < i + m → r ≡ at d → member (at d) held ≡ false → ((e : ℕ) → i ≤ e → e < d → member (at e) held ≡ true) → Search held at i m r

search_first : (held : List ℕ) (at : ℕ → ℕ) (m i : ℕ) → Search held at i m (first_free held (map at (range i m)))
unfolding first_free range
search_first held at zero i = nowhere refl (λ e p q. absurd (omega arith))
search_first held at (suc m) i = go (bool? (member (at i) held)) (search_first held at m (suc i))
  where
    go : (member (at i) held ≡ true) ⊎ (member (at i) held ≡ false) → Search held at (suc i) m (first_free held (map at (range (suc i) m)))
        → Search held at i (suc m) (if member (at i) held then first_free held (map at (range (suc i) m)) else at i)
    go (inl t) (nowhere z all) = nowhere (if_true (member (at i) held) _ (at i) t ∙ z)
        (λ e p q. elim (ℕ_discrete e i) [ yes r ↦ rw r t | no d ↦ all e (omega arith) (omega arith) ])
    go (inl t) (found d p q z free all) = found d (omega arith) (omega arith) (if_true (member (at i) held) _ (at i) t ∙ z) free
        (λ e p q. elim (ℕ_discrete e i) [ yes r ↦ rw r t | no d ↦ all e (omega arith) q ])
    go (inr t) ih = found i (le_refl i) (omega arith) (if_false (member (at i) held) _ (at i) t) t (λ e p q. absurd (omega arith))

-- every record stands somewhere on the round
pub on_round : (n last : ℕ) → last < n → (k : ℕ) → k < n → (d : ℕ) × (1 ≤ d) × (d ≤ n) × ((last + d) % n ≡ k)
on_round n last below k h = go (dec_lt last k)
  where
    go : Dec (last < k) → (d : ℕ) × (1 ≤ d) × (d ≤ n) × ((last + d) % n ≡ k)
    go (yes p) = let e : last + (k - last) ≡ k = omega arith in (k - last, omega arith, omega arith, rw e (mod-eq_of_lt h))
    go (no m) = let e : last + (k + n - last) ≡ k + n = omega arith in (k + n - last, omega arith, omega arith, rw e (add-mod_right k n ∙ mod-eq_of_lt h))

module _ (Held : ℕ → Type 0) (held : List ℕ) (n last : ℕ) (some-n : 1 ≤ n) (last_below : last < n)
    (means : (k : ℕ) → member (link k) held ≡ true → Held k) (back : (k : ℕ) → Held k → member (link k) held ≡ true) where
  abbrev around : ℕ → ℕ
  around j = link ((last + j) % n)

  pub taking : Taking Held n last (first_free held (cyclic_order n last))
  unfolding cyclic_order
  taking = go (search_first held around n 1)
    where
      go : Search held around 1 n (first_free held (map around (range 1 n))) → Taking Held n last (first_free held (map around (range 1 n)))
      go (nowhere z all) =
          none_free z (λ k h. let d = on_round n last last_below k h in rw d.3 at (means ((last + d.0) % n) (all d.0 d.1 (omega arith))))
      go (found d p q z free all) = takes ((last + d) % n) z (mod-lt (last + d) (omega arith))
          (record {
            distance = d;
            after_last = p;
            once_round = omega arith;
            there = refl;
            not_held = λ h. tf (back ((last + d) % n) h) free;
            held_between = λ e p q. means ((last + e) % n) (all e p q);
          })
