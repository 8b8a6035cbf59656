-- The records that a step may write, by the tests of the code, and what is kept of them; a node's words over those of a part. Assumes nothing.
use Prim.Native.Nat.{ℕ}
use mathlib.Core.Path.{◌≡◌, refl}
use mathlib.Core.List.{List}
use native.Mathlib.Omega.{arith}
use borrow.Author.Tests.{eq-eqb, ne_eqb}
use Rattle.spec.specs.declared.Task.{Task}
use Rattle.spec.specs.Machine.{Machine}
use Rattle.spec.specs.Words.{number}
use Rattle.bucket.specs.declared.Bucket.{Bucket}
use Rattle.pool.specs.Pool.{record_at, bucket_at}
use Rattle.held.specs.Held.{node_to_take, bucket_to_take}
use Rattle.undo.specs.declared.Kept.{Kept}
use Rattle.undo.specs.Undo.{node_words, node_of_line, bucket_of_line, written_node, written_bucket, kept_of}

module _ (y : Machine) (c : Task) where
  pub node_at_27 : c.line ≡ 27 → written_node y c ≡ number (node_to_take y)
  unfolding written_node node_of_line
  node_at_27 e = rw (eq-eqb c.line 27 e)

  pub node_else : (c.line ≡ 27 → ⊥) → written_node y c ≡ number c.t
  unfolding written_node node_of_line
  node_else e = rw (ne_eqb c.line 27 e)

  pub bucket_at_49 : c.line ≡ 49 → written_bucket y c ≡ number (bucket_to_take y)
  unfolding written_bucket bucket_of_line
  bucket_at_49 e = rw (eq-eqb c.line 49 e)

  pub bucket_at_36 : c.line ≡ 36 → written_bucket y c ≡ number c.b
  unfolding written_bucket bucket_of_line
  bucket_at_36 e = rw (ne_eqb c.line 49 (λ z. absurd (omega arith)), eq-eqb c.line 36 e)

  pub bucket_at_52 : c.line ≡ 52 → written_bucket y c ≡ number c.n
  unfolding written_bucket bucket_of_line
  bucket_at_52 e = rw (ne_eqb c.line 49 (λ z. absurd (omega arith)), ne_eqb c.line 36 (λ z. absurd (omega arith)), eq-eqb c.line 52 e)

  pub bucket_else : (c.line ≡ 49 → ⊥) → (c.line ≡ 36 → ⊥) → (c.line ≡ 52 → ⊥) → written_bucket y c ≡ number c.m
  unfolding written_bucket bucket_of_line
  bucket_else p q r = rw (ne_eqb c.line 49 p, ne_eqb c.line 36 q, ne_eqb c.line 52 r)

-- a node's words are a record of 34
pub node_record : (p : List ℕ) (k : ℕ) → record_at 34 p k ≡ node_words p k
unfolding record_at node_words
node_record p k = refl

-- the records and their words, one after the other
pub kept_is : (y : Machine) (c : Task) {k d : ℕ} {w : List ℕ} {b : Bucket} → k ≡ written_node y c → w ≡ node_words y.nodes k
    → d ≡ written_bucket y c → b ≡ bucket_at y.buckets d
    → ◌≡◌ {A = Kept} (record { node = k; words = w; bucket = d; contents = b }) (kept_of y c)
unfolding kept_of
kept_is y c p q r s = rw (s, q, r, p)
