-- What the code of the versions asks of their words, and what an operation makes of a version. Assumes nothing.
use Rattle.std.specs.Prelude.{ℕ, ◌+◌, ◌*◌, ◌≤◌, ◌≡◌, List, Bool, true, not, ltb, length, drop, if◌then◌else◌}
use Rattle.spec.specs.Words.{bucket_of}
use Rattle.spec.specs.Sound.{count_in_bounds, tags_ascend}
use Rattle.bucket.specs.declared.Bucket.{Bucket}
use Rattle.coop_spec.specs.declared.Operation.{Operation}
use Rattle.coop_spec.specs.Words.{applied}

-- version k is in the pool, and its tags are at most 64 and ascend
pub record Tagged (w : List ℕ) (k : ℕ) : Type 0 where
  pub fits : 66 * k + 66 ≤ length w
  pub few : count_in_bounds (drop (66 * k) w) ≡ true
  pub up : tags_ascend (drop (66 * k) w) ≡ true

-- whether the operation leaves at most 64 tags where these are ts
unfoldable pub has_room : Operation → List ℕ → Bool
has_room q ts = not (ltb 64 (length (applied q ts)))

-- the version that an operation makes of the tags ts, with no operation of its own: the tags stay where there is no room
unfoldable pub made : Operation → List ℕ → Bucket
made q ts = record { words = bucket_of 0 (if ltb 64 (length (applied q ts)) then ts else applied q ts) }
