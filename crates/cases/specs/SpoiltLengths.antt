-- Rows of spoilt memory: H, B and the slices' lengths, each wrong by itself, and right at its bound, as SpoiltRows for the other
-- conditions of refusal 8. Assumes nothing.
use Rattle.std.specs.Prelude.{ℕ, ◌*◌, ◌≡◌, refl, List, [], ◌∷◌, ◌++◌, map, replicate}
use Rattle.spec.specs.Machine.{Machine, machine_of, config_of}
use Rattle.spec.specs.Entries.{show}
use Rattle.spec.specs.Everything.{everything}
use Rattle.spec.specs.WholeRows.{config◌H◌B◌head◌last_node◌last_bucket◌tasks◌, node, bucket, whole_rows}
use Rattle.cases.specs.SpoiltRows.{said, refusing, spoilt, sound_with_5}

-- H and B, and after node 0 and bucket 0 so many more words
unfoldable pub long : ℕ → ℕ → ℕ → ℕ → Machine
long h d w x =
    machine_of (config (config_of 2) H h B d head 0 last_node 0 last_bucket 0 tasks [])
    (node 1 0 (1 ∷ []) ++ replicate w 0)
    (bucket 1 (5 ∷ []) ++ replicate x 0)

-- 65 nodes, 1,025 buckets, a word too many or one too few
unfoldable pub spoilt_lengths : List Machine
spoilt_lengths =
    long 65 1 (34 * 64) 0 ∷ long 1 1025 0 (66 * 1024) ∷ long 1 1 1 0 ∷ long 1 1 0 1 ∷ long 2 1 33 0 ∷ long 1 2 0 65 ∷ []

pub lengths_spoilt : map said spoilt_lengths ≡ map spoilt spoilt_lengths
unfolding everything whole_rows said refusing spoilt long spoilt_lengths
lengths_spoilt = refl

unfoldable pub sound_lengths : List Machine
sound_lengths = long 64 1 (34 * 63) 0 ∷ long 1 2 0 66 ∷ []

pub lengths_sound : map said sound_lengths ≡ map sound_with_5 sound_lengths
unfolding everything whole_rows said refusing sound_with_5 long sound_lengths
lengths_sound = refl

-- 1,024 buckets
pub buckets_sound : show (long 1 1024 0 (66 * 1023)) 0 ≡ 5 ∷ []
unfolding everything long
buckets_sound = refl
