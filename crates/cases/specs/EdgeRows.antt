-- Rows at the edges of the pools and of the enums: numbers for calls, answers and outputs; listed sizes and their neighbours; all 32 places;
-- an unused node's predecessor; buckets from 64 on. Assumes nothing.
use Rattle.std.specs.Prelude.{ℕ, ◌≡◌, refl, [], ◌∷◌, ◌++◌, map, true, false, replicate, Ok, Err}
use Rattle.spec.specs.declared.Refusal.TheVariants.{Withdrawn}
use Rattle.spec.specs.declared.Answer.TheVariants.{Yes, No, Full, Done, Lost, Limit}
use Rattle.spec.specs.declared.Call.TheVariants.{Insert, Remove, Contains, Grow, Shrink}
use Rattle.spec.specs.declared.Progress.TheVariants.{At}
use Rattle.spec.specs.Lists.{range}
use Rattle.spec.specs.Numbers.{call_number, answer_number, output_words}
use Rattle.spec.specs.Machine.{Machine}
use Rattle.spec.specs.Sound.{listed_size, sound}
use Rattle.spec.specs.Held.{free_bucket}
use Rattle.spec.specs.Entries.{show}
use Rattle.spec.specs.Everything.{everything}
use Rattle.spec.specs.Rows.{ended, counted}
use Rattle.spec.specs.WholeRows.{node, bucket, yard, whole_rows}

-- ---- numbers

pub numbers :
    (map call_number (Insert ∷ Remove ∷ Contains ∷ Grow ∷ Shrink ∷ []) ≡ range 1 5)
    × (map answer_number (Yes ∷ No ∷ Full ∷ Done ∷ Lost ∷ Limit ∷ []) ≡ range 1 6)
unfolding everything
numbers = (refl, refl)

-- an output's four words: the line; the answer, then own steps, then tags; the refusal
pub output_rows :
    map output_words (Ok (At 36) ∷ counted Full 24 64 ∷ counted No 12 0 ∷ ended Done 292 ∷ ended Limit 1 ∷ Err Withdrawn ∷ [])
    ≡ (0 ∷ 36 ∷ 0 ∷ 0 ∷ []) ∷ (1 ∷ 3 ∷ 24 ∷ 64 ∷ []) ∷ (1 ∷ 2 ∷ 12 ∷ 0 ∷ []) ∷ (1 ∷ 4 ∷ 292 ∷ 0 ∷ []) ∷ (1 ∷ 6 ∷ 1 ∷ 0 ∷ []) ∷ (2 ∷ 14 ∷ 0 ∷ 0 ∷ []) ∷ []
output_rows = refl

-- ---- sizes

pub listed_sizes :
    map listed_size (0 ∷ 1 ∷ 2 ∷ 3 ∷ 4 ∷ 5 ∷ 6 ∷ 7 ∷ 8 ∷ 12 ∷ 16 ∷ 24 ∷ 31 ∷ 32 ∷ 33 ∷ 48 ∷ 64 ∷ [])
    ≡ false ∷ true ∷ true ∷ false ∷ true ∷ false ∷ false ∷ false ∷ true ∷ false ∷ true ∷ false ∷ false ∷ true ∷ false ∷ false ∷ false ∷ []
unfolding everything
listed_sizes = refl

-- a node of 6 or 48 places, or of 3, spoils the memory; one of 2 does not
pub unlisted_spoils :
    map (λ n. sound (yard 0 0 0 (node 1 0 (1 ∷ []) ∷ node n 0 [] ∷ []) (bucket 1 [] ∷ []) [])) (2 ∷ 3 ∷ 6 ∷ 48 ∷ [])
    ≡ true ∷ false ∷ false ∷ false ∷ []
unfolding everything whole_rows
unlisted_spoils = refl

-- ---- an unused node: one of size 0. Its predecessor is judged like any other's: none, a used one, itself, one past the pool

pub unused_predecessor :
    map (λ p. sound (yard 0 0 0 (node 1 0 (1 ∷ []) ∷ node 0 p [] ∷ []) (bucket 1 [] ∷ []) [])) (0 ∷ 1 ∷ 2 ∷ 3 ∷ [])
    ≡ true ∷ true ∷ false ∷ false ∷ []
unfolding everything whole_rows
unused_predecessor = refl

-- ---- a head of 32 places whose place i alone has a bucket, number 1: the bucket is held and the next one taken is 2, which has link 3

unfoldable pub placed_at : ℕ → Machine
placed_at i = yard 0 0 0 (node 32 0 (replicate i 0 ++ 2 ∷ []) ∷ []) (bucket 0 [] ∷ bucket 1 [] ∷ bucket 0 [] ∷ []) []

pub held_by_place : map (λ i. free_bucket (placed_at i)) (range 0 32) ≡ replicate 32 3
unfolding everything whole_rows placed_at
held_by_place = refl

-- the last of 32 places is judged too: bucket 0 is in a pool of one, bucket 1 is past it
pub last_place_judged :
    map (λ l. sound (yard 0 0 0 (node 32 0 (replicate 31 0 ++ l ∷ []) ∷ []) (bucket 1 [] ∷ []) [])) (1 ∷ 2 ∷ []) ≡ true ∷ false ∷ []
unfolding everything whole_rows
last_place_judged = refl

-- ---- a show of a bucket past 63: the pool has 66, of which the last two have tags

unfoldable pub many : Machine
many = yard 0 0 0 (node 1 0 (1 ∷ []) ∷ []) (replicate 64 (bucket 1 []) ++ bucket 1 (5 ∷ 6 ∷ []) ∷ bucket 0 (7 ∷ []) ∷ []) []

pub shown : map (show many) (0 ∷ 63 ∷ 64 ∷ 65 ∷ 66 ∷ 4294967295 ∷ []) ≡ [] ∷ [] ∷ (5 ∷ 6 ∷ []) ∷ (7 ∷ []) ∷ [] ∷ [] ∷ []
unfolding everything whole_rows many
shown = refl
