-- Rows of how many tags there are: full at 64 listed tags, a bucket of 64, a list of 65. Assumes nothing.
use Rattle.std.specs.Prelude.{ℕ, ◌≡◌, refl, List, [], ◌∷◌, ◌++◌, map, replicate, Ok, Err}
use Rattle.spec.specs.Outputs.{Listing}
use Rattle.spec.specs.declared.Refusal.TheVariants.{Spoilt, ShortList}
use Rattle.spec.specs.declared.Answer.TheVariants.{Yes, No, Full}
use Rattle.spec.specs.declared.Task.{Task}
use Rattle.spec.specs.Lists.{range}
use Rattle.spec.specs.Machine.{Machine, idle}
use Rattle.spec.specs.Entries.{Written, list}
use Rattle.spec.specs.Everything.{everything}
use Rattle.spec.specs.Rows.{counted}
use Rattle.spec.specs.WholeRows.{call◌tag◌line◌i◌own◌t◌s◌b◌m◌n◌new_node◌new_bucket◌, bucket, yard, Row, told, stepped, goes, keeps, ends}
use Rattle.spec.specs.WholeRows.{ends_writing, refused}
use Rattle.spec.specs.EditRows.{by_two, head_node, holding, listing, at_36, line_36_full, line_36_inside, edit_yards}

-- at 49, with these m and n
unfoldable pub at_49 : ℕ → ℕ → Task
at_49 m' n' = call 1 tag 5 line 49 i 0 own 2 t 1 s 0 b 0 m m' n n' new_node 0 new_bucket 0

-- bucket 0 holds 0 to 63, bucket 1 this tag, and then a third bucket
unfoldable pub merged : ℕ → List ℕ → List (List ℕ)
merged k r = bucket 0 (range 0 64) ∷ bucket 0 (k ∷ []) ∷ r ∷ []

unfoldable pub merging : ℕ → Task → Machine
merging k c = yard 0 0 0 (head_node ∷ []) (merged k (bucket 0 [])) (c ∷ [])

unfoldable pub full_rows : List Row
full_rows =
    -- the listed tags are counted, not those of b: 63, then 64 with the tag absent and present, a remove that counts none, and 65
    ends_writing (listing 32 31) (holding (by_two 0 32 ++ 90 ∷ []) (by_two 1 31)) (counted Yes 3 33) (at_36 1 90 1)
    ∷ line_36_full
    ∷ line_36_inside
    ∷ ends_writing (listing 32 32) (listing 31 32) (counted Yes 3 31) (at_36 2 62 1)
    ∷ ends (listing 33 32) (counted Full 3 33) (at_36 1 90 1)
    ∷ ends (listing 33 32) (counted No 3 33) (at_36 1 4 1)
    -- a 65th tag in bucket 2: only an insert that would be answered yes needs it
    ∷ refused Spoilt (listing 1 1) (at_36 1 90 3)
    ∷ ends (listing 1 1) (counted No 3 64) (at_36 1 163 3)
    ∷ ends (listing 1 1) (counted No 3 64) (at_36 2 90 3)
    ∷ ends (listing 32 32) (counted Full 3 64) (at_36 1 90 3)
    -- nor does one that finds its bucket frozen
    ∷ keeps (λ c. yard 0 0 0 (head_node ∷ []) (bucket 0 (range 0 64) ∷ bucket 1 [] ∷ []) (c ∷ []))
    (at_36 1 90 1)
    (call 1 tag 90 line 32 i 0 own 3 t 0 s 0 b 0 m 0 n 0 new_node 0 new_bucket 0)
    -- a union of 64 and one of 65
    ∷ goes (merging 63) (λ c. yard 0 0 2 (head_node ∷ []) (merged 63 (bucket 1 (range 0 64))) (c ∷ []))
    (at_49 1 2)
    (call 1 tag 5 line 50 i 0 own 3 t 1 s 0 b 0 m 1 n 2 new_node 0 new_bucket 3)
    ∷ refused Spoilt (merging 64) (at_49 1 2)
    ∷ []

pub full_rows_hold : map stepped full_rows ≡ map told full_rows
unfolding everything edit_yards at_49 merged merging full_rows
full_rows_hold = refl

-- ---- lists: into so many sevens

unfoldable pub listed_into : ℕ → Machine → Written
listed_into j y = list y (replicate j 7)

abbrev pub written : Listing → List ℕ → Written
written l w = record { says = l; words = w }

pub lists_hold :
    listed_into 66 (listing 2 1 idle) ∷ listed_into 64 (listing 32 32 idle) ∷ listed_into 64 (listing 33 32 idle)
    ∷ listed_into 63 (listing 33 32 idle) ∷ listed_into 63 (listing 2 1 idle) ∷ []
    ≡ written (Ok 3) (0 ∷ 1 ∷ 2 ∷ replicate 63 7) ∷ written (Ok 64) (range 0 64) ∷ written (Err Spoilt) (replicate 64 7)
    ∷ written (Err Spoilt) (replicate 63 7) ∷ written (Err ShortList) (replicate 63 7) ∷ []
unfolding everything edit_yards listed_into
lists_hold = refl
