-- Rows of the refusals of a step: 8 where its line goes through an empty place, uses a place at or past its node's size or makes a
-- node of an unlisted size (a 65th tag: FullRows; 7, and 8 before 7: RefusalOrderRows). Nothing changes. Assumes nothing.
use Rattle.std.specs.Prelude.{◌≡◌, refl, List, [], ◌∷◌, map, Ok}
use Rattle.spec.specs.declared.Refusal.TheVariants.{Spoilt}
use Rattle.spec.specs.declared.Answer.TheVariants.{No, Lost}
use Rattle.spec.specs.Outputs.{Output}
use Rattle.spec.specs.declared.Progress.TheVariants.{At}
use Rattle.spec.specs.declared.Task.{Task}
use Rattle.spec.specs.Machine.{Machine}
use Rattle.spec.specs.Entries.{step}
use Rattle.spec.specs.Everything.{everything}
use Rattle.spec.specs.Rows.{ended, counted}
use Rattle.spec.specs.WholeRows.{call◌tag◌line◌i◌own◌t◌s◌b◌m◌n◌new_node◌new_bucket◌, node, bucket, yard, Row, told, stepped, refused, whole_rows}

-- node 0 is head with one place, node 1 has two, node 2 has four and is free, and so is bucket 2
unfoldable pub three : Task → Machine
three c =
    yard 0 0 0 (node 1 2 (1 ∷ []) ∷ node 2 0 (1 ∷ 2 ∷ []) ∷ node 4 0 [] ∷ []) (bucket 1 (5 ∷ []) ∷ bucket 1 [] ∷ bucket 0 [] ∷ []) (c ∷ [])

-- ---- an empty place: the line's others are filled

unfoldable pub through_rows : List Row
through_rows =
    map (refused Spoilt three)
    -- t
    (call 3 tag 5 line 13 i 0 own 1 t 0 s 1 b 1 m 1 n 1 new_node 1 new_bucket 1
    ∷ call 3 tag 5 line 15 i 0 own 1 t 0 s 1 b 1 m 1 n 1 new_node 1 new_bucket 1
    ∷ call 3 tag 5 line 17 i 0 own 1 t 0 s 1 b 1 m 1 n 1 new_node 1 new_bucket 1
    ∷ call 4 tag 0 line 24 i 0 own 1 t 0 s 1 b 1 m 1 n 1 new_node 1 new_bucket 1
    ∷ call 4 tag 0 line 27 i 0 own 1 t 0 s 1 b 1 m 1 n 1 new_node 1 new_bucket 1
    ∷ call 4 tag 0 line 28 i 0 own 1 t 0 s 1 b 1 m 1 n 1 new_node 1 new_bucket 1
    ∷ call 1 tag 5 line 33 i 0 own 1 t 0 s 1 b 1 m 1 n 1 new_node 1 new_bucket 1
    ∷ call 1 tag 5 line 39 i 0 own 1 t 0 s 1 b 1 m 1 n 1 new_node 1 new_bucket 1
    ∷ call 1 tag 5 line 40 i 0 own 1 t 0 s 1 b 1 m 1 n 1 new_node 1 new_bucket 1
    ∷ call 1 tag 5 line 47 i 0 own 1 t 0 s 2 b 1 m 1 n 1 new_node 1 new_bucket 1
    ∷ call 1 tag 5 line 49 i 0 own 1 t 0 s 1 b 1 m 1 n 1 new_node 1 new_bucket 1
    ∷ call 1 tag 5 line 50 i 0 own 1 t 0 s 1 b 1 m 1 n 1 new_node 1 new_bucket 1
    ∷ call 1 tag 5 line 51 i 0 own 1 t 0 s 1 b 1 m 1 n 1 new_node 1 new_bucket 1
    -- s
    ∷ call 3 tag 5 line 16 i 0 own 1 t 1 s 0 b 1 m 1 n 1 new_node 1 new_bucket 1
    ∷ call 1 tag 5 line 43 i 0 own 1 t 1 s 0 b 1 m 1 n 1 new_node 1 new_bucket 1
    ∷ call 1 tag 5 line 46 i 0 own 1 t 1 s 0 b 1 m 1 n 1 new_node 1 new_bucket 1
    -- b
    ∷ call 3 tag 5 line 18 i 0 own 1 t 1 s 1 b 0 m 1 n 1 new_node 1 new_bucket 1
    ∷ call 1 tag 5 line 36 i 0 own 1 t 1 s 1 b 0 m 1 n 1 new_node 1 new_bucket 1
    ∷ call 2 tag 5 line 36 i 0 own 1 t 1 s 1 b 0 m 1 n 1 new_node 1 new_bucket 1
    -- m, n
    ∷ call 1 tag 5 line 44 i 0 own 1 t 1 s 1 b 1 m 0 n 1 new_node 1 new_bucket 1
    ∷ call 1 tag 5 line 48 i 0 own 1 t 1 s 1 b 1 m 0 n 1 new_node 1 new_bucket 1
    ∷ call 1 tag 5 line 49 i 0 own 1 t 1 s 1 b 1 m 0 n 1 new_node 1 new_bucket 1
    ∷ call 1 tag 5 line 52 i 0 own 1 t 1 s 1 b 1 m 1 n 0 new_node 1 new_bucket 1
    -- the new node, the new bucket
    ∷ call 4 tag 0 line 28 i 0 own 1 t 1 s 1 b 1 m 1 n 1 new_node 0 new_bucket 1
    ∷ call 1 tag 5 line 50 i 0 own 1 t 1 s 1 b 1 m 1 n 1 new_node 1 new_bucket 0
    ∷ [])

pub through_rows_hold : map stepped through_rows ≡ map told through_rows
unfolding everything whole_rows three through_rows
through_rows_hold = refl

-- ---- each line with the places alone that it goes through: the step is accepted

unfoldable pub sparse : List Task
sparse =
    call 3 tag 5 line 12 i 0 own 1 t 0 s 0 b 0 m 0 n 0 new_node 0 new_bucket 0
    ∷ call 3 tag 5 line 13 i 0 own 1 t 2 s 0 b 0 m 0 n 0 new_node 0 new_bucket 0
    ∷ call 3 tag 5 line 15 i 0 own 1 t 2 s 0 b 0 m 0 n 0 new_node 0 new_bucket 0
    ∷ call 3 tag 5 line 16 i 0 own 1 t 0 s 2 b 0 m 0 n 0 new_node 0 new_bucket 0
    ∷ call 3 tag 5 line 17 i 0 own 1 t 2 s 0 b 0 m 0 n 0 new_node 0 new_bucket 0
    ∷ call 3 tag 5 line 18 i 0 own 1 t 0 s 0 b 2 m 0 n 0 new_node 0 new_bucket 0
    ∷ call 4 tag 0 line 20 i 0 own 1 t 0 s 0 b 0 m 0 n 0 new_node 0 new_bucket 0
    ∷ call 4 tag 0 line 24 i 0 own 1 t 2 s 0 b 0 m 0 n 0 new_node 0 new_bucket 0
    ∷ call 4 tag 0 line 27 i 0 own 1 t 2 s 0 b 0 m 0 n 0 new_node 0 new_bucket 0
    ∷ call 4 tag 0 line 28 i 0 own 1 t 2 s 0 b 0 m 0 n 0 new_node 3 new_bucket 0
    ∷ call 1 tag 5 line 32 i 0 own 1 t 0 s 0 b 0 m 0 n 0 new_node 0 new_bucket 0
    ∷ call 1 tag 5 line 33 i 0 own 1 t 2 s 0 b 0 m 0 n 0 new_node 0 new_bucket 0
    ∷ call 2 tag 5 line 36 i 0 own 1 t 0 s 0 b 2 m 0 n 0 new_node 0 new_bucket 0
    ∷ call 1 tag 5 line 39 i 0 own 1 t 2 s 0 b 0 m 0 n 0 new_node 0 new_bucket 0
    ∷ call 1 tag 5 line 40 i 0 own 1 t 2 s 0 b 0 m 0 n 0 new_node 0 new_bucket 0
    ∷ call 1 tag 5 line 43 i 9 own 1 t 0 s 2 b 0 m 0 n 0 new_node 0 new_bucket 0
    ∷ call 1 tag 5 line 44 i 0 own 1 t 0 s 0 b 0 m 2 n 0 new_node 0 new_bucket 0
    ∷ call 1 tag 5 line 46 i 0 own 1 t 0 s 2 b 0 m 0 n 0 new_node 0 new_bucket 0
    ∷ call 1 tag 5 line 47 i 0 own 1 t 1 s 2 b 0 m 0 n 0 new_node 0 new_bucket 0
    ∷ call 1 tag 5 line 48 i 0 own 1 t 0 s 0 b 0 m 2 n 0 new_node 0 new_bucket 0
    ∷ call 1 tag 5 line 52 i 0 own 1 t 0 s 0 b 0 m 0 n 2 new_node 0 new_bucket 0
    ∷ call 1 tag 5 line 49 i 9 own 1 t 2 s 0 b 0 m 1 n 0 new_node 0 new_bucket 0
    ∷ call 1 tag 5 line 50 i 1 own 1 t 2 s 0 b 0 m 0 n 0 new_node 0 new_bucket 2
    ∷ call 1 tag 5 line 51 i 1 own 1 t 2 s 0 b 0 m 0 n 0 new_node 0 new_bucket 0
    ∷ []

unfoldable pub out_of : Task → Output
out_of c = (step (three c) 0).out

pub sparse_accepted :
    map out_of sparse
    ≡ Ok (At 13) ∷ Ok (At 18) ∷ Ok (At 17) ∷ Ok (At 18) ∷ Ok (At 18) ∷ ended No 2
    ∷ Ok (At 39) ∷ Ok (At 27) ∷ Ok (At 28) ∷ ended Lost 2
    ∷ Ok (At 33) ∷ Ok (At 36) ∷ counted No 2 0
    ∷ Ok (At 40) ∷ Ok (At 51) ∷ Ok (At 44) ∷ Ok (At 49) ∷ Ok (At 47) ∷ Ok (At 48) ∷ Ok (At 52) ∷ Ok (At 49) ∷ Ok (At 50) ∷ Ok (At 51) ∷ Ok (At 36) ∷ []
unfolding everything whole_rows three sparse out_of
sparse_accepted = refl

-- ---- a place at or past its node's size, an unlisted size

unfoldable pub size_rows : List Row
size_rows =
    map (refused Spoilt three)
    -- t's place 2 of two
    (call 1 tag 5 line 39 i 2 own 1 t 2 s 3 b 1 m 1 n 1 new_node 1 new_bucket 1
    ∷ call 1 tag 5 line 50 i 2 own 1 t 2 s 3 b 1 m 1 n 1 new_node 1 new_bucket 1
    ∷ call 1 tag 5 line 51 i 2 own 1 t 2 s 3 b 1 m 1 n 1 new_node 1 new_bucket 1
    ∷ call 4 tag 0 line 51 i 2 own 1 t 2 s 3 b 1 m 1 n 1 new_node 1 new_bucket 1
    ∷ call 1 tag 5 line 39 i 32 own 1 t 2 s 3 b 1 m 1 n 1 new_node 1 new_bucket 1
    -- s's place 2 of two, s's place 0 + 2 and 1 + 1
    ∷ call 1 tag 5 line 46 i 2 own 1 t 3 s 2 b 1 m 1 n 1 new_node 1 new_bucket 1
    ∷ call 1 tag 5 line 47 i 0 own 1 t 2 s 2 b 1 m 1 n 1 new_node 1 new_bucket 1
    ∷ call 1 tag 5 line 47 i 1 own 1 t 1 s 2 b 1 m 1 n 1 new_node 1 new_bucket 1
    -- half of 1
    ∷ call 5 tag 0 line 27 i 0 own 1 t 1 s 0 b 1 m 1 n 1 new_node 0 new_bucket 1
    ∷ [])

pub size_rows_hold : map stepped size_rows ≡ map told size_rows
unfolding everything whole_rows three size_rows
size_rows_hold = refl
