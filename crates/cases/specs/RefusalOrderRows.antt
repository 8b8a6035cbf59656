-- Rows of the order of a step's refusals: 7 where every record is held, and 8 before 7 (each 8 of a step: StepRefusalRows).
-- Nothing changes. Assumes nothing.
use Rattle.std.specs.Prelude.{ℕ, ◌≡◌, refl, List, [], ◌∷◌, map}
use Rattle.spec.specs.declared.Refusal.TheVariants.{NoRecord, Spoilt}
use Rattle.spec.specs.declared.Task.{Task}
use Rattle.spec.specs.Machine.{Machine}
use Rattle.spec.specs.Everything.{everything}
use Rattle.spec.specs.WholeRows.{call◌tag◌line◌i◌own◌t◌s◌b◌m◌n◌new_node◌new_bucket◌, node, bucket, yard, Row, told, stepped, refused}
use Rattle.spec.specs.EditRows.{all_taken, line_27_unlisted, edit_yards}

-- t is node 0, of this size, with no predecessor
unfoldable pub sized_t : ℕ → Task → Machine
sized_t sz c = yard 1 0 0 (node sz 0 [] ∷ node 1 0 (1 ∷ []) ∷ node 1 0 [] ∷ []) (bucket 1 (5 ∷ []) ∷ []) (c ∷ [])

unfoldable pub order_rows : List Row
order_rows =
    -- line 47 and no s, where place 0 + 1 of node 0 would be one
    refused Spoilt (sized_t 4) (call 1 tag 5 line 47 i 0 own 1 t 2 s 0 b 1 m 1 n 1 new_node 1 new_bucket 1)
    -- twice 32
    ∷ refused Spoilt (sized_t 32) (call 4 tag 0 line 27 i 0 own 1 t 1 s 0 b 0 m 0 n 0 new_node 0 new_bucket 0)
    -- 7
    ∷ refused NoRecord all_taken (call 4 tag 0 line 27 i 0 own 1 t 1 s 0 b 0 m 0 n 0 new_node 0 new_bucket 0)
    ∷ refused NoRecord all_taken (call 1 tag 5 line 49 i 0 own 1 t 1 s 0 b 0 m 1 n 0 new_node 0 new_bucket 0)
    -- an empty place or an unlisted size, and 7 too: 8
    ∷ refused Spoilt all_taken (call 4 tag 0 line 27 i 0 own 1 t 0 s 0 b 0 m 0 n 0 new_node 0 new_bucket 0)
    ∷ line_27_unlisted
    ∷ refused Spoilt all_taken (call 1 tag 5 line 49 i 0 own 1 t 1 s 0 b 0 m 0 n 0 new_node 0 new_bucket 0)
    ∷ []

pub order_rows_hold : map stepped order_rows ≡ map told order_rows
unfolding everything edit_yards sized_t order_rows
order_rows_hold = refl
