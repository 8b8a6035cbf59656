-- When a step is refused: 8 for what its own line meets, and 7 for want of a record. Both leave everything as it was.
-- Assumes nothing.
use Rattle.std.specs.Prelude.{◌+◌, [], ◌∷◌, Bool, true, false, not, ◌&&◌, ◌||◌, ltb, leb, eqb, length}
use Rattle.spec.specs.declared.Task.{Task}
use Rattle.spec.specs.declared.Answer.{Answer}
use Rattle.spec.specs.declared.Answer.TheVariants.{Yes, No, Full, Done, Lost, Limit}
use Rattle.spec.specs.Lists.{member}
use Rattle.spec.specs.Machine.{Machine}
use Rattle.spec.specs.Words.{filled}
use Rattle.spec.specs.Sound.{listed_size}
use Rattle.spec.specs.Held.{free_node, free_bucket}
use Rattle.spec.specs.Listed.{size_of, tags_of}
use Rattle.spec.specs.Lines.{frozen, resized, gathered, answer_36}

-- ---- refusal 8: "if its line goes through an empty place, uses a place at or past its node's size, needs a 65th tag in a bucket,
-- or makes a node of an unlisted size"

-- "Lines go through t in 13, 15, 17, 24, 27, 28, 33, 39, 40, 47, 49, 50, 51; s in 16, 43, 46, 47; b in 18, 36; m in 44, 48, 49; n
-- in 52; the new node in 28; the new bucket in 50."
unfoldable pub through_empty : Task → Bool
through_empty c =
    (member c.line (13 ∷ 15 ∷ 17 ∷ 24 ∷ 27 ∷ 28 ∷ 33 ∷ 39 ∷ 40 ∷ 47 ∷ 49 ∷ 50 ∷ 51 ∷ []) && not (filled c.t))
    || (member c.line (16 ∷ 43 ∷ 46 ∷ 47 ∷ []) && not (filled c.s))
    || (member c.line (18 ∷ 36 ∷ []) && not (filled c.b))
    || (member c.line (44 ∷ 48 ∷ 49 ∷ []) && not (filled c.m))
    || (member c.line (52 ∷ []) && not (filled c.n))
    || (member c.line (28 ∷ []) && not (filled c.new_node))
    || (member c.line (50 ∷ []) && not (filled c.new_bucket))

-- "Lines 39, 50 and 51 use t's place i, 46 and 47 the named places of s."
unfoldable pub past_size : Machine → Task → Bool
past_size y c =
    (member c.line (39 ∷ 50 ∷ 51 ∷ []) && leb (size_of y c.t) c.i)
    || (member c.line (46 ∷ []) && leb (size_of y c.s) c.i)
    || (member c.line (47 ∷ []) && leb (size_of y c.s) (c.i + size_of y c.t))

-- the answer with which an insert gains its tag
abbrev pub gains : Answer → Bool
gains Yes = true
gains No = false
gains Full = false
gains Done = false
gains Lost = false
gains Limit = false

-- an insert that would be answered yes, into a changeable bucket of 64 tags
unfoldable pub overfull_36 : Machine → Task → Bool
overfull_36 y c =
    not (frozen y c.b) && eqb c.call 1 && leb 64 (length (tags_of y c.b)) && gains (answer_36 y c)

unfoldable pub overfull_49 : Machine → Task → Bool
overfull_49 y c = ltb 64 (length (gathered y c))

unfoldable pub overfull : Machine → Task → Bool
overfull y c =
    (eqb c.line 36 && overfull_36 y c) || (eqb c.line 49 && overfull_49 y c)

unfoldable pub unlisted_size : Machine → Task → Bool
unlisted_size y c =
    eqb c.line 27 && not (listed_size (resized c.call (size_of y c.t)))

-- the four in the order of paper 01
unfoldable pub unsound_step : Machine → Task → Bool
unsound_step y c =
    through_empty c || (past_size y c || (overfull y c || unlisted_size y c))

-- ---- refusal 7: "line 27 or 49 finds every node or every bucket held"

unfoldable pub all_held : Machine → Task → Bool
all_held y c =
    (eqb c.line 27 && not (filled (free_node y))) || (eqb c.line 49 && not (filled (free_bucket y)))
