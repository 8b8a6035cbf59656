-- When a step is refused: 8 for what its own line meets, and 7 for want of a version. Both leave everything as it was. Assumes nothing.
use Rattle.std.specs.Prelude.{[], ◌∷◌, Bool, not, ◌&&◌, ◌||◌, ltb, eqb, length}
use Rattle.spec.specs.Lists.{member}
use Rattle.spec.specs.Words.{filled}
use Rattle.coop_spec.specs.declared.Task.{Task}
use Rattle.coop_spec.specs.Machine.{Machine}
use Rattle.coop_spec.specs.Words.{applied}
use Rattle.coop_spec.specs.Held.{free_version}
use Rattle.coop_spec.specs.Lines.{helped_op, old_set, still_current}

-- ---- refusal 8: the "line goes through an empty place .. needs a 65th tag"

-- lines go through o in 100, 102, 113, 122, 123, 130, 138 and 140, and through the helped operation in 138 to 140. 101 and 139 keep o, and read and
-- write a priority alone
unfoldable pub through_empty : Task → Bool
through_empty c =
    (member c.line (100 ∷ 102 ∷ 113 ∷ 122 ∷ 123 ∷ 130 ∷ 138 ∷ 140 ∷ []) && not (filled c.o))
    || (member c.line (138 ∷ 139 ∷ 140 ∷ []) && not (filled c.helped))

-- line 140 is about to take a version for a set of more than 64 tags
unfoldable pub needs_65th_tag : Machine → Task → Bool
needs_65th_tag y c =
    eqb c.line 140 && still_current y c && ltb 64 (length (applied (helped_op y c) (old_set y c)))

unfoldable pub unsound_step : Machine → Task → Bool
unsound_step y c = through_empty c || needs_65th_tag y c

-- ---- refusal 7: line 140 is about to take a version and finds every version held; the task still stands there

unfoldable pub all_held : Machine → Task → Bool
all_held y c = eqb c.line 140 && still_current y c && not (filled (free_version y))
