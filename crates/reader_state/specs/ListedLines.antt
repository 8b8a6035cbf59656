-- The listing's line at a place, as bytes. Assumes nothing.
use Rattle.std.specs.Prelude.{ℕ, ◌-◌, List, [], ◌∷◌, eqb, ltb, length, get_or, if◌then◌else◌}
use Rattle.session.specs.Keys.{size_key, tags_key, tag_key}
use Rattle.session.specs.Print.{key_line}
use Rattle.recording.specs.Recording.{RecordedLine}

-- "`size=` the head's size, `tags=` their count, and a `tag=` each": the line at place k, and no byte past the listing's end
unfoldable pub listed_line : ℕ → List ℕ → ℕ → List ℕ
listed_line size ts k =
    if eqb k 0 then key_line size_key size
    else if eqb k 1 then key_line tags_key (length ts)
    else if ltb (k - 2) (length ts) then key_line tag_key (get_or ts (k - 2) 0)
    else []

-- the first of these lines, and no byte where there is none
unfoldable pub first_bytes : List RecordedLine → List ℕ
first_bytes [] = []
first_bytes (p ∷ ps) = p.written
