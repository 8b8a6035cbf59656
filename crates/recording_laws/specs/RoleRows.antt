-- Which lines of a recording are only compared, of all five roles. What roles a recording's lines have, and what is answered where one of them is
-- another, is in the crate `recording_rows`. Assumes nothing.
use Rattle.std.specs.Prelude.{◌≡◌, refl, [], ◌∷◌, map, true, false}
use Rattle.recording.specs.Recording.{header_role, event_role, output_role, size_role, listing_role}
use Rattle.recording_laws.specs.ReadToEnd.{only_compared}

-- "either an event's output line or a listing line after `size=`", and no other
pub compared :
    map only_compared (header_role ∷ event_role ∷ output_role ∷ size_role ∷ listing_role ∷ []) ≡ false ∷ false ∷ true ∷ false ∷ true ∷ []
unfolding only_compared
compared = refl
