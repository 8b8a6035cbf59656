-- A bucket by value: what add, remove and freeze make of its 66 words, for any words.
-- Assumes nothing.
use Rattle.std.specs.Prelude.{List, ℕ, length, get_or, set, leb, eqb, if◌then◌else◌}
use Rattle.spec.specs.Lists.{add_tag, remove_tag}
use Rattle.spec.specs.Words.{bucket_of}
use Rattle.bucket.specs.declared.Bucket.{Bucket}
use Rattle.bucket.specs.declared.Changed.{Changed}
use Rattle.bucket.specs.declared.Response.{Response}
use Rattle.bucket.specs.declared.Response.TheVariants.{Yes, No, Frozen, Full}
pub use Rattle.bucket_search.specs.Tags.{tags_in}
unfoldable pub use Rattle.bucket_search.specs.Tags.{rank, stands_at, found}

-- the next words and the answer, with the number of tags that these words have
abbrev pub changed : List ℕ → Response → Changed
changed w d = record { bucket = record { words = w }; answer = d; count = length (tags_in w) }

unfoldable pub added : Bucket → ℕ → Changed
added b x =
    if eqb (get_or b.words 0 0) 0 then changed b.words Frozen
    else if found x (tags_in b.words) then changed b.words No
    else if leb 64 (length (tags_in b.words)) then changed b.words Full
    else changed (bucket_of 1 (add_tag x (tags_in b.words))) Yes

unfoldable pub removed : Bucket → ℕ → Changed
removed b x =
    if eqb (get_or b.words 0 0) 0 then changed b.words Frozen
    else if found x (tags_in b.words) then changed (bucket_of 1 (remove_tag x (tags_in b.words))) Yes
    else changed b.words No

abbrev pub frozen_of : Bucket → Bucket
frozen_of b = record { words = set b.words 0 0 }
