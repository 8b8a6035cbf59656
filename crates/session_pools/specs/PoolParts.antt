-- The part of the lent pools that a session uses. Assumes nothing.
use Rattle.std.specs.Prelude.{ℕ, ◌*◌, List, ◌&&◌, leb, length, take, if◌then◌else◌}
use Rattle.spec.specs.Sound.{within}
use Rattle.session.specs.declared.Header.{Header}

-- how many words serve n records: none where n is out of bounds ("nodes outside 1 to 64 give 2, buckets outside 1 to 200 give
-- 3"), or where the lent pool is too short
unfoldable pub extent : ℕ → ℕ → ℕ → ℕ → ℕ
extent width most n words = if within 1 most n && leb (width * n) words then (width * n) else 0

abbrev pub node_extent : Header → List ℕ → ℕ
node_extent h ns = extent 34 64 h.nodes (length ns)

abbrev pub bucket_extent : Header → List ℕ → ℕ
bucket_extent h bs = extent 66 200 h.buckets (length bs)

abbrev pub node_part : Header → List ℕ → List ℕ
node_part h ns = take (node_extent h ns) ns

abbrev pub bucket_part : Header → List ℕ → List ℕ
bucket_part h bs = take (bucket_extent h bs) bs
