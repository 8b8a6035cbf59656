-- The listing's lines: joined they are what a session prints at the end of its input, `listing_bytes`; and
-- which line stands at each place, `size_first`, `tags_second`, `tag_at`, `none_after`, so that code can make line k alone. Assumes nothing.
use Rattle.std.specs.Prelude.{◌≡◌, refl, List, [], ◌∷◌, ◌++◌, ℕ, zero, suc, ◌<◌, ◌≤◌, length, get_or, drop, replicate, Ok, Err}
use Rattle.std.proofs.Common.{sym, ap, ◌∙◌, append_assoc, append-nil, arith}
use Rattle.spec.specs.declared.Refusal.{Refusal}
use Rattle.spec.specs.Numbers.{refusal_number}
use Rattle.spec.specs.Outputs.{Listing}
use Rattle.spec.specs.Lists.{concat_map}
use Rattle.spec.specs.Machine.{Machine}
use Rattle.spec.specs.Listed.{listed, head_of, size_of}
use Rattle.spec.specs.Entries.{list}
use Rattle.session.specs.Keys.{size_key, tags_key, tag_key}
use Rattle.session.specs.Print.{key_line, refusal_line, tag_lines, listing_lines}
use Rattle.session.specs.Transcript.{final_listing}
use Rattle.recording.specs.Recording.{size_role, listing_role, recorded_line, bytes_of, tag_listing, listing_of, listing}

-- ---- joined

tags_bytes : (ts : List ℕ) → bytes_of (tag_listing ts) ≡ tag_lines ts
unfolding tag_listing tag_lines bytes_of concat_map
tags_bytes [] = refl
tags_bytes (t ∷ ts) = ap (λ (b : List ℕ). key_line tag_key t ++ b) (tags_bytes ts)

bytes_by : (y : Machine) (l : Listing) → bytes_of (listing_of y l) ≡ final_listing y l
unfolding listing_of final_listing listing_lines bytes_of concat_map
bytes_by y (Ok n) =
    let size = key_line size_key (size_of y (head_of y)) in
    let tags = key_line tags_key (length (listed y)) in
    ap (λ (b : List ℕ). size ++ (tags ++ b)) (tags_bytes (listed y)) ∙ sym (append_assoc size tags (tag_lines (listed y)))
bytes_by y (Err r) = append-nil (refusal_line (refusal_number r))

pub listing_bytes : (y : Machine) → bytes_of (listing y) ≡ final_listing y (list y (replicate 64 0)).says
unfolding listing
listing_bytes y = bytes_by y (list y (replicate 64 0)).says

-- ---- by place

tag_from : (ts : List ℕ) (j : ℕ) → j < length ts
    → drop j (tag_listing ts) ≡ recorded_line listing_role (key_line tag_key (get_or ts j 0)) ∷ drop (suc j) (tag_listing ts)
unfolding tag_listing
tag_from [] j h = absurd (omega arith)
tag_from (t ∷ ts) zero h = refl
tag_from (t ∷ ts) (suc j) h = tag_from ts j (omega arith)

none_from : (ts : List ℕ) (j : ℕ) → length ts ≤ j → drop j (tag_listing ts) ≡ []
unfolding tag_listing
none_from [] zero h = refl
none_from [] (suc j) h = refl
none_from (t ∷ ts) zero h = absurd (omega arith)
none_from (t ∷ ts) (suc j) h = none_from ts j (omega arith)

-- where a list call gives a count
module _ (y : Machine) (n : ℕ) (e : (list y (replicate 64 0)).says ≡ Ok n) where
  pub size_first : listing y ≡ recorded_line size_role (key_line size_key (size_of y (head_of y))) ∷ drop 1 (listing y)
  unfolding listing listing_of
  size_first = rw e

  pub tags_second : drop 1 (listing y) ≡ recorded_line listing_role (key_line tags_key (length (listed y))) ∷ drop 2 (listing y)
  unfolding listing listing_of
  tags_second = rw e

  pub tag_at : (j : ℕ) → j < length (listed y)
      → drop (suc (suc j)) (listing y) ≡ recorded_line listing_role (key_line tag_key (get_or (listed y) j 0)) ∷ drop (suc (suc (suc j))) (listing y)
  unfolding listing listing_of
  tag_at j h = rw e (tag_from (listed y) j h)

  pub none_after : (j : ℕ) → length (listed y) ≤ j → drop (suc (suc j)) (listing y) ≡ []
  unfolding listing listing_of
  none_after j h = rw e (none_from (listed y) j h)

-- where it is refused, which does not happen from an opening onward
pub refused_listing : (y : Machine) (r : Refusal) → (list y (replicate 64 0)).says ≡ Err r
    → listing y ≡ recorded_line listing_role (refusal_line (refusal_number r)) ∷ []
unfolding listing listing_of
refused_listing y r e = rw e
