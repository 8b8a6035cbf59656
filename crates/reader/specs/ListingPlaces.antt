-- The lines of the listing: a list call gives at most 64 tags, `lists`, so there are at most 66 lines; each is short and not empty: `place_in`.
-- Assumes nothing.
use Rattle.std.specs.Prelude.{◌≡◌, refl, List, [], ◌∷◌, ◌++◌, Bool, true, false, not, ◌||◌, ℕ, zero, suc, ◌+◌, ◌<◌, ◌≤◌, ltb, leb, length, take, drop, replicate, if◌then◌else◌}
use Rattle.std.proofs.Common.{ap, subst, arith, ltb-false, length-append, length-take, take_at}
use Rattle.std.specs.Prelude.{Ok, Err}
use Rattle.spec.specs.declared.Refusal.{Refusal}
use Rattle.spec.specs.Numbers.{refusal_number}
use Rattle.spec.specs.declared.Refusal.TheVariants.{Spoilt, ShortList}
use Rattle.spec.specs.Outputs.{Listing}
use Rattle.spec.specs.Machine.{Machine}
use Rattle.spec.specs.Sound.{sound}
use Rattle.spec.specs.Listed.{listed}
use Rattle.spec.specs.Entries.{Written, list}
use Rattle.session.specs.Keys.{refuse_key, size_key, tags_key, tag_key}
use Rattle.session.specs.Print.{key_line, refusal_line}
use Rattle.session.specs.OutputLengths.{decimal_length}
use Rattle.recording.specs.Recording.{Role, RecordedLine, recorded_line, tag_listing, listing_of, listing}

-- ---- where a list call gives a count

count_of : (a n : ℕ) → ◌≡◌ {A = Listing} (Ok a) (Ok n) → a ≡ n
count_of a n e = cc

-- it is at most 64, and that many of the words are the tags
pub record Lists (y : Machine) (w : List ℕ) (n : ℕ) : Type 0 where
  pub few : n ≤ 64
  pub tags : take n (list y w).words ≡ listed y

pub lists : (y : Machine) (w : List ℕ) (n : ℕ) → (list y w).says ≡ Ok n → Lists y w n
unfolding list
lists y w n h = let r = go (not (sound y)) (ltb 64 (length (listed y))) (not (leb 64 (length w))) refl h in record { few = r.0; tags = r.1 }
  where
    refused : Refusal → Written
    refused r = record { says = Err r; words = w }

    given : Written
    given = record { says = Ok (length (listed y)); words = listed y ++ drop (length (listed y)) w }

    go : (a b c : Bool) → ltb 64 (length (listed y)) ≡ b → (if a || b then refused Spoilt else if c then refused ShortList else given).says ≡ Ok n
        → (n ≤ 64) × (take n (if a || b then refused Spoilt else if c then refused ShortList else given).words ≡ listed y)
    go true b c p e = let z : ◌≡◌ {A = ℕ} 0 1 = cc in absurd (omega arith)
    go false true c p e = let z : ◌≡◌ {A = ℕ} 0 1 = cc in absurd (omega arith)
    go false false true p e = let z : ◌≡◌ {A = ℕ} 0 1 = cc in absurd (omega arith)
    go false false false p e =
        let k : length (listed y) ≡ n = count_of _ _ e in
        let l : length (listed y) ≤ 64 = ltb-false _ _ p in
        (omega arith, take_at (listed y) _ n k)

-- ---- a place of the listing: there is a line, neither empty nor longer than 41 bytes, or there is none

pub data PlaceIn (k : ℕ) : List RecordedLine → Type 0 where
  no_line : PlaceIn k []
  a_line : {r : RecordedLine} {rs : List RecordedLine} → k < 66 → 1 ≤ length r.written → length r.written ≤ 41 → PlaceIn k (r ∷ rs)

-- these lines, the first of which stands at place k
data LinesFrom : ℕ → List RecordedLine → Type 0 where
  none_from : {k : ℕ} → LinesFrom k []
  line_from : {k : ℕ} {r : RecordedLine} {rs : List RecordedLine} → k < 66 → 1 ≤ length r.written → length r.written ≤ 41 → LinesFrom (suc k) rs
      → LinesFrom k (r ∷ rs)

key_from : {k : ℕ} {rs : List RecordedLine} (role : Role) (key : List ℕ) (n : ℕ) → length key ≤ 20 → k < 66 → LinesFrom (suc k) rs
    → LinesFrom k (recorded_line role (key_line key n) ∷ rs)
unfolding key_line
key_from role key n few h d =
    line_from {r = recorded_line role (key_line key n)} h (simp length-append (omega arith)) (simp length-append (omega (arith, decimal_length n))) d

tags_from : (ts : List ℕ) (k : ℕ) → k + length ts ≤ 66 → LinesFrom k (tag_listing ts)
unfolding tag_listing
tags_from [] k h = none_from
tags_from (t ∷ ts) k h = key_from _ tag_key t (omega arith) (omega arith) (tags_from ts (suc k) (omega arith))

listing_from : (y : Machine) (l : Listing) → (list y (replicate 64 0)).says ≡ l → LinesFrom 0 (listing_of y l)
unfolding listing_of refusal_line
listing_from y (Ok n) e =
    let w : List ℕ = replicate 64 0 in
    let few = lists y w n e in
    let long : length (listed y) ≤ 64 = omega (arith, few.few, ap length few.tags, length-take n (list y w).words) in
    key_from _ size_key _ (omega arith) (omega arith) (key_from _ tags_key _ (omega arith) (omega arith) (tags_from (listed y) 2 (omega arith)))
listing_from y (Err r) e = key_from _ refuse_key (refusal_number r) (omega arith) (omega arith) none_from

place_from : (j k : ℕ) (rs : List RecordedLine) → LinesFrom j rs → PlaceIn (j + k) (drop k rs)
place_from j zero rs none_from = no_line
place_from j zero rs (line_from h s l d) = let e : j + 0 ≡ j = omega arith in rw e (a_line h s l)
place_from j (suc k) rs none_from = no_line
place_from j (suc k) rs (line_from {rs = ss} h s l d) = let e : j + suc k ≡ suc j + k = omega arith in rw e (place_from (suc j) k ss d)

pub place_in : (y : Machine) (k : ℕ) → PlaceIn k (drop k (listing y))
unfolding listing
place_in y k =
    let e : 0 + k ≡ k = omega arith in
    subst (λ (n : ℕ). PlaceIn n (drop k (listing y))) e (place_from 0 k (listing y) (listing_from y (list y (replicate 64 0)).says refl))
