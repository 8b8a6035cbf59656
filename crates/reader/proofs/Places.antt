-- The line at a place of the listing: its bytes, as they are printed for a list call's answer, `counted_line`, `refused_line`; and what comparing it
-- leaves. Assumes nothing.
use Rattle.std.specs.Prelude.{if◌then◌else◌, Ok, Err}
use mathlib.Core.Path.{◌≡◌, refl, sym, ap, ◌∙◌}
use mathlib.Core.List.{List, []}
use mathlib.Core.Bool.{Bool, true, false}
use Prim.Native.Nat.{ℕ, zero, suc, ◌+◌, ◌-◌, ◌<◌, ◌≤◌}
use native.Mathlib.Omega.{arith}
use borrow.Author.Tests.{ne_eqb, ltb-true, ltb-false}
use lib.Dec.{ltb}
use lib.ListN.{length, get_or, take, drop, replicate}
use Rattle.spec.specs.Numbers.{refusal_number}
use Rattle.spec.specs.declared.Refusal.{Refusal as SetRefusal}
use Rattle.spec.specs.Outputs.{Listing}
use Rattle.spec.specs.Machine.{Machine, machine_of}
use Rattle.spec.specs.Words.{size}
use Rattle.spec.specs.Listed.{listed, head_of, size_of}
use Rattle.spec.specs.Entries.{list}
use Rattle.session.specs.Keys.{tag_key}
use Rattle.session.specs.Grammar.{closed_line, equals}
use Rattle.session.specs.Print.{key_line, refusal_line}
use Rattle.session.specs.OutputLengths.{longest_line}
use Rattle.session.specs.Buffer.{Buffer, append}
use Rattle.session_pools.specs.PoolParts.{node_extent, bucket_extent, node_part}
use Rattle.recording.specs.declared.ReaderPhase.TheVariants.{Listed}
use Rattle.recording.specs.declared.Verdict.TheVariants.{Same, Differs, Refusal}
use Rattle.recording.specs.Recording.{RecordedLine, close, listing}
use Rattle.recording.specs.Verdict.{past_listing}
use Rattle.recording.specs.Reader.{compare_listed, listing_end}
use Rattle.recording_laws.specs.ListingLines.{size_first, tags_second, tag_at, none_after, refused_listing}
use Rattle.reader_state.proofs.Laws.{other_length}
use Rattle.reader_state.specs.declared.Reader.{Reader}
use Rattle.reader_state.specs.ListedLines.{listed_line, first_bytes}
use Rattle.reader_state.specs.Standing.{most_lines, next_place, with_part, put_back, after_comparing, ReadAs}
pub use Rattle.reader.specs.ListingPlaces.{Lists, lists, PlaceIn, no_line, a_line, place_in}
use Rattle.session_machine.proofs.Laws.{same_part}
use Rattle.reader.proofs.Parts.{decided_back, compared_back}

-- ---- the line's bytes

tag_line : (size : ℕ) (ts : List ℕ) (j : ℕ) → listed_line size ts (suc (suc j)) ≡ (if ltb j (length ts) then key_line tag_key (get_or ts j 0) else [])
unfolding listed_line
tag_line size ts j =
    let not_first : suc (suc j) ≡ 0 → ⊥ = λ q. omega arith in
    let not_second : suc (suc j) ≡ 1 → ⊥ = λ q. omega arith in
    let e : suc (suc j) - 2 ≡ j = omega arith in
    rw (ne_eqb (suc (suc j)) 0 not_first, ne_eqb (suc (suc j)) 1 not_second, e)

past_end : (k : ℕ) → drop {A = RecordedLine} k [] ≡ []
past_end zero = refl
past_end (suc k) = refl

module _ (y : Machine) where
  pub counted_line : (n k : ℕ) → (list y (replicate 64 0)).says ≡ Ok n
      → listed_line (size_of y (head_of y)) (listed y) k ≡ first_bytes (drop k (listing y))
  unfolding listed_line first_bytes
  counted_line n zero e = rw (size_first y n e)
  counted_line n (suc zero) e = rw (tags_second y n e)
  counted_line n (suc (suc j)) e = tag_line (size_of y (head_of y)) (listed y) j ∙ go (ltb j (length (listed y))) refl
    where
      go : (b : Bool) → ltb j (length (listed y)) ≡ b
          → (if b then key_line tag_key (get_or (listed y) j 0) else []) ≡ first_bytes (drop (suc (suc j)) (listing y))
      go true q = rw (tag_at y n e j (ltb-true _ _ q))
      go false q = rw (none_after y n e j (ltb-false _ _ q))

  pub refused_line : (r : SetRefusal) (k : ℕ) → (list y (replicate 64 0)).says ≡ Err r → k ≡ 0 → refusal_line (refusal_number r) ≡ first_bytes (drop k (listing y))
  unfolding first_bytes
  refused_line r k e z = rw (z, refused_listing y r e)

  pub refused_none : (r : SetRefusal) (k : ℕ) → (list y (replicate 64 0)).says ≡ Err r → (k ≡ 0 → ⊥) → [] ≡ first_bytes (drop k (listing y))
  unfolding first_bytes
  refused_none r zero e z = absurd (z refl)
  refused_none r (suc k) e z = rw (refused_listing y r e, past_end k)

-- what is printed for a list call over the reader's part of the pools
module _ (r : Reader) (ns bs : List ℕ) (a b : ℕ) (ea : a ≡ node_extent r.header ns) (eb : b ≡ bucket_extent r.header bs)
    (s : Listing) (hs : s ≡ (list (machine_of r.state (take a ns) (take b bs)) (replicate 64 0)).says) where
  abbrev part : Machine
  part = (with_part r ns bs).machine

  says_is : s ≡ (list part (replicate 64 0)).says
  unfolding with_part
  says_is = hs ∙ ap (λ (y : Machine). (list y (replicate 64 0)).says) (same_part r.header ns bs a b ea eb r.state)

  pub prints_counted : (w : List ℕ) → w ≡ (list (machine_of r.state (take a ns) (take b bs)) (replicate 64 0)).words
      → (n k z : ℕ) (t u : Buffer) → s ≡ Ok n → z ≡ size (take a ns) r.state.head
      → u ≡ append (listed_line z (take n w) k) t → u ≡ append (first_bytes (drop k (listing part))) t
  unfolding with_part size_of head_of
  prints_counted w hw n k z t u e f p =
      let q : (list part (replicate 64 0)).says ≡ Ok n = sym says_is ∙ e in
      let words = hw ∙ ap (λ (y : Machine). (list y (replicate 64 0)).words) (same_part r.header ns bs a b ea eb r.state) in
      let tags : take n w ≡ listed part = ap (take n) words ∙ (lists part (replicate 64 0) n q).tags in
      let head : r.state.head ≡ r.state.head + 1 - 1 = omega arith in
      let nodes = node_part r.header ns in
      let at_head : z ≡ size nodes (r.state.head + 1 - 1) = f ∙ ap (λ (x : ℕ). size (take x ns) r.state.head) ea ∙ ap (size nodes) head in
      p ∙ ap (λ (x : ℕ). append (listed_line x (take n w) k) t) at_head
      ∙ ap (λ (l : List ℕ). append (listed_line (size_of part (head_of part)) l k) t) tags
      ∙ ap (λ (l : List ℕ). append l t) (counted_line part n k q)

  pub prints_refused : (why : SetRefusal) (k : ℕ) (t u : Buffer) → s ≡ Err why → k ≡ 0 → u ≡ append (refusal_line (refusal_number why)) t
      → u ≡ append (first_bytes (drop k (listing part))) t
  prints_refused why k t u e z p = p ∙ ap (λ (l : List ℕ). append l t) (refused_line part why k (sym says_is ∙ e) z)

  pub prints_none : (why : SetRefusal) (k : ℕ) (t : Buffer) → s ≡ Err why → (k ≡ 0 → ⊥) → t ≡ append (first_bytes (drop k (listing part))) t
  unfolding append
  prints_none why k t e z = ap (λ (l : List ℕ). append l t) (refused_none part why k (sym says_is ∙ e) z)

-- ---- what is done with it

pub short_place : {k : ℕ} {rs : List RecordedLine} → PlaceIn k rs → length (first_bytes rs) ≤ longest_line
unfolding first_bytes
short_place no_line = omega arith
short_place (a_line h s l) = omega arith

next_is : (k : ℕ) → k < 66 → next_place k ≡ k + 1
unfolding next_place
next_is k h = omega arith

-- a line of the listing that is compared
pub listed_back : (r : Reader) (ns bs : List ℕ) → r.number ≤ most_lines → (k : ℕ) (rs : List RecordedLine) (l : List ℕ) → PlaceIn k rs
    → ReadAs (put_back (compare_listed k rs (with_part r ns bs) (closed_line l)) ns bs)
    (after_comparing (equals (first_bytes rs) (close l)) (Listed (next_place k)) r) ns bs
unfolding compare_listed past_listing first_bytes with_part after_comparing
listed_back r ns bs fits k rs l no_line =
    rw (other_length [] l (λ q. omega arith)) (decided_back r ns bs fits (Differs r.number))
listed_back r ns bs fits k rs l (a_line {r = p} h s t) =
    rw (next_is k h) (compared_back r ns bs fits p.written l (Listed (k + 1)))

-- the end of the input there: as many bytes as the line has
pub ends_listed : {k : ℕ} {rs : List RecordedLine} → PlaceIn k rs → length (first_bytes rs) ≡ 0 → Same ≡ listing_end rs
unfolding listing_end first_bytes
ends_listed no_line e = refl
ends_listed (a_line h s l) e = absurd (omega arith)

pub misses_listed : {k : ℕ} {rs : List RecordedLine} → PlaceIn k rs → (length (first_bytes rs) ≡ 0 → ⊥) → Refusal 12 ≡ listing_end rs
unfolding listing_end first_bytes
misses_listed no_line e = absurd (e refl)
misses_listed (a_line h s l) e = refl
