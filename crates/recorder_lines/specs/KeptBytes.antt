-- What is kept of the header's lines in an array is what the definition keeps in a list: `kept_more`. Assumes nothing.
use Rattle.std.specs.Prelude.{◌≡◌, refl, List, [], ◌++◌, Bool, true, false, ℕ, ◌+◌, ◌<◌, ◌≤◌, min, leb, length, take, drop}
use Rattle.std.proofs.Common.{sym, ap, ◌∙◌, append_assoc, arith, leb-true, leb-false, length-append, length-drop, length-take-le, take_all, take_at}
use Rattle.std.proofs.Math.Seq.{take-append-add}
use Rattle.session.specs.Buffer.{Buffer, buffer, append}
use Rattle.session.specs.BufferLaws.{append_first, append_rest}
pub use Rattle.session.specs.BufferLaws.{append_length}
use Rattle.recording.specs.Recorder.{longest_header}
use Rattle.recording.specs.Recording.{close}
use Rattle.recorder_lines.specs.declared.KeptLines.{KeptLines}
use Rattle.recorder_lines.specs.KeptLines.{no_lines, kept_bytes, keep_line}

pub record KeptIs (k : KeptLines) (kept : List ℕ) : Type 0 where
  pub room : length k.bytes ≡ longest_header
  pub some : k.len ≤ longest_header
  pub same : kept_bytes k ≡ kept

pub kept_none : KeptIs no_lines []
unfolding no_lines
kept_none = record { room = refl; some = omega arith; same = refl }

-- as many as there is room for
take_room : (xs : List ℕ) (n : ℕ) → take (min (length xs) n) xs ≡ take n xs
take_room xs n = go (leb (length xs) n) refl
  where
    go : (b : Bool) → leb (length xs) n ≡ b → take (min (length xs) n) xs ≡ take n xs
    go true e =
        let f : length xs ≤ n = leb-true _ _ e in
        take_all (min (length xs) n) xs (omega arith) ∙ sym (take_all n xs f)
    go false e =
        let f : n < length xs = leb-false _ _ e in
        let m : min (length xs) n ≡ n = omega arith in
        ap (λ (k : ℕ). take k xs) m

-- bytes appended after the first n of a buffer
module _ (xs w : List ℕ) (n : ℕ) (fits : n ≤ length w) where
  abbrev room : ℕ
  room = min (length xs) (length (drop n w))

  long : length (take n w) ≡ n
  long = length-take-le n w fits

  appended : append xs (buffer w n) ≡ buffer (take n w ++ (take room xs ++ drop room (drop n w))) (length (take n w) + room)
  appended =
      append_rest xs w n fits
      ∙ ap (λ (t : Buffer). buffer (take n w ++ t.bytes) (length (take n w) + t.at)) (append_first xs (drop n w))

  appended_bytes : take (append xs (buffer w n)).at (append xs (buffer w n)).bytes ≡ take (length w) (take n w ++ xs)
  appended_bytes =
      let front = take n w ++ take room xs in
      let l : length (take room xs) ≡ room = length-take-le room xs (omega arith) in
      let f : length front ≡ length (take n w) + room = length-append (take n w) (take room xs) ∙ omega (arith, l) in
      let z : length (take n w) + length (drop n w) ≡ length w = omega (arith, long, length-drop n w) in
      ap (λ (t : Buffer). take t.at t.bytes) appended
      ∙ ap (take (length (take n w) + room)) (sym (append_assoc (take n w) (take room xs) (drop room (drop n w))))
      ∙ take_at front (drop room (drop n w)) (length (take n w) + room) f
      ∙ ap (λ (r : List ℕ). take n w ++ r) (take_room xs (length (drop n w)))
      ∙ sym (take-append-add (take n w) xs (length (drop n w)))
      ∙ ap (λ (k : ℕ). take k (take n w ++ xs)) z

  appended_within : (append xs (buffer w n)).at ≤ length w
  appended_within =
      let e : (append xs (buffer w n)).at ≡ length (take n w) + room = ap (λ (t : Buffer). t.at) appended in
      omega (arith, long, length-drop n w)

pub kept_more : (k : KeptLines) (kept line : List ℕ) → KeptIs k kept → KeptIs (keep_line k line) (take longest_header (kept ++ close line))
unfolding keep_line
kept_more k kept line o =
    let fits : k.len ≤ length k.bytes = omega (arith, o.room, o.some) in
    record {
      room = append_length (close line) (buffer k.bytes k.len) ∙ o.room;
      some = omega (arith, appended_within (close line) k.bytes k.len fits, o.room);
      same =
          appended_bytes (close line) k.bytes k.len fits
          ∙ ap (λ (n : ℕ). take n (kept_bytes k ++ close line)) o.room
          ∙ ap (λ (w : List ℕ). take longest_header (w ++ close line)) o.same;
    }
