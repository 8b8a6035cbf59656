-- Laws of printing that the proofs of the functions cite, in the form in which loops and branches use them.
-- Assumes nothing.
use Rattle.std.specs.Prelude.{Option, ℕ, Ok}
use mathlib.Core.Path.{◌≡◌, ap, ◌∙◌}
use mathlib.Core.List.{List, [], ◌∷◌, ◌++◌}
use Prim.Native.Nat.{ℕ, ◌+◌, ◌<◌, ◌≤◌}
use native.Mathlib.Numerals.{add-one}
use lib.ListN.{length, get_or, drop, drop_of_length-le}
use lib.Seq.{drop-cons}
use Rattle.spec.specs.declared.Answer.{Answer}
use Rattle.spec.specs.declared.Progress.TheVariants.{At, End}
use Rattle.session.specs.Print.{decimal, key_line, tag_lines, answer_word, occupancy_field, output_line}
use Rattle.session.specs.Keys.{comma, newline, at_key, end_key, tag_key}
use Rattle.session.specs.BufferLaws.{append_both}
use Rattle.session.specs.Buffer.{Buffer, append}

pub tags_on : (ts : List ℕ) (i : ℕ) (t : Buffer) → i < length ts
    → append (tag_lines (drop i ts)) t ≡ append (tag_lines (drop (i + 1) ts)) (append (key_line tag_key (get_or ts i 0)) t)
unfolding tag_lines
tags_on ts i t h = rw (add-one, drop-cons ts i 0 h) (append_both _ _ t)

pub tags_end : (ts : List ℕ) (i : ℕ) (t : Buffer) → length ts ≤ i → append (tag_lines (drop i ts)) t ≡ t
unfolding tag_lines append
tags_end ts i t h = rw (drop_of_length-le ts h)

-- ---- a line that is printed part by part

pub at_parts : (k l : ℕ) (t : Buffer)
    → append (output_line k (Ok (At l))) t ≡ append (newline ∷ []) (append (decimal l) (append (at_key ++ decimal k ++ (comma ∷ [])) t))
unfolding output_line
at_parts k l t =
    let front = at_key ++ decimal k ++ (comma ∷ []) in
    append_both (front ++ decimal l) (newline ∷ []) t ∙ ap (append (newline ∷ [])) (append_both front (decimal l) t)

pub end_parts : (k : ℕ) (w : Answer) (own : ℕ) (full : Option ℕ) (t : Buffer)
    → append (output_line k (Ok (End w own full))) t
    ≡ append (newline ∷ []) (append (occupancy_field full) (append (decimal own) (append (comma ∷ [])
    (append (answer_word w) (append (end_key ++ decimal k ++ (comma ∷ [])) t)))))
unfolding output_line
end_parts k w own full t =
    let a = end_key ++ decimal k ++ (comma ∷ []) in
    let b = a ++ answer_word w in
    let c = b ++ (comma ∷ []) in
    let d = c ++ decimal own in
    append_both (d ++ occupancy_field full) (newline ∷ []) t
    ∙ ap (append (newline ∷ []))
    (append_both d (occupancy_field full) t
    ∙ ap (append (occupancy_field full))
    (append_both c (decimal own) t
    ∙ ap (append (decimal own))
    (append_both b (comma ∷ []) t ∙ ap (append (comma ∷ [])) (append_both a (answer_word w) t))))
