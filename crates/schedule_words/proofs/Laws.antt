-- How many words an output has, and words written one after the other. Assumes nothing.
use Rattle.std.specs.Prelude.{Ok, Err}
use Prim.Native.Nat.{ℕ, ◌+◌, ◌≤◌}
use mathlib.Core.Path.{◌≡◌, refl, sym, ap, ◌∙◌}
use mathlib.Core.List.{List, [], ◌++◌, append-nil, append_assoc}
use native.Mathlib.Omega.{arith}
use lib.ListN.{length, take, drop, length-append, take-append-drop}
use lib.Seq.{length-take-le, take_at, drop-append-add, drop-drop}
use borrow.Rule.Slice.PartMut.{put_mid}
use Rattle.spec.specs.Outputs.{Output}
use Rattle.spec.specs.declared.Progress.TheVariants.{At, End}
use Rattle.spec.specs.Numbers.{output_words}
use Rattle.spec.specs.Words.{overwrite}

pub output_length : (o : Output) → length (output_words o) ≡ 4
output_length (Ok (At line)) = refl
output_length (Ok (End a own full)) = refl
output_length (Err r) = refl

-- ---- words written one after the other

pub over_none : (w : List ℕ) (i : ℕ) → overwrite w i [] ≡ w
unfolding overwrite
over_none w i = let z : i + 0 ≡ i = omega arith in rw (z, append-nil) (take-append-drop i w)

pub over_then : (w : List ℕ) (i : ℕ) (v u : List ℕ) → i + length v ≤ length w → overwrite w i (v ++ u) ≡ overwrite (overwrite w i v) (i + length v) u
unfolding overwrite
over_then w i v u h =
    let j : ℕ = i + length v in
    let p : List ℕ = take i w ++ v in
    let e : length p ≡ j = length-append (take i w) v ∙ ap (λ (n : ℕ). n + length v) (length-take-le i w (omega arith)) in
    let q : i + (length v + length u) ≡ j + length u = omega arith in
    let d : drop (j + length u) (p ++ drop j w) ≡ drop (j + length u) w =
    ap (λ (n : ℕ). drop (n + length u) (p ++ drop j w)) (sym e) ∙ drop-append-add p (drop j w) (length u) ∙ drop-drop (length u) j w in
    rw (take_at p (drop j w) j e, d, length-append v u, q) (ap (λ (l : List ℕ). l ++ drop (j + length u) w) (sym (append_assoc (take i w) v u)))

-- what a part then holds, put back into the whole: k words from word a on
pub over_part : (w u v : List ℕ) (a k : ℕ) → u ≡ v → length v ≡ k → put_mid a k w u ≡ overwrite w a v
unfolding overwrite
over_part w u v a k same long =
    rw (same, long) (ap (λ (x : List ℕ). take a w ++ (v ++ x)) (drop-drop k a w) ∙ sym (append_assoc (take a w) v (drop (a + k) w)))
