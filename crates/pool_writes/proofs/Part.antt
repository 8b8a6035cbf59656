-- Laws of a part of the pool whose first words are written over, and of a node written.
-- Assumes nothing.
use mathlib.Core.Path.{◌≡◌, sym}
use mathlib.Core.List.{List, [], ◌++◌, append-nil, append_assoc}
use Prim.Native.Nat.{ℕ, ◌+◌, ◌-◌, ◌*◌, ◌/◌, ◌<◌, ◌≤◌}
use native.Mathlib.Omega.{arith}
use lib.ListN.{length, take, drop, set, length-drop, drop_of_length-le}
use lib.Seq.{drop-cons, set_split, drop-drop, take_all}
use borrow.Author.Tests.{lt-ltb}
use borrow.Rule.Slice.PartMut.{put_mid}
use Rattle.spec.specs.Words.{overwrite, node_of}
use Rattle.pool_writes.specs.Writes.{store_node}

-- the part from word a on, as a loan of it has it
pub rest : (d : List ℕ) (a : ℕ) → take (length d - a) (drop a d) ≡ drop a d
rest d a = take_all (length d - a) (drop a d) (rw (length-drop a d) (omega arith))

-- the part from word i on, written over at its front and put back, is the whole written over from word i on
pub back : (d : List ℕ) (i : ℕ) (v q : List ℕ) → q ≡ overwrite (drop i d) 0 v
    → take i d ++ (q ++ drop (length d - i) (drop i d)) ≡ overwrite d i v
unfolding overwrite
back d i v q e =
    let n : ℕ = length d - i in
    let z : drop n (drop i d) ≡ [] = drop_of_length-le (drop i d) {i = n} (rw (length-drop i d) (omega arith)) in
    let o : 0 + length v ≡ length v = omega arith in
    rw (z, append-nil, e, o, drop-drop (length v) i d) (sym (append_assoc (take i d) v (drop (i + length v) d)))

-- the part from word i on, with its first word set and put back
pub back_set : (d : List ℕ) (i v : ℕ) (q : List ℕ) → i < length d → q ≡ set (drop i d) 0 v
    → take i d ++ (q ++ drop (length d - i) (drop i d)) ≡ set d i v
back_set d i v q h e =
    let n : ℕ = length d - i in
    let z : drop n (drop i d) ≡ [] = drop_of_length-le (drop i d) {i = n} (rw (length-drop i d) (omega arith)) in
    rw (z, append-nil, e, drop-cons d i 0 h) (sym (set_split d i v h))

-- the words of a part written anew by those of v
pub mid_over : (p v q : List ℕ) (a k : ℕ) → q ≡ v → length v ≡ k → put_mid a k p q ≡ overwrite p a v
unfolding overwrite
mid_over p v q a k e l = rw (e, l, drop-drop k a p) (sym (append_assoc (take a p) v (drop (a + k) p)))

-- a node number in the pool
pub node_here : (w : List ℕ) (k sz l : ℕ) → 34 * k + 34 ≤ length w → store_node w k sz l ≡ overwrite w (34 * k) (node_of sz l)
unfolding store_node
node_here w k sz l h = let i : k < length w / 34 = omega arith in rw (lt-ltb _ _ i)
