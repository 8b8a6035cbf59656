-- A part of a buffer, lent from some place to its end and put back: its length, and bytes that are appended in it (`appends_on`), all of them where it has
-- room (`part_holds`). Assumes nothing.
use Rattle.std.specs.Prelude.{◌≡◌, List, [], ◌∷◌, ◌++◌, ℕ, suc, ◌+◌, ◌-◌, ◌≤◌, length, take, drop}
use Rattle.std.proofs.Common.{sym, ap, ◌∙◌, append-nil, arith, length-drop, drop_of_length-le, take_all, length-take-le}
use Rattle.session.specs.Buffer.{buffer, append}
use Rattle.session.specs.BufferLaws.{append_both, behind, append_rest, append_written, written_whole}

-- the part from place a on
pub rest : (d : List ℕ) (a : ℕ) → take (length d - a) (drop a d) ≡ drop a d
rest d a = take_all (length d - a) (drop a d) (rw (length-drop a d) (omega arith))

pub rest_length : (d : List ℕ) (a : ℕ) → length (take (length d - a) (drop a d)) ≡ length d - a
rest_length d a = ap length (rest d a) ∙ length-drop a d

part_back : (d q : List ℕ) (a : ℕ) → take a d ++ (q ++ drop (length d - a) (drop a d)) ≡ take a d ++ q
part_back d q a =
    let z : drop (length d - a) (drop a d) ≡ [] = drop_of_length-le (drop a d) {i = length d - a} (rw (length-drop a d) (omega arith)) in
    rw (z, append-nil)

-- bytes appended after others, in the part of the buffer that starts there
pub appends_on : (xs ys first d q : List ℕ) (a n : ℕ) → a ≤ length d → buffer d a ≡ append xs (buffer first 0)
    → buffer q n ≡ append ys (buffer (take (length d - a) (drop a d)) 0)
    → buffer (take a d ++ (q ++ drop (length d - a) (drop a d))) (a + n) ≡ append (xs ++ ys) (buffer first 0)
appends_on xs ys first d q a n h e f =
    let l : length (take a d) ≡ a = length-take-le a d h in
    ap (λ (w : List ℕ). buffer w (a + n)) (part_back d q a)
    ∙ ap (λ (k : ℕ). buffer (take a d ++ q) (k + n)) (sym l)
    ∙ ap (behind (take a d)) (f ∙ ap (λ (w : List ℕ). append ys (buffer w 0)) (rest d a))
    ∙ sym (append_rest ys d a h)
    ∙ ap (append ys) e
    ∙ sym (append_both xs ys (buffer first 0))

-- where that part has room, the bytes stand behind those before it
past_front : (front q : List ℕ) (n : ℕ) → take (length front + n) (front ++ q) ≡ front ++ take n q
past_front [] q n = let e : 0 + n ≡ n = omega arith in ap (λ (k : ℕ). take k q) e
past_front (x ∷ front) q n =
    let e : suc (length front) + n ≡ suc (length front + n) = omega arith in
    ap (λ (k : ℕ). take k (x ∷ (front ++ q))) e ∙ ap (λ (l : List ℕ). x ∷ l) (past_front front q n)

pub part_holds : (ys d q : List ℕ) (a n : ℕ) → a ≤ length d → buffer q n ≡ append ys (buffer (take (length d - a) (drop a d)) 0) → a + length ys ≤ length d
    → (n ≡ length ys) × (take (a + n) (take a d ++ (q ++ drop (length d - a) (drop a d))) ≡ take a d ++ ys)
part_holds ys d q a n h e fits =
    let l : length (take a d) ≡ a = length-take-le a d h in
    let w = written_whole ys _ q n (append_written ys _ q n e) (omega (arith, rest_length d a)) in (
      w.0,
      ap (take (a + n)) (part_back d q a)
          ∙ ap (λ (k : ℕ). take (k + n) (take a d ++ q)) (sym l)
          ∙ past_front (take a d) q n
          ∙ ap (λ (r : List ℕ). take a d ++ r) w.1,
    )
