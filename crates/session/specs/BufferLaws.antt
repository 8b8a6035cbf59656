-- What appending bytes leaves of a lent buffer: `append_written`, from the first byte on, and `append_rest`, from a place in
-- the middle on, which is how a part of a buffer is lent. Assumes nothing.
use Rattle.std.specs.Prelude.{◌≡◌, refl, List, [], ◌∷◌, ◌++◌, Bool, true, false, ℕ, suc, ◌+◌, ◌<◌, ◌≤◌, min, ltb, length, take, drop, set, if◌then◌else◌}
use Rattle.std.proofs.Common.{sym, ap, ◌∙◌, arith, lt-ltb, le-ltb, ltb-true, ltb-false, length-append, length-set, take-append-drop, length-take-le, take_all, take_at}
use Rattle.session.specs.Buffer.{Buffer, buffer, append_byte, append, Written}

-- appended one after the other
pub append_both : (xs ys : List ℕ) (t : Buffer) → append (xs ++ ys) t ≡ append ys (append xs t)
unfolding append
append_both [] ys t = refl
append_both (x ∷ xs) ys t = append_both xs ys (append_byte x t)

-- ---- the bytes before the next place are not touched

-- a buffer whose first bytes are `front`, and of which t is the rest
abbrev pub behind : List ℕ → Buffer → Buffer
behind front t = buffer (front ++ t.bytes) (length front + t.at)

set_behind : (front w : List ℕ) (i b : ℕ) → set (front ++ w) (length front + i) b ≡ front ++ set w i b
set_behind [] w i b = let e : 0 + i ≡ i = omega arith in ap (λ (j : ℕ). set w j b) e
set_behind (x ∷ xs) w i b =
    let e : suc (length xs) + i ≡ suc (length xs + i) = omega arith in
    ap (λ (j : ℕ). set (x ∷ (xs ++ w)) j b) e ∙ ap (λ (l : List ℕ). x ∷ l) (set_behind xs w i b)

byte_behind : (front : List ℕ) (b : ℕ) (t : Buffer) → append_byte b (behind front t) ≡ behind front (append_byte b t)
unfolding append_byte
byte_behind front b t = go (ltb t.at (length t.bytes)) refl
  where
    go : (a : Bool) → ltb t.at (length t.bytes) ≡ a → append_byte b (behind front t) ≡ behind front (append_byte b t)
    go true e =
        let h : t.at < length t.bytes = ltb-true _ _ e in
        let g : length front + t.at < length (front ++ t.bytes) = rw (length-append front t.bytes) (omega arith) in
        let n : length front + t.at + 1 ≡ length front + (t.at + 1) = omega arith in
        rw (lt-ltb _ _ g, lt-ltb _ _ h, set_behind front t.bytes t.at b, n)
    go false e =
        let h : length t.bytes ≤ t.at = ltb-false _ _ e in
        let g : length (front ++ t.bytes) ≤ length front + t.at = rw (length-append front t.bytes) (omega arith) in
        rw (le-ltb _ _ g, le-ltb _ _ h)

append_behind : (front bs : List ℕ) (t : Buffer) → append bs (behind front t) ≡ behind front (append bs t)
unfolding append
append_behind front [] t = refl
append_behind front (b ∷ bs) t = ap (append bs) (byte_behind front b t) ∙ append_behind front bs (append_byte b t)

-- from place n on: the bytes are appended to the part of the buffer that starts there
pub append_rest : (bs w : List ℕ) (n : ℕ) → n ≤ length w → append bs (buffer w n) ≡ behind (take n w) (append bs (buffer (drop n w) 0))
append_rest bs w n h =
    let e : length (take n w) ≡ n = length-take-le n w h in
    let f : n ≡ length (take n w) + 0 = omega arith in
    ap (λ (l : List ℕ). append bs (buffer l n)) (sym (take-append-drop n w))
    ∙ ap (λ (j : ℕ). append bs (buffer (take n w ++ drop n w) j)) f
    ∙ append_behind (take n w) bs (buffer (drop n w) 0)

-- ---- from the first byte on

none_fits : (bs : List ℕ) → append bs (buffer [] 0) ≡ buffer [] 0
unfolding append append_byte
none_fits [] = refl
none_fits (b ∷ bs) = none_fits bs

-- as many bytes as there is room for, and the rest of the buffer
abbrev room : List ℕ → List ℕ → ℕ
room bs w = min (length bs) (length w)

pub append_first : (bs w : List ℕ) → append bs (buffer w 0) ≡ buffer (take (room bs w) bs ++ drop (room bs w) w) (room bs w)
unfolding append append_byte
append_first [] w = let e : min 0 (length w) ≡ 0 = omega arith in rw e
append_first (b ∷ bs) [] = let e : min (suc (length bs)) 0 ≡ 0 = omega arith in rw e (none_fits bs)
append_first (b ∷ bs) (x ∷ xs) =
    let e : min (suc (length bs)) (suc (length xs)) ≡ suc (room bs xs) = omega arith in
    let f : 1 + room bs xs ≡ suc (room bs xs) = omega arith in
    let l : 0 < suc (length xs) = omega arith in
    rw (lt-ltb 0 (suc (length xs)) l)
    (append_behind (b ∷ []) bs (buffer xs 0)
    ∙ ap (behind (b ∷ [])) (append_first bs xs)
    ∙ ap (buffer (b ∷ (take (room bs xs) bs ++ drop (room bs xs) xs))) f
    ∙ ap (λ (n : ℕ). buffer (take n (b ∷ bs) ++ drop n (x ∷ xs)) n) (sym e))

-- what a function that appends from the first byte on leaves
pub append_written : (bs before after : List ℕ) (count : ℕ) → buffer after count ≡ append bs (buffer before 0) → Written bs before after count
append_written bs before after count h =
    let e = h ∙ append_first bs before in
    let c : count ≡ room bs before = ap (λ (t : Buffer). t.at) e in
    record {
      counted = c;
      holds = ap (λ (t : Buffer). t.bytes) e ∙ ap (λ (n : ℕ). take n bs ++ drop n before) (sym c);
    }

-- no more bytes are written than the buffer has
pub written_within : (bs before after : List ℕ) (count : ℕ) → Written bs before after count → count ≤ length before
written_within bs before after count w = let c = w.counted in omega arith

pub append_within : (bs before after : List ℕ) (count : ℕ) → buffer after count ≡ append bs (buffer before 0) → count ≤ length before
append_within bs before after count e = written_within bs before after count (append_written bs before after count e)

-- a buffer stays as long as it is
pub append_length : (xs : List ℕ) (t : Buffer) → length (append xs t).bytes ≡ length t.bytes
unfolding append append_byte
append_length [] t = refl
append_length (x ∷ xs) t = append_length xs (append_byte x t) ∙ go (ltb t.at (length t.bytes))
  where
    go : (b : Bool) → length (if b then buffer (set t.bytes t.at x) (t.at + 1) else t).bytes ≡ length t.bytes
    go true = length-set t.bytes t.at x
    go false = refl

-- no more bytes are written than the buffer has, from a place in the middle on
append_place : (bs : List ℕ) (t : Buffer) → t.at ≤ length t.bytes → (append bs t).at ≤ length t.bytes
unfolding append append_byte
append_place [] t h = h
append_place (b ∷ bs) t h = go (ltb t.at (length t.bytes)) refl (append_place bs)
  where
    go : (a : Bool) → ltb t.at (length t.bytes) ≡ a → ((u : Buffer) → u.at ≤ length u.bytes → (append bs u).at ≤ length u.bytes)
        → (append bs (if a then buffer (set t.bytes t.at b) (t.at + 1) else t)).at ≤ length t.bytes
    go true e ih =
        let l : length (set t.bytes t.at b) ≡ length t.bytes = length-set t.bytes t.at b in
        let k : t.at < length t.bytes = ltb-true _ _ e in
        omega (arith, ih (buffer (set t.bytes t.at b) (t.at + 1)) (omega arith))
    go false e ih = ih t h

pub append_on_within : (bs before after : List ℕ) (from count : ℕ) → from ≤ length before → buffer after count ≡ append bs (buffer before from)
    → count ≤ length before
append_on_within bs before after from count h e =
    let c : count ≡ (append bs (buffer before from)).at = ap (λ (t : Buffer). t.at) e in
    omega (arith, append_place bs (buffer before from) h)

-- where the buffer has room, its first bytes are those, all of them
pub written_whole : (bs before after : List ℕ) (count : ℕ) → Written bs before after count → length bs ≤ length before
    → (count ≡ length bs) × (take count after ≡ bs)
written_whole bs before after count w h =
    let k = w.counted in
    let c : count ≡ length bs = omega arith in
    let all : take count bs ≡ bs = take_all count bs (omega arith) in (
      c,
      ap (take count) w.holds
          ∙ ap (λ (l : List ℕ). take count (l ++ drop count before)) all
          ∙ take_at bs (drop count before) count (sym c),
    )
