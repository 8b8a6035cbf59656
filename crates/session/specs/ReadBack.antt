-- A printed number is read back as that number: `decimal_read_back`. So `decimal` prints what the grammar calls "numbers decimal
-- to 4,294,967,295 without leading zeros". Assumes nothing.
use Rattle.std.specs.Prelude.{◌≡◌, refl, List, [], ◌∷◌, ◌++◌, Bool, true, false, not, ℕ, zero, suc, ◌+◌, ◌-◌, ◌*◌, ◌/◌, ◌%◌, ◌^◌, ◌<◌, ◌≤◌, leb, ltb, if◌then◌else◌, Option, Some, None}
use Rattle.std.proofs.Common.{sym, ap, ◌∙◌, append_assoc, append-nil, arith, ne_eqb, le-leb, ltb-true, ltb-false}
use Rattle.std.proofs.Math.Nat.{pow-succ'}
use Rattle.session.specs.Grammar.{parse_digits, parse_number}
use Rattle.session.specs.Print.{decimal_digits, decimal}

-- ---- digits after digits

-- the bytes after those that make a number go on from it
digits_on : (xs ys : List ℕ) (a v : ℕ) → parse_digits a xs ≡ Some v → parse_digits a (xs ++ ys) ≡ parse_digits v ys
unfolding parse_digits
digits_on [] ys a v e = let f : a ≡ v = cc in ap (λ (n : ℕ). parse_digits n ys) f
digits_on (x ∷ xs) ys a v e = go (leb 48 x) (leb x 57) (leb (a * 10 + (x - 48)) 4294967295) (digits_on xs ys (a * 10 + (x - 48)) v) e
  where
    rest : Bool → Bool → Bool → Option ℕ → Option ℕ
    rest b c d r = if not b then None else if not c then None else if not d then None else r

    go : (b c d : Bool) → (parse_digits (a * 10 + (x - 48)) xs ≡ Some v → parse_digits (a * 10 + (x - 48)) (xs ++ ys) ≡ parse_digits v ys)
        → rest b c d (parse_digits (a * 10 + (x - 48)) xs) ≡ Some v → rest b c d (parse_digits (a * 10 + (x - 48)) (xs ++ ys)) ≡ parse_digits v ys
    go true true true ih f = ih f
    go true true false ih f = let z : ◌≡◌ {A = ℕ} 0 1 = cc in absurd (omega arith)
    go true false d ih f = let z : ◌≡◌ {A = ℕ} 0 1 = cc in absurd (omega arith)
    go false c d ih f = let z : ◌≡◌ {A = ℕ} 0 1 = cc in absurd (omega arith)

one_digit : (a d : ℕ) → d ≤ 9 → a * 10 + d ≤ 4294967295 → parse_digits a ((48 + d) ∷ []) ≡ Some (a * 10 + d)
unfolding parse_digits
one_digit a d h l =
    let e : 48 + d - 48 ≡ d = omega arith in
    let f : 48 ≤ 48 + d = omega arith in
    let g : 48 + d ≤ 57 = omega arith in
    rw (e, le-leb _ _ f, le-leb _ _ g, le-leb _ _ l)

-- ---- a number's digits

fewer : (p n : ℕ) → n < 10 ^ suc p → n / 10 < 10 ^ p
fewer p n h = omega (arith, pow-succ' 10 p)

digits_back : (p n : ℕ) → n < 10 ^ p → n ≤ 4294967295 → parse_digits 0 (decimal_digits p n) ≡ Some n
unfolding decimal_digits parse_digits
digits_back zero n h l = let e : n ≡ 0 = omega arith in ap Some (sym e)
digits_back (suc p) n h l = go (ltb n 10) refl (digits_back p (n / 10) (fewer p n h) (omega arith))
  where
    go : (b : Bool) → ltb n 10 ≡ b → parse_digits 0 (decimal_digits p (n / 10)) ≡ Some (n / 10) → parse_digits 0 (decimal_digits (suc p) n) ≡ Some n
    go true e ih =
        let k : n < 10 = ltb-true _ _ e in
        let f : 0 * 10 + n ≡ n = omega arith in
        rw e (one_digit 0 n (omega arith) (omega arith) ∙ ap Some f)
    go false e ih =
        let f : n / 10 * 10 + n % 10 ≡ n = omega arith in
        rw e
        (digits_on (decimal_digits p (n / 10)) ((48 + n % 10) ∷ []) 0 (n / 10) ih
        ∙ one_digit (n / 10) (n % 10) (omega arith) (omega arith)
        ∙ ap Some f)

-- no leading zero
leads : (p n : ℕ) (ys : List ℕ) → 1 ≤ n → n < 10 ^ p → parse_number (decimal_digits p n ++ ys) ≡ parse_digits 0 (decimal_digits p n ++ ys)
unfolding decimal_digits parse_number
leads zero n ys m h = absurd (omega arith)
leads (suc p) n ys m h = go (ltb n 10) refl (λ zs l. leads p (n / 10) zs l (fewer p n h))
  where
    go : (b : Bool) → ltb n 10 ≡ b
        → ((zs : List ℕ) → 1 ≤ n / 10 → parse_number (decimal_digits p (n / 10) ++ zs) ≡ parse_digits 0 (decimal_digits p (n / 10) ++ zs))
        → parse_number (decimal_digits (suc p) n ++ ys) ≡ parse_digits 0 (decimal_digits (suc p) n ++ ys)
    go true e ih =
        let f : 48 + n ≡ 48 → ⊥ = λ q. omega arith in
        rw e (rw (ne_eqb _ _ f))
    go false e ih =
        let k : 10 ≤ n = ltb-false _ _ e in
        let a = append_assoc (decimal_digits p (n / 10)) ((48 + n % 10) ∷ []) ys in
        rw e (ap parse_number a ∙ ih ((48 + n % 10) ∷ ys) (omega arith) ∙ ap (parse_digits 0) (sym a))

pub decimal_read_back : (n : ℕ) → n ≤ 4294967295 → parse_number (decimal n) ≡ Some n
unfolding decimal decimal_digits parse_number
decimal_read_back zero l = refl
decimal_read_back (suc m) l =
    let ds = decimal_digits 20 (suc m) in
    let f : suc m < 10 ^ 20 = omega arith in
    ap parse_number (sym (append-nil ds)) ∙ leads 20 (suc m) [] (omega arith) f ∙ ap (parse_digits 0) (append-nil ds) ∙ digits_back 20 (suc m) f l
