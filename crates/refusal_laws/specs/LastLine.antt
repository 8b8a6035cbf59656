-- What the last line of a printed text tells: the byte before its `=`, and the number after it. By them a listing is told from a refusal, and
-- two refusals from each other, whatever stands before them. Assumes nothing.
use Rattle.std.specs.Prelude.{ℕ, zero, suc, ◌+◌, ◌*◌, ◌-◌, ◌/◌, ◌%◌, ◌<◌, ◌≡◌, refl, List, [], ◌∷◌, ◌++◌, Bool, true, false, not, ◌&&◌, ◌⊎◌, eqb, ltb, get_or, length, if◌then◌else◌}
use Rattle.std.proofs.Common.{sym, ap, ◌∙◌, append-nil, inl, inr, arith, ne_eqb, ltb-true, lt-ltb}
use Rattle.spec.specs.Lists.{every}
use Rattle.laws.specs.Tests.{bool?}
use Rattle.session.specs.Keys.{newline, size_key, tags_key, tag_key, refuse_key}
use Rattle.session.specs.Print.{decimal_digits, decimal, key_line, refusal_line, tag_lines, listing_lines}

-- a number kept while a text is read: f of the byte read, the one before it, and what is kept
unfoldable pub kept : (ℕ → ℕ → ℕ → ℕ) → ℕ → ℕ → List ℕ → ℕ
kept f before k [] = k
kept f before k (x ∷ xs) = kept f x (f x before k) xs

-- the byte before the last `=`
unfoldable pub key_end : ℕ → ℕ → ℕ → ℕ
key_end x before k = if eqb x 61 then before else k

-- the number after the last `=`
unfoldable pub number_read : ℕ → ℕ → ℕ → ℕ
number_read x before k = if eqb x 61 then 0 else if eqb x newline then k else 10 * k + (x - 48)

-- whatever stands before these bytes
abbrev pub Tells : (ℕ → ℕ → ℕ → ℕ) → List ℕ → ℕ → Type 0
Tells f xs v = (before k : ℕ) → kept f before k xs ≡ v

pub tells_behind : (f : ℕ → ℕ → ℕ → ℕ) (xs ys : List ℕ) (v : ℕ) → Tells f ys v → Tells f (xs ++ ys) v
unfolding kept
tells_behind f [] ys v h before k = h before k
tells_behind f (x ∷ xs) ys v h before k = tells_behind f xs ys v h x (f x before k)

-- ---- digits are no `=`

unfoldable no_equals : List ℕ → Bool
no_equals xs = every (λ x. not (eqb x 61)) xs

digit : (d : ℕ) → d < 10 → (xs : List ℕ) → no_equals xs ≡ true → no_equals (xs ++ ((48 + d) ∷ [])) ≡ true
unfolding no_equals every
digit d b [] e = let z : 48 + d ≡ 61 → ⊥ = λ q. omega arith in rw (ne_eqb _ _ z)
digit d b (x ∷ xs) e = go (not (eqb x 61)) e (digit d b xs)
  where
    go : (c : Bool) → (c && no_equals xs) ≡ true → (no_equals xs ≡ true → no_equals (xs ++ ((48 + d) ∷ [])) ≡ true)
        → (c && no_equals (xs ++ ((48 + d) ∷ []))) ≡ true
    go true e ih = ih e
    go false e ih = e

digits : (p n : ℕ) → no_equals (decimal_digits p n) ≡ true
unfolding decimal_digits no_equals every
digits zero n = refl
digits (suc p) n = go (ltb n 10) refl (digits p (n / 10))
  where
    go : (b : Bool) → ltb n 10 ≡ b → no_equals (decimal_digits p (n / 10)) ≡ true
        → no_equals (if b then ((48 + n) ∷ []) else (decimal_digits p (n / 10) ++ ((48 + n % 10) ∷ []))) ≡ true
    go true e ih = digit n (ltb-true n 10 e) [] refl
    go false e ih = digit (n % 10) (omega arith) (decimal_digits p (n / 10)) ih

closed_keeps : (xs : List ℕ) → no_equals xs ≡ true → (before k : ℕ) → kept key_end before k (xs ++ (newline ∷ [])) ≡ k
unfolding kept key_end no_equals every
closed_keeps [] e before k = refl
closed_keeps (x ∷ xs) e before k = go (eqb x 61) e (closed_keeps xs)
  where
    go : (c : Bool) → (not c && no_equals xs) ≡ true → (no_equals xs ≡ true → (b j : ℕ) → kept key_end b j (xs ++ (newline ∷ [])) ≡ j)
        → kept key_end x (if c then before else k) (xs ++ (newline ∷ [])) ≡ k
    go true h ih = let z : ◌≡◌ {A = ℕ} 0 1 = cc in absurd (omega arith)
    go false h ih = ih h x k

number_keeps : (n before k : ℕ) → kept key_end before k (decimal n ++ (newline ∷ [])) ≡ k
unfolding decimal
number_keeps n before k = closed_keeps (decimal_digits 20 n) (digits 20 n) before k

-- ---- the key of a refusal's line, and of a listing's last

refusal_tells : (r : ℕ) → Tells key_end (refusal_line r) 101
unfolding refusal_line key_line kept key_end
refusal_tells r before k = number_keeps r 61 101

tags_tell : (t : ℕ) (ts : List ℕ) → Tells key_end (tag_lines (t ∷ ts)) 103
unfolding tag_lines key_line kept key_end
tags_tell t [] before k = ap (kept key_end before k) (append-nil (key_line tag_key t)) ∙ number_keeps t 61 103
tags_tell t (u ∷ ts) before k = tells_behind key_end (key_line tag_key t) (tag_lines (u ∷ ts)) 103 (tags_tell u ts) before k

count_tells : (n : ℕ) → Tells key_end (key_line tags_key n) 115
unfolding key_line kept key_end
count_tells n before k = number_keeps n 61 115

-- a listing ends with a tag, or with their count
listing_tells : (size : ℕ) (ts : List ℕ) (before k : ℕ) → ¬ (kept key_end before k (listing_lines size ts) ≡ 101)
unfolding listing_lines tag_lines
listing_tells size [] before k e =
    let lines = key_line size_key size ++ key_line tags_key 0 in
    let q = tells_behind key_end (key_line size_key size) (key_line tags_key 0) 115 (count_tells 0) before k in
    let z : ◌≡◌ {A = ℕ} 115 101 = sym (ap (kept key_end before k) (append-nil lines) ∙ q) ∙ e in
    omega arith
listing_tells size (t ∷ ts) before k e =
    let lines = key_line size_key size ++ key_line tags_key (length (t ∷ ts)) in
    let z : ◌≡◌ {A = ℕ} 103 101 = sym (tells_behind key_end lines (tag_lines (t ∷ ts)) 103 (tags_tell t ts) before k) ∙ e in
    omega arith

-- ---- the number of a refusal, of at most two digits as all are

digit_read : (d before k : ℕ) → d < 10 → number_read (48 + d) before k ≡ 10 * k + d
unfolding number_read
digit_read d before k b =
    let e : 48 + d ≡ 61 → ⊥ = λ q. omega arith in
    let n : 48 + d ≡ 10 → ⊥ = λ q. omega arith in
    rw (ne_eqb _ _ e, ne_eqb _ _ n) (omega arith)

key_read : (xs : List ℕ) (before k : ℕ) → kept number_read before k (refuse_key ++ xs) ≡ kept number_read 61 0 xs
unfolding kept number_read
key_read xs before k = refl

end_read : (before k : ℕ) → number_read newline before k ≡ k
unfolding number_read
end_read before k = refl

number_tells : (r : ℕ) → r < 100 → Tells number_read (refusal_line r) r
unfolding refusal_line key_line decimal decimal_digits kept
number_tells r b before k = key_read (decimal r ++ (newline ∷ [])) before k ∙ go (bool? (ltb r 10))
  where
    go : (ltb r 10 ≡ true) ⊎ (ltb r 10 ≡ false) → kept number_read 61 0 (decimal r ++ (newline ∷ [])) ≡ r
    go (inl e) = let l = ltb-true r 10 e in rw (e, digit_read r 61 0 l, end_read (48 + r) (10 * 0 + r)) (omega arith)
    go (inr e) =
        let l : r / 10 < 10 = omega arith in
        let k = 10 * (10 * 0 + r / 10) + r % 10 in
        rw (e, lt-ltb _ _ l, digit_read (r / 10) 61 0 l, digit_read (r % 10) (48 + r / 10) (10 * 0 + r / 10) (omega arith), end_read (48 + r % 10) k)
        (omega arith)

-- ---- a text that ends with a refusal's line

abbrev pub EndsIn : List ℕ → List ℕ → Type 0
EndsIn line text = (front : List ℕ) × (text ≡ front ++ line)

-- it is no listing, and the refusal has one number
pub not_listing : (r : ℕ) (xs : List ℕ) (size : ℕ) (ts : List ℕ) → ¬ EndsIn (refusal_line r) (xs ++ listing_lines size ts)
unfolding kept
not_listing r xs size ts t = go xs 0 0 (ap (kept key_end 0 0) t.1 ∙ tells_behind key_end t.0 (refusal_line r) 101 (refusal_tells r) 0 0)
  where
    go : (ys : List ℕ) (before k : ℕ) → ¬ (kept key_end before k (ys ++ listing_lines size ts) ≡ 101)
    go [] before k e = listing_tells size ts before k e
    go (y ∷ ys) before k e = go ys y (key_end y before k) e

pub one_number : (text : List ℕ) (m n : ℕ) → m < 100 → n < 100 → EndsIn (refusal_line m) text → EndsIn (refusal_line n) text → m ≡ n
one_number text m n a b s t = sym (read m a s) ∙ read n b t
  where
    read : (r : ℕ) → r < 100 → EndsIn (refusal_line r) text → kept number_read 0 0 text ≡ r
    read r c u = ap (kept number_read 0 0) u.1 ∙ tells_behind number_read u.0 (refusal_line r) r (number_tells r c) 0 0

pub same_refusal : (m n : ℕ) → m < 100 → n < 100 → refusal_line m ≡ refusal_line n → m ≡ n
same_refusal m n a b e = one_number (refusal_line n) m n a b ([], sym e) ([], refl)

-- ---- a program that prints a refusal alone, or none

-- a text by a table of refusals: one of these, or no refusal at all
pub data Outcome (Table : ℕ → Type 0) : List ℕ → Type 0 where
  refuses : (m : ℕ) → m < 100 → Table m → Outcome Table (refusal_line m)
  prints : {text : List ℕ} → ((r : ℕ) → ¬ (text ≡ refusal_line r)) → Outcome Table text

-- then it is a refusal only if the table has that
pub refused_by : {Table : ℕ → Type 0} {text : List ℕ} → Outcome Table text → (r : ℕ) → r < 100 → text ≡ refusal_line r → Table r
refused_by (refuses m b x) r c e = rw (← same_refusal m r b c e) x
refused_by (prints n) r c e = absurd (n r e)

-- what begins with another byte than an `r` is no refusal
pub begins : (text : List ℕ) → ¬ (get_or text 0 0 ≡ 114) → (r : ℕ) → ¬ (text ≡ refusal_line r)
unfolding refusal_line key_line
begins text d r e = d (ap (λ (w : List ℕ). get_or w 0 0) e)
