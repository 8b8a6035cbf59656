-- The loop of any reader of lines: where it begins, one turn of it, which asks for a line, takes it, and stops if that fixed the answer, and what it comes
-- to. Assumes nothing.
use Prim.Native.Nat.{ℕ, zero, suc, ◌+◌, ◌-◌, ◌<◌, ◌≤◌}
use Rattle.std.proofs.Math.Path.{◌≡◌, refl, sym, subst}
use Rattle.std.proofs.Common.{ap, ◌∙◌, take_all}
use mathlib.Core.List.{List, [], ◌∷◌, ◌++◌, append_assoc, append-nil}
use Rattle.std.specs.Prelude.{Bool, if◌then◌else◌}
use Rattle.std.proofs.Math.Bool.{true, false, not}
use native.Mathlib.Omega.{arith}
use borrow.Author.Tests.{lt-leb, ne_eqb}
use Rattle.std.proofs.Math.Dec.{eqb}
use Rattle.std.proofs.Math.ListN.{length, length-append, length-take}
use Rattle.session.specs.Keys.{newline}
use Rattle.session.specs.Grammar.{InputLine, closed_line, open_line, split_lines, input_lines, admissible}
use Rattle.partial_line.specs.PartialLines.{line_bytes, empty_line}
use Rattle.stdio.specs.declared.input.Given.{Given}
use Rattle.stdio.specs.declared.input.Given.TheVariants.{Part, Line, TooLong, Settled, Ended, ReadFailed, WriteFailed}
use Rattle.stdio.specs.declared.input.Input.{Input}
use Rattle.stdio.specs.Inputs.{given_number, goes_on, fixed, failed, begin, begun_line, settled_if, cut_off}
use Rattle.stdio.specs.Inputs.{pending, lines_left, with_line, bytes_left, Gives}
use Rattle.stdio.specs.Readers.{TakesLines, OutsideFixes, after_call, to_come, Countable, Follows, Answers, last_lines}

-- what two constructors of `Given` give that are not the same
pub never : {A : Type 0} → false ≡ true → A
never e = let y : ◌≡◌ {A = ℕ} 0 1 = cc in absurd (omega arith)

-- a turn leaves fewer calls
pub turn_left : (p : Input) (room : List ℕ) (q : Input) (room' : List ℕ) (b : Bool) (d : Input) → 0 < p.left → Gives p room q room' → d ≡ settled_if b q
    → d.left < p.left
unfolding settled_if
turn_left p room q room' true d going g e = let z : d.left ≡ 0 = ap (λ (x : Input). x.left) e in omega arith
turn_left p room q room' false d going g e = let z : d.left ≡ q.left = ap (λ (x : Input). x.left) e in omega (arith, g.fewer)

-- ---- a line that is begun: it is closed or the input ends in it

pub begun_line_ends : (l xs : List ℕ) → 0 < length l → (P : List InputLine → Type 0)
    → ((rest : List ℕ) (ls : List InputLine) → P (closed_line (l ++ rest) ∷ ls)) → ((rest : List ℕ) → P (open_line (l ++ rest) ∷ []))
    → P (split_lines l xs)
unfolding split_lines
begun_line_ends l [] some P c o =
    rw (ne_eqb (length l) 0 (λ z. absurd (omega arith))) (subst (λ (w : List ℕ). P (open_line w ∷ [])) (append-nil l) (o []))
begun_line_ends l (x ∷ xs) some P c o =
    let more : (rest : List ℕ) → l ++ (x ∷ rest) ≡ (l ++ (x ∷ [])) ++ rest = λ rest. sym (append_assoc l (x ∷ []) rest) in
    go (eqb x newline)
    (begun_line_ends (l ++ (x ∷ [])) xs (omega (arith, length-append l (x ∷ []))) P
    (λ rest ls. subst (λ (w : List ℕ). P (closed_line w ∷ ls)) (more rest) (c (x ∷ rest) ls))
    (λ rest. subst (λ (w : List ℕ). P (open_line w ∷ [])) (more rest) (o (x ∷ rest))))
  where
    go : (b : Bool) → P (split_lines (l ++ (x ∷ [])) xs) → P (if b then (closed_line l ∷ split_lines [] xs) else split_lines (l ++ (x ∷ [])) xs)
    go true k = subst (λ (w : List ℕ). P (closed_line w ∷ split_lines [] xs)) (append-nil l) (c [] (split_lines [] xs))
    go false k = k

module _ {S A : Type 0} (answer : S → List InputLine → A) (reads : Bool) (input : List ℕ) (s₀ : S) where
  -- ---- nothing is asked for yet

  begun : (more : List ℕ) → (b : Bool) → reads ≡ b → lines_left (begin reads (length input)) input more ≡ input_lines ((if b then [] else input) ++ more)
  unfolding lines_left begin begun_line given_number input_lines empty_line
  begun more true e = rw e
  begun more false e = rw e (ap (λ (w : List ℕ). split_lines [] (w ++ more)) (take_all (length input - 0) input (omega arith)))

  pub begins : (p : Input) (s : S) → p ≡ begin reads (length input) → s ≡ s₀ → Follows answer reads input s₀ p input s
  unfolding to_come given_number begin
  begins p s e f = subst (λ (x : Input). Follows answer reads input s₀ x input s) (sym e) (go reads refl)
    where
      go : (b : Bool) → reads ≡ b → Follows answer reads input s₀ (begin reads (length input)) input s
      go b i =
          record {
            read = if b then [] else input;
            in_memory = λ z. (let y = sym i ∙ z in rw y, refl);
            source = refl;
            fits = rw i (ends b);
            same = λ more. rw f (ap (answer s₀) (sym (begun more b i)));
            ended = λ z. let y : ◌≡◌ {A = ℕ} 0 1 = cc in absurd (omega arith);
            over = λ z. never (sym z);
            on = λ z. omega arith;
            long = λ z. let y : ◌≡◌ {A = ℕ} 0 1 = cc in absurd (omega arith);
            never_fails = λ z few. (refl, λ y. rw z (omega arith));
          }
        where
          ends : (b : Bool) → (0 ≤ (if b then 0 else length input)) × ((if b then 0 else length input) ≤ length input)
          ends true = (omega arith, omega arith)
          ends false = (omega arith, omega arith)

  -- ---- a call for a line

  module _ (take_line : S → List ℕ → S) (takes : TakesLines answer take_line) where
    call_given : (s : S) (room : List ℕ) (q : Input) (more : List ℕ) → (q.given ≡ Line → length (line_bytes q.line) ≤ 40) → (q.given ≡ Settled → ⊥)
        → answer s (with_line q (lines_left q room more)) ≡ answer (after_call take_line s q) (to_come q room more)
    unfolding with_line to_come after_call given_number
    call_given s room q more short settled = go q.given refl
      where
        go : (g : Given) → q.given ≡ g → answer s (with_line q (lines_left q room more)) ≡ answer (after_call take_line s q) (to_come q room more)
        go Part e = rw e
        go Line e = rw e (takes s (line_bytes q.line) _ (short e))
        go TooLong e = rw e
        go Settled e = absurd (settled e)
        go Ended e = rw e
        go ReadFailed e = rw e
        go WriteFailed e = rw e

    going_open : (p : Input) (room more : List ℕ) → goes_on p.given ≡ true → to_come p room more ≡ lines_left p room more
    unfolding to_come given_number
    going_open p room more e = go p.given refl
      where
        go : (g : Given) → p.given ≡ g → to_come p room more ≡ lines_left p room more
        go Part i = rw i
        go Line i = rw i
        go TooLong i = rw i
        go Settled i = never (rw i at e)
        go Ended i = rw i
        go ReadFailed i = rw i
        go WriteFailed i = rw i

    module _ (p : Input) (room : List ℕ) (s : S) (q : Input) (room' : List ℕ) (f : Follows answer reads input s₀ p room s) (going : 0 < p.left)
        (g : Gives p room q room') where
      still_on : goes_on p.given ≡ true
      still_on = go (goes_on p.given) refl
        where
          go : (b : Bool) → goes_on p.given ≡ b → b ≡ true
          go true e = refl
          go false e = let z = f.over e in absurd (omega arith)

      enough : reads ≡ false → Countable input → (failed q.given ≡ false) × (goes_on q.given ≡ true → bytes_left q + 1 < q.left)
      enough z few =
          let m = g.in_memory (f.source ∙ z) in
          let n : bytes_left p + 1 < p.left = (f.never_fails z few).1 still_on in
          (go (failed q.given) refl n m.fails, λ on. let u = m.uses_one on in omega arith)
        where
          go : (b : Bool) → failed q.given ≡ b → bytes_left p + 1 < p.left → (failed q.given ≡ true → p.left < 2) → b ≡ false
          go true e n fails = let l = fails e in absurd (omega arith)
          go false e n fails = refl

      pub follows_call : Follows answer reads input s₀ q room' (after_call take_line s q)
      follows_call =
          record {
            read = f.read ++ g.read;
            in_memory = λ z.
                let m = g.in_memory (f.source ∙ z) in
                let i = f.in_memory z in
                (ap (λ (w : List ℕ). f.read ++ w) m.none_read ∙ append-nil f.read ∙ i.0, m.kept ∙ i.1);
            source = g.source ∙ f.source;
            fits = g.fits;
            same = λ more. ap (λ (w : List ℕ). answer s₀ (input_lines w)) (append_assoc f.read g.read more)
                ∙ f.same (g.read ++ more)
                ∙ ap (answer s) (going_open p room (g.read ++ more) still_on ∙ g.same more)
                ∙ call_given s room' q more g.short g.not_settled;
            ended = g.ended;
            over = g.over;
            on = g.on;
            long = g.long;
            never_fails = enough;
          }

  -- a line fixed the answer, or did not
  pub follows_settled : (p : Input) (room : List ℕ) (s : S) (b : Bool) → (b ≡ true → (ls : List InputLine) → answer s ls ≡ answer s [])
      → Follows answer reads input s₀ p room s → Follows answer reads input s₀ (settled_if b p) room s
  unfolding settled_if to_come given_number
  follows_settled p room s true h f =
      record {
        read = f.read;
        in_memory = f.in_memory;
        source = f.source;
        fits = f.fits;
        same = λ more. f.same more ∙ h refl (to_come p room more);
        ended = λ z. let y : ◌≡◌ {A = ℕ} 0 1 = cc in absurd (omega arith);
        over = λ z. refl;
        on = λ z. never z;
        long = λ z. let y : ◌≡◌ {A = ℕ} 0 1 = cc in absurd (omega arith);
        never_fails = λ z few. (refl, λ y. never y);
      }
  follows_settled p room s false h f = f

  -- ---- one turn

  pub turn : (take_line : S → List ℕ → S) → TakesLines answer take_line → (p : Input) (room : List ℕ) (s : S) (q : Input) (room' : List ℕ) (t : S)
      (b : Bool) (d : Input) → Follows answer reads input s₀ p room s → 0 < p.left → Gives p room q room' → t ≡ after_call take_line s q
      → (b ≡ true → (ls : List InputLine) → answer t ls ≡ answer t []) → d ≡ settled_if b q → Follows answer reads input s₀ d room' t
  turn take_line takes p room s q room' t b d f going g taken decides e =
      subst (λ (x : Input). Follows answer reads input s₀ x room' t) (sym e)
      (follows_settled q room' t b decides
      (subst (λ (x : S). Follows answer reads input s₀ q room' x) (sym taken) (follows_call take_line takes p room s q room' f going g)))

  -- ---- the end

  module _ (p : Input) (room : List ℕ) (s : S) (line : length p.line.bytes ≡ 41) (stopped : p.left ≤ 0)
      (f : Follows answer reads input s₀ p room s) where
    no_more : goes_on p.given ≡ false
    no_more = go (goes_on p.given) refl
      where
        go : (b : Bool) → goes_on p.given ≡ b → b ≡ false
        go true e = let z = f.on e in absurd (omega arith)
        go false e = refl

    -- in the middle of a line or not
    left_at_end : p.given ≡ Ended → to_come p room [] ≡ last_lines p
    unfolding to_come lines_left begun_line given_number last_lines cut_off split_lines
    left_at_end e = rw (e, f.ended e) (go p.line.len refl)
      where
        go : (n : ℕ) → p.line.len ≡ n
            → (if eqb (length (line_bytes p.line)) 0 then [] else (open_line (line_bytes p.line) ∷ []))
            ≡ (if not (eqb p.line.len 0) then (open_line (line_bytes p.line) ∷ []) else [])
        go zero i = rw i
        go (suc n) i =
            rw (
              ne_eqb (length (line_bytes p.line)) 0 (λ z. absurd (omega (arith, length-take p.line.len p.line.bytes))),
              ne_eqb p.line.len 0 (λ z. absurd (omega arith)),
            )

    -- a line that is too long gives, whatever follows, what one that is not closed gives
    module _ (fixes : p.given ≡ TooLong → (more : List ℕ)
        → answer s (split_lines (line_bytes p.line) (pending p room ++ more)) ≡ answer s (open_line (line_bytes p.line) ∷ [])) where
      left_fixed : fixed p.given ≡ true → (more : List ℕ) → answer s (to_come p room more) ≡ answer s (last_lines p)
      unfolding to_come given_number last_lines cut_off lines_left begun_line
      left_fixed e more = go p.given refl
        where
          go : (g : Given) → p.given ≡ g → answer s (to_come p room more) ≡ answer s (last_lines p)
          go Part i = never (rw i at e)
          go Line i = never (rw i at e)
          go TooLong i = rw i (fixes i more)
          go Settled i = rw i
          go Ended i = never (rw i at e)
          go ReadFailed i = never (rw i at e)
          go WriteFailed i = never (rw i at e)

      pub ends_at : Answers (λ xs. answer s₀ (input_lines xs)) reads input p (answer s (last_lines p))
      ends_at =
          record {
            read = f.read;
            in_memory = λ z. (f.in_memory z).0;
            over = no_more;
            never_fails = λ z few. (f.never_fails z few).0;
            whole = λ e. ap (λ (w : List ℕ). answer s₀ (input_lines w)) (sym (append-nil f.read)) ∙ f.same [] ∙ ap (answer s) (left_at_end e);
            whatever = λ e more. f.same more ∙ left_fixed e more;
          }

  pub comes_to : OutsideFixes answer → (p : Input) (room : List ℕ) (s : S) → length p.line.bytes ≡ 41 → p.left ≤ 0
      → Follows answer reads input s₀ p room s → Answers (λ xs. answer s₀ (input_lines xs)) reads input p (answer s (last_lines p))
  unfolding admissible
  comes_to outside p room s line stopped f =
      let l = line_bytes p.line in
      let longer : (rest : List ℕ) → p.given ≡ TooLong → 40 < length (l ++ rest) = λ rest i. omega (arith, f.long i, length-append l rest) in
      ends_at p room s line stopped f (λ i more.
      begun_line_ends l (pending p room ++ more) (omega (arith, f.long i)) (λ ls. answer s ls ≡ answer s (open_line l ∷ []))
      (λ rest ls. outside s (closed_line (l ++ rest)) (open_line l) ls (lt-leb _ _ (longer rest i)) refl)
      (λ rest. outside s (open_line (l ++ rest)) (open_line l) [] refl refl))

-- ---- an input in memory is answered exactly

pub exact_answer : {A : Type 0} (f : List ℕ → A) (input : List ℕ) (p : Input) (a : A) → Countable input → Answers f false input p a → f input ≡ a
unfolding given_number
exact_answer f input p a few x = go p.given refl
  where
    same : f input ≡ f x.read
    same = sym (ap f (x.in_memory refl))

    go : (g : Given) → p.given ≡ g → f input ≡ a
    go Part e = never (sym (rw e at x.over))
    go Line e = never (sym (rw e at x.over))
    go TooLong e = same ∙ ap f (sym (append-nil x.read)) ∙ x.whatever (rw e) []
    go Settled e = same ∙ ap f (sym (append-nil x.read)) ∙ x.whatever (rw e) []
    go Ended e = same ∙ x.whole e
    go ReadFailed e = never (sym (x.never_fails refl few) ∙ rw e)
    go WriteFailed e = never (sym (x.never_fails refl few) ∙ rw e)
