-- Laws of passing over the rest of a line: a line whose first bytes stand before it, and one call after the other. Assumes nothing.
use Rattle.std.specs.Prelude.{if◌then◌else◌}
use mathlib.Core.Path.{◌≡◌, refl, sym, ap, subst, ◌∙◌}
use mathlib.Core.List.{List, [], ◌∷◌, ◌++◌, append_assoc, append-nil}
use mathlib.Core.Logic.{inl, inr}
use mathlib.Core.Bool.{Bool, true, false}
use Prim.Native.Nat.{ℕ, ◌+◌, ◌-◌, ◌<◌, ◌≤◌}
use native.Mathlib.Omega.{arith}
use borrow.Author.Tests.{ne_eqb}
use lib.Dec.{eqb}
use lib.ListN.{length, length-append}
use Rattle.session.specs.Keys.{newline}
use Rattle.session.specs.Grammar.{InputLine, closed_line, open_line, split_lines}
use Rattle.partial_line.specs.PartialLines.{line_bytes}
use Rattle.stdio.specs.declared.input.Given.{Given}
use Rattle.stdio.specs.declared.input.Given.TheVariants.{Part, Line, TooLong, Settled, Ended, ReadFailed, WriteFailed}
use Rattle.stdio.specs.declared.input.Input.{Input}
use Rattle.stdio.specs.Inputs.{given_number, is_line, goes_on, failed, begun_line, pending, Fits, lines_left, with_line, bytes_left, most_calls}
use Rattle.stdio.specs.Inputs.{Gives}
use Rattle.stdio.specs.Loops.{never}
use Rattle.stdio.specs.LongLines.{resumed, passed, line_of, Over, Closes}

-- ---- bytes before the first of some lines

unfoldable prefixed : List ℕ → List InputLine → List InputLine
prefixed a [] = open_line a ∷ []
prefixed a (l ∷ ls) = record { bytes = a ++ l.bytes; closed = l.closed } ∷ ls

longer : (a b : List ℕ) → 0 < length a → eqb (length (a ++ b)) 0 ≡ false
longer a b some = ne_eqb (length (a ++ b)) 0 (λ z. omega (arith, length-append a b))

split_prefixed : (a b xs : List ℕ) → 0 < length a → split_lines (a ++ b) xs ≡ prefixed a (split_lines b xs)
unfolding split_lines prefixed
split_prefixed a [] [] some = rw (longer a [] some) (ap (λ (w : List ℕ). open_line w ∷ []) (append-nil a))
split_prefixed a (y ∷ b) [] some = rw (longer a (y ∷ b) some, ne_eqb (length (y ∷ b)) 0 (λ z. absurd (omega arith)))
split_prefixed a b (x ∷ xs) some = go (eqb x newline) (split_prefixed a (b ++ (x ∷ [])) xs some)
  where
    go : (c : Bool) → split_lines (a ++ (b ++ (x ∷ []))) xs ≡ prefixed a (split_lines (b ++ (x ∷ [])) xs)
        → (if c then (closed_line (a ++ b) ∷ split_lines [] xs) else split_lines ((a ++ b) ++ (x ∷ [])) xs)
        ≡ prefixed a (if c then (closed_line b ∷ split_lines [] xs) else split_lines (b ++ (x ∷ [])) xs)
    go true ih = refl
    go false ih = ap (λ (w : List ℕ). split_lines w xs) (append_assoc a b (x ∷ [])) ∙ ih

given_line : (a : List ℕ) (t : Input) (room more : List ℕ) → t.given ≡ Line
    → prefixed a (with_line t (lines_left t room more)) ≡ closed_line (a ++ line_bytes t.line) ∷ split_lines [] (pending t room ++ more)
unfolding prefixed with_line lines_left begun_line given_number
given_line a t room more e = rw e

-- ---- the rest of the line at p, as far as it is passed over

pub record Passing (p : Input) (room : List ℕ) (q : Input) (room' : List ℕ) : Type 0 where
  pub read : List ℕ
  pub in_memory : p.reads ≡ false → (read ≡ []) × (room' ≡ room)
  pub source : q.reads ≡ p.reads
  pub fits : Fits q room'
  pub rest : List ℕ
  pub going : q.given ≡ Part → (q.line.len ≡ 0)
      × ((more : List ℕ) → lines_left p room (read ++ more) ≡ split_lines (line_bytes p.line ++ rest) (pending q room' ++ more))
  pub closed : q.given ≡ Settled → (more : List ℕ)
      → lines_left p room (read ++ more) ≡ closed_line (line_bytes p.line ++ rest) ∷ split_lines [] (pending q room' ++ more)
  pub ended : q.given ≡ Ended → lines_left p room read ≡ open_line (line_bytes p.line ++ rest) ∷ []
  pub on : 0 < q.left → q.given ≡ Part
  pub over : q.left ≤ 0 → Over q.given
  pub never_fails : p.reads ≡ false → bytes_left p + 2 ≤ most_calls → (failed q.given ≡ false) × (0 < q.left → bytes_left q + 1 < q.left)

pub passing_none : (p : Input) (room : List ℕ) (n : ℕ) → Fits p room → p.given ≡ TooLong → 0 < n → most_calls ≤ n → Passing p room (resumed p n) room
unfolding lines_left begun_line given_number
passing_none p room n f e l m =
    record {
      read = [];
      in_memory = λ z. (refl, refl);
      source = refl;
      fits = f;
      rest = [];
      going = λ z. (refl, λ more. rw (e, append-nil (line_bytes p.line)));
      closed = λ z. let y : ◌≡◌ {A = ℕ} 0 1 = cc in absurd (omega arith);
      ended = λ z. let y : ◌≡◌ {A = ℕ} 0 1 = cc in absurd (omega arith);
      on = λ z. refl;
      over = λ z. absurd (omega arith);
      never_fails = λ z few. (refl, λ y. omega arith);
    }

module _ (p : Input) (room : List ℕ) (some : 0 < length (line_bytes p.line)) (q : Input) (room' : List ℕ) (f : Passing p room q room') (left : 0 < q.left)
    (t : Input) (room'' : List ℕ) (g : Gives q room' t room'') where
  l : List ℕ
  l = line_bytes p.line ++ f.rest

  some_more : 0 < length l
  unfolding l
  some_more = omega (arith, length-append (line_bytes p.line) f.rest)

  read : List ℕ
  read = f.read ++ g.read

  -- what the call gave, behind the bytes before it
  behind : (more : List ℕ) → lines_left p room (read ++ more) ≡ prefixed l (with_line t (lines_left t room'' more))
  unfolding lines_left begun_line given_number l read
  behind more =
      let part = f.on left in
      let at = f.going part in
      let xs = pending q room' ++ (g.read ++ more) in
      let here : lines_left q room' (g.read ++ more) ≡ split_lines [] xs =
      rw (part, at.0) in
      ap (lines_left p room) (append_assoc f.read g.read more)
      ∙ at.1 (g.read ++ more)
      ∙ ap (λ (w : List ℕ). split_lines w xs) (sym (append-nil l))
      ∙ split_prefixed l [] xs some_more
      ∙ ap (prefixed l) (sym here ∙ g.same more)

  joined : l ++ line_bytes t.line ≡ line_bytes p.line ++ (f.rest ++ line_bytes t.line)
  unfolding l
  joined = append_assoc (line_bytes p.line) f.rest (line_bytes t.line)

  still_none : p.reads ≡ false → (read ≡ []) × (room'' ≡ room)
  unfolding read
  still_none z =
      let m = g.in_memory (f.source ∙ z) in
      let i = f.in_memory z in
      (ap (λ (w : List ℕ). w ++ g.read) i.0 ∙ m.none_read, m.kept ∙ i.1)

  -- over an input in memory every call uses a byte, so that none fails
  no_failure : p.reads ≡ false → bytes_left p + 2 ≤ most_calls → failed t.given ≡ false
  no_failure z few = go (failed t.given) refl
    where
      go : (b : Bool) → failed t.given ≡ b → b ≡ false
      go true e = let l = (g.in_memory (f.source ∙ z)).fails e in let n = (f.never_fails z few).1 left in absurd (omega arith)
      go false e = refl

  -- a part of the line: it goes on
  piece : is_line t.given ≡ false → failed t.given ≡ false → (p.reads ≡ false → bytes_left t < bytes_left q) → (n : ℕ) → n ≡ q.left - 1
      → Passing p room (resumed t n) room''
  unfolding lines_left begun_line with_line given_number
  piece e works fewer n k =
      record {
        read = read;
        in_memory = still_none;
        source = g.source ∙ f.source;
        fits = g.fits;
        rest = f.rest ++ line_bytes t.line;
        going = λ z. (
          refl,
          λ more. behind more
              ∙ rw e (sym (split_prefixed l (line_bytes t.line) (pending t room'' ++ more) some_more))
              ∙ ap (λ (w : List ℕ). split_lines w (pending t room'' ++ more)) joined,
        );
        closed = λ z. let y : ◌≡◌ {A = ℕ} 0 1 = cc in absurd (omega arith);
        ended = λ z. let y : ◌≡◌ {A = ℕ} 0 1 = cc in absurd (omega arith);
        on = λ z. refl;
        over = λ z. never (sym works ∙ g.no_calls (omega arith));
        never_fails = λ z few. let m = (f.never_fails z few).1 left in (refl, λ y. omega (arith, fewer z));
      }

  -- byte 10
  closing : t.given ≡ Line → (n : ℕ) → Passing p room (passed Line t n) room''
  unfolding passed given_number
  closing e n =
      record {
        read = read;
        in_memory = still_none;
        source = g.source ∙ f.source;
        fits = g.fits;
        rest = f.rest ++ line_bytes t.line;
        going = λ z. let y : ◌≡◌ {A = ℕ} 0 1 = cc in absurd (omega arith);
        closed = λ z more. behind more ∙ given_line l t room'' more e
            ∙ ap (λ (w : List ℕ). closed_line w ∷ split_lines [] (pending t room'' ++ more)) joined;
        ended = λ z. let y : ◌≡◌ {A = ℕ} 0 1 = cc in absurd (omega arith);
        on = λ z. absurd (omega arith);
        over = λ z. inl refl;
        never_fails = λ z few. (refl, λ y. absurd (omega arith));
      }

  -- the end, or a read that failed
  stops : goes_on t.given ≡ false → is_line t.given ≡ false → (t.given ≡ Settled → ⊥) → (t.given ≡ Part → ⊥) → Over t.given
      → Passing p room t room''
  unfolding lines_left begun_line with_line split_lines
  stops no_more e not_settled not-part over =
      record {
        read = read;
        in_memory = still_none;
        source = g.source ∙ f.source;
        fits = g.fits;
        rest = f.rest ++ line_bytes t.line;
        going = λ z. absurd (not-part z);
        closed = λ z. absurd (not_settled z);
        ended = λ z. ap (lines_left p room) (sym (append-nil read)) ∙ behind [] ∙ at_end z;
        on = λ z. absurd (omega (arith, g.over no_more));
        over = λ z. over;
        never_fails = λ z few. (no_failure z few, λ y. absurd (omega (arith, g.over no_more)));
      }
    where
      at_end : t.given ≡ Ended → prefixed l (with_line t (lines_left t room'' [])) ≡ open_line (line_bytes p.line ++ (f.rest ++ line_bytes t.line)) ∷ []
      at_end z =
          ap (prefixed l) (rw (e, g.ended z))
          ∙ sym (split_prefixed l (line_bytes t.line) [] some_more)
          ∙ rw (longer l (line_bytes t.line) some_more) (ap (λ (w : List ℕ). open_line w ∷ []) joined)

  begun_short : (begun_line q).len < 41
  unfolding begun_line given_number
  begun_short = let part = f.on left in rw part (omega (arith, (f.going part).0))

  pub passing_call : (n : ℕ) → n ≡ q.left - 1 → (r : Input) → r ≡ passed t.given t n → Passing p room r room''
  unfolding passed given_number
  passing_call n k r i = subst (λ (x : Input). Passing p room x room'') (sym i) (go t.given refl)
    where
      go : (x : Given) → t.given ≡ x → Passing p room (passed x t n) room''
      go Part e = piece (rw e) (rw e) (λ z. ((g.in_memory (f.source ∙ z)).uses_one (rw e)).0) n k
      go Line e = closing e n
      go TooLong e = piece (rw e) (rw e) (λ z. (g.in_memory (f.source ∙ z)).long_uses e begun_short) n k
      go Settled e = absurd (g.not_settled e)
      go Ended e =
          stops (rw e) (rw e) (λ z. let y : ◌≡◌ {A = ℕ} 0 1 = cc in absurd (omega arith))
          (λ z. let y : ◌≡◌ {A = ℕ} 0 1 = cc in absurd (omega arith)) (inr (inl e))
      go ReadFailed e =
          stops (rw e) (rw e) (λ z. let y : ◌≡◌ {A = ℕ} 0 1 = cc in absurd (omega arith))
          (λ z. let y : ◌≡◌ {A = ℕ} 0 1 = cc in absurd (omega arith)) (inr (inr (rw e)))
      go WriteFailed e =
          stops (rw e) (rw e) (λ z. let y : ◌≡◌ {A = ℕ} 0 1 = cc in absurd (omega arith))
          (λ z. let y : ◌≡◌ {A = ℕ} 0 1 = cc in absurd (omega arith)) (inr (inr (rw e)))

-- how many calls are left
pub passing_less : (t : Input) (n : ℕ) → t.left ≤ n → (passed t.given t n).left ≤ n
unfolding passed
passing_less t n h = go t.given
  where
    go : (x : Given) → (passed x t n).left ≤ n
    go Part = omega arith
    go Line = omega arith
    go TooLong = omega arith
    go Settled = h
    go Ended = h
    go ReadFailed = h
    go WriteFailed = h

pub closes_at : (p : Input) (room : List ℕ) (q : Input) (room' : List ℕ) → q.left ≤ 0 → Passing p room q room' → Closes p room (line_of p q) room'
closes_at p room q room' done f =
    record {
      read = f.read;
      in_memory = f.in_memory;
      rest = f.rest;
      closed = f.closed;
      ended = f.ended;
      over = f.over done;
      never_fails = λ z few. (f.never_fails z few).0;
    }
