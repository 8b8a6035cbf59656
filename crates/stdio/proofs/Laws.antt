-- Laws of one call for a line: bytes at hand that make a line, a part of one or one that is too long, and no bytes. Assumes nothing.
use Rattle.std.specs.Prelude.{if◌then◌else◌}
use mathlib.Core.Path.{◌≡◌, refl, sym, ap, subst, ◌∙◌}
use mathlib.Core.List.{List, [], ◌∷◌, ◌++◌, append_assoc, append-nil}
use mathlib.Core.Bool.{Bool, true, false, not}
use Prim.Native.Nat.{ℕ, zero, suc, ◌+◌, ◌-◌, ◌<◌, ◌≤◌}
use native.Mathlib.Omega.{arith}
use borrow.Author.Tests.{ltb-true, ltb-false}
use lib.Dec.{ltb}
use lib.ListN.{length, take, drop, length-take, length-drop}
use lib.Seq.{drop-drop, take-nil, length-take-le}
use Rattle.session.specs.Grammar.{closed_line, split_lines}
use Rattle.partial_line.specs.declared.PartialLine.{PartialLine}
use Rattle.partial_line.specs.declared.Filled.{Filled}
use Rattle.partial_line.specs.PartialLines.{line_bytes}
use Rattle.partial_line.specs.Filling.{Fills}
use Rattle.stdio.specs.Loops.{never}
use Rattle.stdio.specs.declared.input.Given.{Given}
use Rattle.stdio.specs.declared.input.Given.TheVariants.{Part, Line, TooLong, Settled, Ended, ReadFailed}
use Rattle.stdio.specs.declared.input.Input.{Input}
use Rattle.stdio.specs.Inputs.{given_number, is_line, goes_on, failed, begun_line, given_of, left_of, stopped_at, at_hand, pending, Fits}
use Rattle.stdio.specs.Inputs.{lines_left, with_line, Taken, InMemory, Gives}

-- ---- the bytes at hand

drop_take : (n m : ℕ) (l : List ℕ) → drop n (take m l) ≡ take (m - n) (drop n l)
drop_take zero m l = let e : m ≡ m - 0 = omega arith in ap (λ (n : ℕ). take n l) e
drop_take (suc n) zero l = let e : 0 ≡ 0 - suc n = omega arith in ap (λ (k : ℕ). take k (drop (suc n) l)) e
drop_take (suc n) (suc m) [] = sym (take-nil (suc m - suc n))
drop_take (suc n) (suc m) (x ∷ xs) =
    let e : m - n ≡ suc m - suc n = omega arith in drop_take n m xs ∙ ap (λ (k : ℕ). take k (drop n xs)) e

used_up : (at end used : ℕ) (room : List ℕ) → drop used (at_hand at end room) ≡ at_hand (at + used) end room
used_up at end used room =
    let e : end - at - used ≡ end - (at + used) = omega arith in
    drop_take used (end - at) (drop at room)
    ∙ ap (λ (n : ℕ). take n (drop used (drop at room))) e
    ∙ ap (λ (w : List ℕ). take (end - (at + used)) w) (drop-drop used at room)

hand_length : (at end : ℕ) (room : List ℕ) → length (at_hand at end room) ≤ end - at
hand_length at end room = omega (arith, length-take (end - at) (drop at room))

-- ---- bytes at hand

abbrev pub taken_input : ℕ → ℕ → Bool → ℕ → ℕ → Filled → Given → Input
taken_input at end reads number m r g =
    record { at = at + r.used; end = end; reads = reads; number = number; left = m; line = r.line; given = g }

module _ (h : PartialLine) (at end number n m : ℕ) (reads : Bool) (room : List ℕ) (r : Filled) (below : at ≤ end) (within : end ≤ length room)
    (f : Fills h (at_hand at end room) r) where
  hand_whole : at < end → length (at_hand at end room) ≡ end - at
  hand_whole l = length-take-le (end - at) (drop at room) (rw (length-drop at room) (omega arith))

  some : at < end → h.len < 41 → at < at + r.used
  some l short = let u = f.some_used (omega (arith, hand_whole l)) short in omega arith

  fitting : (g : Given) → Fits (taken_input at end reads number m r g) room
  fitting g = let u = f.within in let l = hand_length at end room in (omega arith, within)

  whole : r.closed ≡ true → m ≡ left_of Line n → Taken h at end reads n room (taken_input at end reads number m r Line)
  unfolding lines_left with_line begun_line given_number
  whole e k =
      record {
        source = refl;
        fits = fitting Line;
        same = λ more. f.closes e more
            ∙ ap (λ (w : List ℕ). closed_line (line_bytes r.line) ∷ split_lines [] (w ++ more)) (used_up at end r.used room);
        short = λ g. let s = f.short e in omega (arith, length-take r.line.len r.line.bytes);
        long = λ g. let z : ◌≡◌ {A = ℕ} 0 1 = cc in absurd (omega arith);
        left = k;
        not_settled = λ g. let z : ◌≡◌ {A = ℕ} 0 1 = cc in absurd (omega arith);
        not_ended = λ g. let z : ◌≡◌ {A = ℕ} 0 1 = cc in absurd (omega arith);
        not_failed = refl;
        onward = (omega arith, refl);
        uses = λ g l. let u = f.uses e in omega arith;
        line_uses = λ g. let u = f.uses e in omega arith;
        some_used = some;
      }

  open_line_left : r.closed ≡ false → (g : Given) → is_line g ≡ false → (more : List ℕ)
      → split_lines (line_bytes h) (at_hand at end room ++ more)
      ≡ with_line (taken_input at end reads number m r g) (lines_left (taken_input at end reads number m r g) room more)
  unfolding lines_left with_line begun_line
  open_line_left e g z more =
      rw z (f.goes_on e more ∙ ap (λ (w : List ℕ). split_lines (line_bytes r.line) (w ++ more)) (used_up at end r.used room))

  part : r.closed ≡ false → r.line.len < 41 → m ≡ left_of Part n → Taken h at end reads n room (taken_input at end reads number m r Part)
  unfolding given_number
  part e short k =
      record {
        source = refl;
        fits = fitting Part;
        same = open_line_left e Part refl;
        short = λ g. let z : ◌≡◌ {A = ℕ} 0 1 = cc in absurd (omega arith);
        long = λ g. let z : ◌≡◌ {A = ℕ} 0 1 = cc in absurd (omega arith);
        left = k;
        not_settled = λ g. let z : ◌≡◌ {A = ℕ} 0 1 = cc in absurd (omega arith);
        not_ended = λ g. let z : ◌≡◌ {A = ℕ} 0 1 = cc in absurd (omega arith);
        not_failed = refl;
        onward = (omega arith, refl);
        uses = λ g l. let u = f.whole e short in omega (arith, hand_whole l);
        line_uses = λ g. let z : ◌≡◌ {A = ℕ} 0 1 = cc in absurd (omega arith);
        some_used = some;
      }

  too_long : r.closed ≡ false → 41 ≤ r.line.len → m ≡ left_of TooLong n
      → Taken h at end reads n room (taken_input at end reads number m r TooLong)
  unfolding given_number
  too_long e l k =
      record {
        source = refl;
        fits = fitting TooLong;
        same = open_line_left e TooLong refl;
        short = λ g. let z : ◌≡◌ {A = ℕ} 0 1 = cc in absurd (omega arith);
        long = λ g. omega (arith, length-take r.line.len r.line.bytes, f.room);
        left = k;
        not_settled = λ g. let z : ◌≡◌ {A = ℕ} 0 1 = cc in absurd (omega arith);
        not_ended = λ g. let z : ◌≡◌ {A = ℕ} 0 1 = cc in absurd (omega arith);
        not_failed = refl;
        onward = (omega arith, refl);
        uses = λ g. let z : ◌≡◌ {A = ℕ} 0 1 = cc in absurd (omega arith);
        line_uses = λ g. let z : ◌≡◌ {A = ℕ} 0 1 = cc in absurd (omega arith);
        some_used = some;
      }

  pub taken_as : (g : Given) → g ≡ given_of r.closed r.line.len → m ≡ left_of g n
      → Taken h at end reads n room (taken_input at end reads number m r g)
  unfolding given_of
  taken_as g e k = go r.closed refl (ltb r.line.len 41) refl e k
    where
      go : (b : Bool) → r.closed ≡ b → (a : Bool) → ltb r.line.len 41 ≡ a → g ≡ (if b then Line else if a then Part else TooLong)
          → m ≡ left_of g n → Taken h at end reads n room (taken_input at end reads number m r g)
      go true c a l i = subst (λ (x : Given). m ≡ left_of x n → Taken h at end reads n room (taken_input at end reads number m r x)) (sym i) (whole c)
      go false c true l i = subst (λ (x : Given). m ≡ left_of x n → Taken h at end reads n room (taken_input at end reads number m r x)) (sym i)
          (part c (ltb-true _ _ l))
      go false c false l i =
          subst (λ (x : Given). m ≡ left_of x n → Taken h at end reads n room (taken_input at end reads number m r x)) (sym i)
          (too_long c (ltb-false _ _ l))

-- ---- one call

left_falls : (g : Given) (n : ℕ) → left_of g n ≤ n
unfolding left_of
left_falls g n = go (goes_on g)
  where
    go : (b : Bool) → (if b then n else 0) ≤ n
    go true = omega arith
    go false = omega arith

left_over : (g : Given) (n : ℕ) → goes_on g ≡ false → left_of g n ≡ 0
unfolding left_of
left_over g n e = rw e

left_on : (g : Given) (n : ℕ) → goes_on g ≡ true → left_of g n ≡ n
unfolding left_of
left_on g n e = rw e

module _ (p : Input) (room : List ℕ) (h : PartialLine) (e : h ≡ begun_line p) where
  nothing_pending : p.end ≤ p.at → pending p room ≡ []
  nothing_pending l = let z : p.end - p.at ≡ 0 = omega arith in ap (λ (n : ℕ). take n (drop p.at room)) z

  -- bytes at hand, or read where none were
  gives_taken : (at end n : ℕ) (room' read : List ℕ) (q : Input) → n ≡ p.left - 1 → 0 < n
      → (p.reads ≡ false → (read ≡ []) × (room' ≡ room) × (at ≡ p.at) × (end ≡ p.end) × (p.at < p.end))
      → pending p room ++ read ≡ at_hand at end room' → (p.at < p.end → (at ≡ p.at) × (end ≡ p.end)) → Taken h at end p.reads n room' q
      → Gives p room q room'
  unfolding lines_left
  gives_taken at end n room' read q k pos still bytes hand t =
      record {
        read = read;
        in_memory = λ z.
            let m = still z in
            let o = t.onward in
            record {
              none_read = m.0;
              kept = m.1;
              fewer_bytes = omega arith;
              uses_one = λ on. let u = t.uses on (omega arith) in (omega (arith, t.fits), t.left ∙ left_on q.given n on ∙ k);
              long_uses = λ y short.
                  let u = t.some_used (omega arith) (subst (λ (x : PartialLine). x.len < 41) (sym e) short) in omega (arith, t.fits);
              fails = λ y. never (sym t.not_failed ∙ y);
            };
        source = t.source;
        fits = t.fits;
        same = λ more. ap (λ (w : List ℕ). split_lines (line_bytes (begun_line p)) w) (sym (append_assoc (pending p room) read more))
            ∙ ap (λ (w : List ℕ). split_lines (line_bytes (begun_line p)) (w ++ more)) bytes
            ∙ ap (λ (g : PartialLine). split_lines (line_bytes g) (at_hand at end room' ++ more)) (sym e)
            ∙ t.same more;
        short = t.short;
        long = t.long;
        ended = λ g. absurd (t.not_ended g);
        not_settled = t.not_settled;
        fewer = omega (arith, t.left, left_falls q.given n);
        over = λ g. t.left ∙ left_over q.given n g;
        on = λ g. omega (arith, t.left, left_on q.given n g);
        no_calls = λ l. absurd (omega arith);
        onward = λ l. let o = t.onward in let z = hand l in (omega (arith, o.0, z.0), o.1 ∙ z.1);
        uses = λ g. let u = t.line_uses g in (omega arith, λ l. let z = hand l in omega (arith, z.0));
      }

  pub gives_at_hand : (n : ℕ) (q : Input) → p.at < p.end → n ≡ p.left - 1 → 0 < n → Taken h p.at p.end p.reads n room q → Gives p room q room
  gives_at_hand n q some k pos t =
      gives_taken p.at p.end n room [] q k pos (λ z. (refl, refl, refl, refl, some)) (append-nil (pending p room)) (λ l. (refl, refl)) t

  pub gives_read : (n count : ℕ) (room' : List ℕ) (q : Input) → n ≡ p.left - 1 → 0 < n → p.end ≤ p.at → not p.reads ≡ false
      → Taken h 0 count p.reads n room' q → Gives p room q room'
  gives_read n count room' q k pos none reads t =
      gives_taken 0 count n room' (at_hand 0 count room') q k pos (λ z. never (sym reads ∙ ap not z))
      (ap (λ (w : List ℕ). w ++ at_hand 0 count room') (nothing_pending none)) (λ l. absurd (omega arith)) t

  -- no more is to be asked for: what was at hand is kept, or there was none
  stopped_gives : (g : Given) (number at end : ℕ) (room' : List ℕ) → is_line g ≡ false → goes_on g ≡ false → (g ≡ Settled → ⊥) → (g ≡ Line → ⊥)
      → (g ≡ TooLong → ⊥) → pending p room ≡ at_hand at end room' → (g ≡ Ended → at_hand at end room' ≡ []) → at ≤ end → end ≤ length room'
      → (p.at < p.end → (p.at ≤ at) × (end ≡ p.end))
      → (p.reads ≡ false → InMemory p room (stopped_at h number p.reads at end g) room' []) → (p.left < 2 → failed g ≡ true)
      → Gives p room (stopped_at h number p.reads at end g) room'
  unfolding lines_left with_line begun_line
  stopped_gives g number at end room' no_line no_more not_settled not-Line not-long bytes none below within hand memory few =
      record {
        read = [];
        in_memory = memory;
        source = refl;
        fits = (below, within);
        same = λ more. rw no_line
            (ap (λ (w : List ℕ). split_lines (line_bytes (begun_line p)) (w ++ more)) bytes
            ∙ ap (λ (x : PartialLine). split_lines (line_bytes x) (at_hand at end room' ++ more)) (sym e));
        short = λ z. absurd (not-Line z);
        long = λ z. absurd (not-long z);
        ended = none;
        not_settled = not_settled;
        fewer = omega arith;
        over = λ z. refl;
        on = λ z. never (sym no_more ∙ z);
        no_calls = few;
        onward = hand;
        uses = λ z. absurd (not-Line z);
      }

  pub gives_ended : (number : ℕ) (room' : List ℕ) (q : Input) → 1 < p.left → p.end ≤ p.at → (p.reads ≡ false → room' ≡ room)
      → q ≡ stopped_at h number p.reads 0 0 Ended → Gives p room q room'
  unfolding given_number
  gives_ended number room' q calls none kept i =
      subst (λ (x : Input). Gives p room x room') (sym i)
      (stopped_gives Ended number 0 0 room' refl refl (λ z. let y : ◌≡◌ {A = ℕ} 0 1 = cc in absurd (omega arith))
      (λ z. let y : ◌≡◌ {A = ℕ} 0 1 = cc in absurd (omega arith))
      (λ z. let y : ◌≡◌ {A = ℕ} 0 1 = cc in absurd (omega arith)) (nothing_pending none) (λ z. refl) (omega arith) (omega arith)
      (λ l. absurd (omega arith))
      (λ z.
      record {
        none_read = refl;
        kept = kept z;
        fewer_bytes = omega arith;
        uses_one = λ on. never on;
        long_uses = λ y short. let z : ◌≡◌ {A = ℕ} 0 1 = cc in absurd (omega arith);
        fails = λ y. never y;
      }) (λ l. absurd (omega arith)))

  -- a read failed
  pub gives_failed : (number : ℕ) (room' : List ℕ) (q : Input) → p.end ≤ p.at → not p.reads ≡ false
      → q ≡ stopped_at h number p.reads 0 0 ReadFailed → Gives p room q room'
  unfolding given_number
  gives_failed number room' q none reads i =
      subst (λ (x : Input). Gives p room x room') (sym i)
      (stopped_gives ReadFailed number 0 0 room' refl refl (λ z. let y : ◌≡◌ {A = ℕ} 0 1 = cc in absurd (omega arith))
      (λ z. let y : ◌≡◌ {A = ℕ} 0 1 = cc in absurd (omega arith))
      (λ z. let y : ◌≡◌ {A = ℕ} 0 1 = cc in absurd (omega arith)) (nothing_pending none)
      (λ z. let y : ◌≡◌ {A = ℕ} 0 1 = cc in absurd (omega arith)) (omega arith) (omega arith) (λ l. absurd (omega arith))
      (λ z. never (sym reads ∙ ap not z)) (λ l. refl))

  -- no run asks so often
  pub gives_no_more : (number : ℕ) (q : Input) → Fits p room → p.left < 2 → q ≡ stopped_at h number p.reads p.at p.end ReadFailed
      → Gives p room q room
  unfolding given_number
  gives_no_more number q f few i =
      subst (λ (x : Input). Gives p room x room) (sym i)
      (stopped_gives ReadFailed number p.at p.end room refl refl (λ z. let y : ◌≡◌ {A = ℕ} 0 1 = cc in absurd (omega arith))
      (λ z. let y : ◌≡◌ {A = ℕ} 0 1 = cc in absurd (omega arith))
      (λ z. let y : ◌≡◌ {A = ℕ} 0 1 = cc in absurd (omega arith)) refl
      (λ z. let y : ◌≡◌ {A = ℕ} 0 1 = cc in absurd (omega arith)) f.0 f.1 (λ l. (omega arith, refl))
      (λ z.
      record {
        none_read = refl;
        kept = refl;
        fewer_bytes = omega arith;
        uses_one = λ on. never on;
        long_uses = λ y short. let z : ◌≡◌ {A = ℕ} 0 1 = cc in absurd (omega arith);
        fails = λ y. few;
      }) (λ l. refl))
