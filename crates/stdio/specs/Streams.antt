-- A reader that prints as it goes, into a lent buffer of which the first `due` bytes are not written yet. A line that is printed for takes at least one of
-- the bytes at hand: so a buffer with room for `each` bytes for every byte of a read, and once for `last` bytes, cuts nothing off. Assumes nothing.
use Rattle.std.specs.Prelude.{ℕ, ◌+◌, ◌-◌, ◌*◌, ◌<◌, ◌≤◌, ◌≡◌, Bool, ◌&&◌, if◌then◌else◌}
use Rattle.std.proofs.Math.Path.{refl, sym, ap, subst}
use Rattle.std.proofs.Common.{◌∙◌}
use mathlib.Core.List.{List, [], ◌∷◌, ◌++◌, append_assoc, append-nil}
use Rattle.std.proofs.Math.Bool.{true, false, not}
use Rattle.std.proofs.Math.Nat.{mul-le-mul_left}
use native.Mathlib.Omega.{arith}
use borrow.Author.Tests.{le-ltb, ltb-true, ltb-false}
use Rattle.std.proofs.Math.Dec.{ltb}
use Rattle.std.proofs.Math.ListN.{length, take}
use Rattle.session.specs.Grammar.{InputLine, closed_line, input_lines}
use Rattle.partial_line.specs.PartialLines.{line_bytes}
use Rattle.stdio.specs.declared.input.Given.{Given}
use Rattle.stdio.specs.declared.input.Given.TheVariants.{Part, Line, TooLong, Settled, Ended, ReadFailed, WriteFailed}
use Rattle.stdio.specs.declared.input.Input.{Input}
use Rattle.stdio.specs.declared.output.Passed.{Passed}
use Rattle.stdio.specs.Inputs.{given_number, is_line, goes_on, begin, settled_if, bytes_left, Gives}
use Rattle.stdio.specs.Readers.{TakesLines, OutsideFixes, after_call, Follows, Answers, last_lines}
use Rattle.stdio.specs.Loops.{never, begins, turn, comes_to}
use Rattle.stdio.specs.Outcomes.{will_read, write_failed, Passes}
use Rattle.stdio.specs.Passing.{will_read_on, follows_passed}
use Rattle.stdio.specs.Runs.{Prints}

-- ---- room

-- of `size` bytes `due` are used: there is room for `each` bytes for every byte at hand and for `once` bytes, at most `last`; where the next call reads
-- none is used
pub record Room (each last once : ℕ) (p : Input) (due size : ℕ) : Type 0 where
  pub holds : due + once + each * bytes_left p ≤ size
  pub at_most : once ≤ last
  pub none_used : p.reads ≡ true → 0 < p.left → p.end ≤ p.at → due ≡ 0

-- ---- where a reader stands that prints as it goes

pub record Progress (S : Type 0) : Type 0 where
  pub state : S
  pub printed : List ℕ

abbrev pub progress : {S : Type 0} → S → List ℕ → Progress S
progress s printed = record { state = s; printed = printed }

module _ {S : Type 0} (rest : S → List InputLine → List ℕ) (next : S → List ℕ → S) (prints : S → List ℕ → List ℕ) where
  -- all that is printed if these lines follow
  unfoldable pub all_printed : Progress S → List InputLine → List ℕ
  all_printed x ls = x.printed ++ rest x.state ls

  unfoldable pub take_line : Progress S → List ℕ → Progress S
  take_line x l = progress (next x.state l) (x.printed ++ prints x.state l)

  -- what a call for a line has printed
  unfoldable pub printed_by : S → Input → List ℕ
  printed_by s q = if is_line q.given then prints s (line_bytes q.line) else []

  -- what is asked of such a reader: a line is printed for, and then those that follow
  abbrev pub PrintsLines : Type 0
  PrintsLines = (s : S) (l : List ℕ) (ls : List InputLine) → length l ≤ 40 → rest s (closed_line l ∷ ls) ≡ prints s l ++ rest (next s l) ls

  -- the line that a call gave is taken, if it gave one, and what it prints stands behind what was there
  pub record Took (s : S) (due : ℕ) (q : Input) (out : List ℕ) (s' : S) (due' : ℕ) (out' : List ℕ) : Type 0 where
    pub stands : s' ≡ after_call next s q
    pub counted : due' ≡ due + length (printed_by s q)
    pub wrote : take due' out' ≡ take due out ++ printed_by s q

  -- between two calls: what was passed on, `shown`, and the first `due` bytes of the buffer are what is printed so far
  pub record Streamed (each last once : ℕ) (reads : Bool) (input : List ℕ) (s₀ : S) (p : Input) (room : List ℕ) (s : S) (due : ℕ) (out : List ℕ)
      : Type 0 where
    pub shown : List ℕ
    pub none_shown : reads ≡ false → shown ≡ []
    pub follows : Follows all_printed reads input (progress s₀ []) p room (progress s (shown ++ take due out))
    pub fits : Room each last once p due (length out)

  -- ---- the laws

  module _ (lines : PrintsLines) (each last : ℕ) (reads : Bool) (input : List ℕ) (s₀ : S) where
    takes : TakesLines all_printed take_line
    unfolding all_printed take_line
    takes x l ls short =
        ap (λ (w : List ℕ). x.printed ++ w) (lines x.state l ls short) ∙ sym (append_assoc x.printed (prints x.state l) _)

    pub stream_begins : (once : ℕ) → once ≤ last → (p : Input) (s : S) (out : List ℕ) → p ≡ begin reads (length input) → s ≡ s₀
        → each * length input + last ≤ length out → Streamed each last once reads input s₀ p input s 0 out
    unfolding begin
    stream_begins once few p s out e f lent =
        record {
          shown = [];
          none_shown = λ z. refl;
          follows = begins all_printed reads input (progress s₀ []) p (progress s []) e (ap (λ (x : S). progress x []) f);
          fits = rw e (record { holds = go reads; at_most = few; none_used = λ z l h. refl });
        }
      where
        within : (b : Bool) → (if b then 0 else length input) - 0 ≤ length input
        within true = omega arith
        within false = omega arith

        go : (b : Bool) → 0 + once + each * ((if b then 0 else length input) - 0) ≤ length out
        go b = omega (arith, mul-le-mul_left each (within b))

    -- a call for a line: there is room for what it has printed. `once'` bytes are still to be printed once
    module _ (once once' : ℕ) (p : Input) (room : List ℕ) (s : S) (due : ℕ) (out : List ℕ) (r : Streamed each last once reads input s₀ p room s due out)
        (going : 0 < p.left) (q : Input) (room' : List ℕ) (g : Gives p room q room') (lent : each * length room' + last ≤ length out)
        (spent : length (printed_by s q) + once' ≤ once + (if is_line q.given then each else 0)) where
      line_is : (x : Given) → is_line x ≡ true → x ≡ Line
      unfolding given_number
      line_is Part e = never e
      line_is Line e = refl
      line_is TooLong e = never e
      line_is Settled e = never e
      line_is Ended e = never e
      line_is ReadFailed e = never e
      line_is WriteFailed e = never e

      pub room_for_call : due + length (printed_by s q) + once' + each * bytes_left q ≤ length out
      unfolding given_number
      room_for_call = go (is_line q.given) refl (ltb p.at p.end) refl p.reads refl spent
        where
          go : (c : Bool) → is_line q.given ≡ c → (h : Bool) → ltb p.at p.end ≡ h → (m : Bool) → p.reads ≡ m
              → length (printed_by s q) + once' ≤ once + (if c then each else 0)
              → due + length (printed_by s q) + once' + each * bytes_left q ≤ length out
          go true c true h m i sp =
              let l : p.at < p.end = ltb-true _ _ h in
              let k : bytes_left q + 1 ≤ bytes_left p = omega (arith, (g.uses (line_is _ c)).1 l, g.onward l, g.fits) in
              omega (arith, mul-le-mul_left each k, r.fits.holds)
          go false c true h m i sp =
              let o = g.onward (ltb-true _ _ h) in
              let k : bytes_left q ≤ bytes_left p = omega arith in
              omega (arith, mul-le-mul_left each k, r.fits.holds)
          go true c false h true i sp =
              let k : bytes_left q + 1 ≤ length room' = omega (arith, (g.uses (line_is _ c)).0, g.fits) in
              omega (arith, mul-le-mul_left each k, r.fits.none_used i going (ltb-false _ _ h), r.fits.at_most)
          go false c false h true i sp =
              let k : bytes_left q ≤ length room' = omega (arith, g.fits) in
              omega (arith, mul-le-mul_left each k, r.fits.none_used i going (ltb-false _ _ h), r.fits.at_most)
          go true c false h false i sp =
              let on : goes_on q.given ≡ true = rw (line_is q.given c) in
              let l : p.end ≤ p.at = ltb-false _ _ h in
              absurd (omega (arith, (g.in_memory i).uses_one on))
          go false c false h false i sp =
              let l : p.end ≤ p.at = ltb-false _ _ h in
              let k : bytes_left q ≤ bytes_left p = (g.in_memory i).fewer_bytes in
              omega (arith, mul-le-mul_left each k, r.fits.holds)

    -- one turn: a call for a line, what it has printed, and that passed on
    module _ (once once' : ℕ) (p : Input) (room : List ℕ) (s : S) (due : ℕ) (out : List ℕ) (r : Streamed each last once reads input s₀ p room s due out)
        (going : 0 < p.left) (q : Input) (room' : List ℕ) (g : Gives p room q room') (s' : S) (due' : ℕ) (out' : List ℕ) (took : Took s due q out s' due' out')
        (kept : length out' ≡ length out) (lent : each * length room' + last ≤ length out) (few : once' ≤ last)
        (spent : length (printed_by s q) + once' ≤ once + (if is_line q.given then each else 0)) where
      printed_then : List ℕ
      printed_then = r.shown ++ take due' out'

      taken_as : (b : Bool) → s' ≡ (if b then next s (line_bytes q.line) else s)
          → take due' out' ≡ take due out ++ (if b then prints s (line_bytes q.line) else [])
          → progress s' (r.shown ++ take due' out')
          ≡ (if b then progress (next s (line_bytes q.line)) ((r.shown ++ take due out) ++ prints s (line_bytes q.line))
          else progress s (r.shown ++ take due out))
      taken_as true e f =
          let w = ap (λ (x : List ℕ). r.shown ++ x) f ∙ sym (append_assoc r.shown (take due out) (prints s (line_bytes q.line))) in
          λ i. progress (e i) (w i)
      taken_as false e f = let w = ap (λ (x : List ℕ). r.shown ++ x) (f ∙ append-nil (take due out)) in λ i. progress (e i) (w i)

      room_given : due' + once' + each * bytes_left q ≤ length out
      room_given = omega (arith, took.counted, room_for_call once once' p room s due out r going q room' g lent spent)

      module _ (b : Bool) (decides : b ≡ true → (ls : List InputLine) → rest s' ls ≡ rest s' []) (d : Input) (settled : d ≡ settled_if b q) (w : Passed)
          (passes : Passes d due' w) where
        turned : Follows all_printed reads input (progress s₀ []) d room' (progress s' printed_then)
        unfolding after_call printed_by take_line all_printed printed_then
        turned =
            turn all_printed reads input (progress s₀ []) take_line takes p room _ q room' (progress s' (r.shown ++ take due' out')) b d r.follows going g
            (taken_as (is_line q.given) took.stands took.wrote)
            (λ e ls. ap (λ (x : List ℕ). (r.shown ++ take due' out') ++ x) (decides e ls)) settled

        same_hand : bytes_left w.input ≡ bytes_left q
        unfolding settled_if
        same_hand = ap bytes_left passes.input ∙ unwritten (will_read d && not passes.written) ∙ ap bytes_left settled ∙ as_given b
          where
            unwritten : (x : Bool) → bytes_left (if x then write_failed d else d) ≡ bytes_left d
            unwritten true = refl
            unwritten false = refl

            as_given : (x : Bool) → bytes_left (settled_if x q) ≡ bytes_left q
            as_given true = refl
            as_given false = refl

        -- nothing is at hand, and more may be read: that is when it was passed on
        not_passed : will_read d ≡ false → w.input ≡ d → w.input.reads ≡ true → 0 < w.input.left → w.input.end ≤ w.input.at → ⊥
        unfolding will_read
        not_passed e i =
            subst (λ (x : Input). x.reads ≡ true → 0 < x.left → x.end ≤ x.at → ⊥) (sym i)
            (λ m l h. go (goes_on d.given) refl (rw (m, le-ltb _ _ h) at e) l)
          where
            go : (x : Bool) → goes_on d.given ≡ x → x && true ≡ false → 0 < d.left → ⊥
            go true a z l = never (sym z)
            go false a z l = let o = turned.over a in omega arith

        streamed_as : (shown : List ℕ) → (reads ≡ false → shown ≡ []) → printed_then ≡ shown ++ take w.due out' → w.due ≤ due'
            → (w.input.reads ≡ true → 0 < w.input.left → w.input.end ≤ w.input.at → w.due ≡ 0)
            → Streamed each last once' reads input s₀ w.input room' s' w.due out'
        streamed_as shown none e l f =
            record {
              shown = shown;
              none_shown = none;
              follows =
                  subst (λ (x : List ℕ). Follows all_printed reads input (progress s₀ []) w.input room' (progress s' x)) e
                  (follows_passed all_printed reads input (progress s₀ []) d room' _ turned due' w passes);
              fits = record { holds = rw same_hand (omega (arith, room_given, kept)); at_most = few; none_used = f };
            }

        pub stream_turn : Streamed each last once' reads input s₀ w.input room' s' w.due out'
        unfolding printed_then
        stream_turn = go (will_read d) refl passes.input passes.left
          where
            go : (x : Bool) → will_read d ≡ x → w.input ≡ (if x && not passes.written then write_failed d else d) → w.due ≡ (if x then 0 else due')
                → Streamed each last once' reads input s₀ w.input room' s' w.due out'
            go true e i l =
                streamed_as printed_then (λ z. never (sym z ∙ sym turned.source ∙ (will_read_on d e).1))
                (sym (append-nil printed_then) ∙ ap (λ (n : ℕ). printed_then ++ take n out') (sym l)) (omega arith) (λ m z h. l)
            go false e i l =
                streamed_as r.shown r.none_shown (ap (λ (n : ℕ). r.shown ++ take n out') (sym l)) (omega arith)
                (λ m z h. absurd (not_passed e i m z h))

    -- the end: what it prints stands behind the rest
    pub stream_ends : OutsideFixes rest → (once : ℕ) (p : Input) (room : List ℕ) (s : S) (due : ℕ) (out : List ℕ)
        → Streamed each last once reads input s₀ p room s due out → length p.line.bytes ≡ 41 → p.left ≤ 0 → (n : ℕ) (out' : List ℕ)
        → take n out' ≡ take due out ++ rest s (last_lines p) → Prints (λ xs. rest s₀ (input_lines xs)) reads input p (take n out')
    unfolding all_printed
    stream_ends outside once p room s due out r line stopped n out' wrote =
        record {
          shown = r.shown;
          none_shown = r.none_shown;
          answered =
              subst (λ (x : List ℕ). Answers (λ xs. rest s₀ (input_lines xs)) reads input p x)
              (append_assoc r.shown (take due out) (rest s (last_lines p)) ∙ ap (λ (x : List ℕ). r.shown ++ x) (sym wrote))
              (comes_to all_printed reads input (progress s₀ []) (λ x a c ls u v. ap (λ (t : List ℕ). x.printed ++ t) (outside x.state a c ls u v)) p room
              (progress s (r.shown ++ take due out)) line stopped r.follows);
        }
