-- Laws of the program, over plain lists: one turn of the loop, a line that is too long, the end. Assumes nothing.
use Rattle.std.specs.Prelude.{if◌then◌else◌}
use mathlib.Core.Path.{◌≡◌, refl, sym, ap, subst, ◌∙◌}
use mathlib.Core.List.{List, [], ◌∷◌, ◌++◌, append_assoc, append-nil}
use mathlib.Core.Logic.{inl, inr}
use mathlib.Core.Bool.{Bool, true, false, not}
use Prim.Native.Nat.{ℕ, suc, ◌<◌, ◌≤◌}
use native.Mathlib.Omega.{arith}
use borrow.Author.Tests.{le-ltb, ltb-true, ltb-false, eqb-true}
use lib.Dec.{ltb}
use lib.ListN.{length, length-append}
use Rattle.laws.specs.Tests.{and_right}
use Rattle.session.specs.Grammar.{closed_line, open_line, input_lines}
use Rattle.session.specs.OutputLengths.{decimal_length, refusal_length}
use Rattle.session.specs.Print.{key_line}
use Rattle.partial_line.specs.PartialLines.{line_bytes}
use Rattle.recording.specs.declared.Verdict.{Verdict}
use Rattle.recording.specs.declared.Verdict.TheVariants.{Same, Differs, Refusal}
use Rattle.recording.specs.Reader as defined
use Rattle.recording.specs.Reader.{new_reader as new-defined, read_line as read-defined, read_lines}
use Rattle.recording_laws.specs.ReaderVerdict.{reader_gives_verdict}
use Rattle.reader_state.specs.declared.Reader.{Reader}
use Rattle.reader_state.specs.Standing.{most_lines, new_reader, LineRead, line_read, read_line, read_end, ReadAs}
use Rattle.stdio.specs.declared.input.Given.{Given}
use Rattle.stdio.specs.declared.input.Given.TheVariants.{Part, Line, TooLong, Ended, Settled, ReadFailed, WriteFailed}
use Rattle.stdio.specs.declared.input.Input.{Input}
use Rattle.stdio.specs.Inputs.{given_number, is_line, is_long, at_end, goes_on, fixed, failed, begin, settled_if, cut_off, lines_left, Gives}
use Rattle.stdio.specs.Readers.{after_call, to_come, Follows, Answers, last_lines}
use Rattle.stdio.specs.Loops.{never, begins, turn, turn_left, begun_line_ends, ends_at}
use Rattle.stdio.specs.LongLines.{Over, Closes}
use Rattle.stdio.specs.Runs.{Prints, prints_as}
use Rattle.reader.specs.declared.program.Answered.{Answered}
use Rattle.reader.specs.declared.program.LongLine.{LongLine}
use Rattle.reader.specs.AsDefined.{AsDefined, in_header, same_phase, is_decided, decides, Both, line_as_defined, end_as_defined}
use Rattle.reader.specs.KnownMemory.{KnownIn, KnownAfter, known_as, read_known, Known}
use Rattle.reader.specs.ShortPrinted.{printed_length}
use Rattle.reader.specs.Verifies.{verdict_text, verify_output, take_line, lines_text, Reading, Verifies, EndedAs, LongGives}
use Rattle.reader.proofs.LongLines.{long_closed}

-- ---- a line is taken

module _ (r : Reader) (ns bs : List ℕ) (q : Input) where
  abbrev at : LineRead
  at = line_read r ns bs

  pub takes_line : (line : List ℕ) (s : Reader) (n' b' : List ℕ) → is_line q.given ≡ true → line ≡ line_bytes q.line
      → ReadAs (read_line r ns bs (closed_line line)) s n' b' → ReadAs (after_call take_line at q) s n' b'
  unfolding after_call take_line
  takes_line line s n' b' e f h = rw e (subst (λ (l : List ℕ). ReadAs (read_line r ns bs (closed_line l)) s n' b') f h)

  pub takes_none : is_line q.given ≡ false → ReadAs (after_call take_line at q) r ns bs
  unfolding after_call
  takes_none e = rw e (record { next = refl; nodes = refl; buckets = refl })

  known_given : (s : Reader) (n' b' : List ℕ) → KnownIn true r ns bs → ReadAs (after_call take_line at q) s n' b' → KnownIn true s n' b'
  unfolding after_call take_line
  known_given s n' b' k h = known_as true (after_call take_line at q) h.next h.nodes h.buckets (go (is_line q.given))
    where
      go : (b : Bool) → KnownAfter true (if b then take_line at (line_bytes q.line) else at)
      go true = read_known true (closed_line (line_bytes q.line)) r ns bs k
      go false = k

read_so : (d : LineRead) (s : Reader) (n' b' : List ℕ) → ReadAs d s n' b' → d ≡ line_read s n' b'
read_so d s n' b' h =
    let e : line_read s n' b' ≡ line_read d.reader d.nodes d.buckets = cc (h.next, h.nodes, h.buckets) in sym e

-- ---- one turn of the loop

abbrev take_defined : defined.Reader → List ℕ → defined.Reader
take_defined e l = read-defined e (closed_line l)

module _ (reads : Bool) (input : List ℕ) where
  pub starts : (p : Input) (r : Reader) (ns bs : List ℕ) → p ≡ begin reads (length input) → r ≡ new_reader → 2176 ≤ length ns → 13200 ≤ length bs
      → Reading reads input p input r ns bs
  unfolding begin new_reader new-defined Known
  starts p r ns bs e f nodes_fit buckets_fit =
      subst (λ (x : Reader). Reading reads input p input x ns bs) (sym f)
      (record {
        place = new-defined;
        follows = begins lines_text reads input new-defined p new-defined e refl;
        stands = in_header refl nodes_fit buckets_fit;
        numbered = rw e (omega arith);
        long_numbered = λ z. omega arith;
        known = refl;
      })

  module _ (p : Input) (room : List ℕ) (r : Reader) (ns bs : List ℕ) (i : Reading reads input p room r ns bs) (going : 0 < p.left)
      (q : Input) (room' : List ℕ) (g : Gives p room q room') where
    -- a call gave something: one more was left
    one_more : failed q.given ≡ false → i.place.number < most_lines
    one_more e = go (ltb p.left 2) refl
      where
        go : (b : Bool) → ltb p.left 2 ≡ b → i.place.number < most_lines
        go true z = never (sym e ∙ g.no_calls (ltb-true p.left 2 z))
        go false z = omega (arith, ltb-false p.left 2 z, i.numbered)

    takes : Both (after_call take_line (line_read r ns bs) q) (after_call take_defined i.place q) (suc i.place.number)
    unfolding after_call take_line
    takes = go (is_line q.given) refl
      where
        go : (b : Bool) → is_line q.given ≡ b
            → Both (if b then take_line (line_read r ns bs) (line_bytes q.line) else line_read r ns bs)
            (if b then take_defined i.place (line_bytes q.line) else i.place) (suc i.place.number)
        go true e =
            let n = given_number q.given in
            line_as_defined (line_read r ns bs) (closed_line (line_bytes q.line)) i.stands (one_more (le-ltb 4 n (omega (arith, eqb-true n 1 e))))
        go false e = record { stands = i.stands; number = omega arith }

    pub turns : (s : Reader) (n' b' : List ℕ) (b : Bool) (d : Input) → ReadAs (after_call take_line (line_read r ns bs) q) s n' b' → b ≡ is_decided s.phase
        → d ≡ settled_if b q → Reading reads input d room' s n' b'
    unfolding lines_text read_lines settled_if after_call given_number
    turns s n' b' b d h e settled =
        let stood = subst (λ (x : LineRead). AsDefined x (after_call take_defined i.place q)) (read_so _ s n' b' h) takes.stands in
        let decided : is_decided s.phase ≡ is_decided (after_call take_defined i.place q).phase = ap is_decided (same_phase _ stood) in
        record {
          place = after_call take_defined i.place q;
          follows =
              turn lines_text reads input new-defined take_defined (λ x l ls few. refl) p room i.place q room' _ b d i.follows going g refl
              (λ z ls. ap verdict_text (decides _ (sym decided ∙ sym e ∙ z) ls)) settled;
          stands = stood;
          numbered = omega (arith, takes.number, i.numbered, turn_left p room q room' b d going g settled);
          long_numbered = λ z. long b (sym (ap (λ (x : Input). x.given) settled) ∙ z);
          known = known_given r ns bs q s n' b' i.known h;
        }
      where
        long : (c : Bool) → (settled_if c q).given ≡ TooLong → (after_call take_defined i.place q).number < most_lines
        long true z = let y : ◌≡◌ {A = ℕ} 0 1 = cc in absurd (omega arith)
        long false z = rw z (one_more (rw z))

-- ---- a line that is too long

pub long_gives_so : (d : LineRead) (l : List ℕ) (g : LongLine) (line : List ℕ) (s : Reader) (n' b' : List ℕ)
    → g.unclosed ≡ read_end false d.reader d.nodes d.buckets → line ≡ l
    → ReadAs (read_line d.reader d.nodes d.buckets (closed_line line)) s n' b' → g.closed ≡ read_end true s n' b'
    → printed_length d.reader.phase ≤ 41 → (e : defined.Reader) → AsDefined d e → e.number < most_lines → length l ≡ 41 → LongGives e l g
unfolding read_lines
long_gives_so d l g line s n' b' unclosed same taken closed short e a few long =
    let b = line_as_defined d (closed_line line) a few in
    let stood = subst (λ (x : LineRead). AsDefined x (read-defined e (closed_line line))) (read_so _ s n' b' taken) b.stands in
    let printed : printed_length e.phase ≤ 41 = subst (λ (n : ℕ). n ≤ 41) (ap printed_length (same_phase d a)) short in
    record {
      unclosed_gives = λ w. sym (unclosed ∙ end_as_defined false w d a);
      closed_gives = λ rest ls. long_closed e l rest ls (omega (arith, long)) printed
          ∙ ap (λ (w : List ℕ). read_lines e (closed_line w ∷ [])) (sym same)
          ∙ sym (closed ∙ end_as_defined true [] (line_read s n' b') stood);
    }

module _ (reads : Bool) (input : List ℕ) (p : Input) (room : List ℕ) (e : defined.Reader) (f : Follows lines_text reads input new-defined p room e)
    (long : p.given ≡ TooLong) (g : LongLine) (gives : LongGives e (line_bytes p.line) g) where
  abbrev printed : List ℕ → List ℕ
  printed xs = lines_text new-defined (input_lines xs)

  still_coming : (more : List ℕ) → to_come p room more ≡ lines_left p room more
  unfolding to_come given_number
  still_coming more = rw long

  -- one refusal, whether it is closed or not
  pub answers_now : length p.line.bytes ≡ 41 → g.unclosed ≡ g.closed → Answers printed reads input p (verdict_text g.closed)
  unfolding lines_text last_lines cut_off given_number
  answers_now line same =
      let l = line_bytes p.line in
      let unclosed : (w : List ℕ) → read_lines e (open_line w ∷ []) ≡ g.closed = λ w. gives.unclosed_gives w ∙ same in
      subst (λ (w : List ℕ). Answers printed reads input p w) (rw long (ap verdict_text (unclosed l)))
      (ends_at lines_text reads input new-defined p room e line (let z = f.over (rw long) in omega arith) f
      (λ i more. ap verdict_text (begun_line_ends l _ (omega (arith, f.long long)) (λ ls. read_lines e ls ≡ read_lines e (open_line l ∷ []))
      (λ rest ls. gives.closed_gives rest ls ∙ sym (unclosed l)) (λ rest. unclosed _ ∙ sym (unclosed l)))))

  -- its end was sought: byte 10 closed it, or the input ended in the middle of it
  pub answers_then : (q : Input) (room' : List ℕ) → Closes p room q room' → (b : Bool) → at_end q.given ≡ b
      → Answers printed reads input q (verdict_text (if b then g.unclosed else g.closed))
  unfolding lines_text to_come given_number
  answers_then q room' c b h =
      record {
        read = f.read ++ c.read;
        in_memory = λ z. ap (λ (w : List ℕ). f.read ++ w) (c.in_memory (f.source ∙ z)).0 ∙ append-nil f.read ∙ (f.in_memory z).0;
        over = over c.over;
        never_fails = λ z few. c.never_fails (f.source ∙ z) (omega (arith, few, f.fits, ap length (f.in_memory z).1));
        whole = λ z. ap printed (sym (append-nil (f.read ++ c.read)))
            ∙ on []
            ∙ ap (lines_text e) (ap (lines_left p room) (append-nil c.read) ∙ c.ended z)
            ∙ ap verdict_text (gives.unclosed_gives _ ∙ chosen true (ap at_end z));
        whatever = λ z more.
            let y = settled c.over z in
            on more ∙ ap (lines_text e) (c.closed y more) ∙ ap verdict_text (gives.closed_gives _ _ ∙ chosen false (ap at_end y));
      }
    where
      on : (more : List ℕ) → printed ((f.read ++ c.read) ++ more) ≡ lines_text e (lines_left p room (c.read ++ more))
      on more =
          ap printed (append_assoc f.read c.read more) ∙ f.same (c.read ++ more) ∙ ap (lines_text e) (still_coming (c.read ++ more))

      chosen : (x : Bool) → at_end q.given ≡ x → (if x then g.unclosed else g.closed) ≡ (if b then g.unclosed else g.closed)
      chosen x z = ap (λ (y : Bool). if y then g.unclosed else g.closed) (sym z ∙ h)

      over : Over q.given → goes_on q.given ≡ false
      over (inl x) = rw x refl
      over (inr (inl x)) = rw x refl
      over (inr (inr x)) = le-ltb (given_number q.given) 2 (omega (arith, ltb-true 4 (given_number q.given) x))

      settled : Over q.given → fixed q.given ≡ true → q.given ≡ Settled
      settled (inl x) z = x
      settled (inr (inl x)) z = never (rw x at z)
      settled (inr (inr x)) z =
          let n = given_number q.given in
          absurd (omega (arith, ltb-true 4 n x, ltb-true n 4 (and_right (not (goes_on q.given)) (ltb n 4) z)))

-- ---- the end

pub long_given : (p : Input) → is_long p.given ≡ true → p.given ≡ TooLong
unfolding given_number
long_given p h = go p.given h
  where
    go : (x : Given) → is_long x ≡ true → x ≡ TooLong
    go Part e = never e
    go Line e = never e
    go TooLong e = refl
    go Settled e = never e
    go Ended e = never e
    go ReadFailed e = never e
    go WriteFailed e = never e

-- the last line is closed or is not
pub answers_end : (reads : Bool) (input : List ℕ) (p : Input) (room : List ℕ) (r : Reader) (ns bs : List ℕ) → Reading reads input p room r ns bs
    → p.left ≤ 0 → is_long p.given ≡ false → (a : Answered) → EndedAs r ns bs p a → Verifies reads input a
unfolding lines_text last_lines given_number
answers_end reads input p room r ns bs i stopped short a e =
    subst (λ (x : Input). Answers (λ xs. lines_text new-defined (input_lines xs)) reads input x (verdict_text a.verdict)) (sym e.input)
    (subst (λ (w : List ℕ). Answers (λ xs. lines_text new-defined (input_lines xs)) reads input p w)
    (ap verdict_text (sym (e.verdict ∙ go (cut_off p))))
    (ends_at lines_text reads input new-defined p room i.place e.room stopped i.follows (λ z. never (sym short ∙ ap is_long z))))
  where
    go : (b : Bool) → read_end (not b) r ns bs ≡ read_lines i.place (if b then (open_line (line_bytes p.line) ∷ []) else [])
    go true = end_as_defined false (line_bytes p.line) (line_read r ns bs) i.stands
    go false = end_as_defined true [] (line_read r ns bs) i.stands

-- ---- the text

pub text_fits : (v : Verdict) → length (verdict_text v) ≤ 32
unfolding verdict_text key_line
text_fits Same = omega arith
text_fits (Differs n) = simp length-append (omega (arith, decimal_length n))
text_fits (Refusal r) = omega (arith, refusal_length r)

pub prints_verdict : (reads : Bool) (input : List ℕ) (a : Answered) (text : List ℕ) → Verifies reads input a → text ≡ verdict_text a.verdict
    → Prints verify_output reads input a.input text
unfolding lines_text verify_output
prints_verdict reads input a text v e =
    let f : List ℕ → List ℕ = λ xs. lines_text new-defined (input_lines xs) in
    prints_as f verify_output (λ xs. ap verdict_text (sym (reader_gives_verdict xs))) reads input a.input text
    (record { shown = []; none_shown = λ z. refl; answered = subst (λ (w : List ℕ). Answers f reads input a.input w) (sym e) v })
