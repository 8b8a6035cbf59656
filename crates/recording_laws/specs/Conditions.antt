-- Each answer of a reader exactly under its condition, for any bytes: `refusal_10`, `refusal_12`, `opening_refusal`, `difference`, `same`. The
-- header is judged first, then its opening, then the lines after it (Judged). Assumes nothing.
use Rattle.std.specs.Prelude.{◌≡◌, ◌↔◌, ◌⊎◌, List, [], ◌∷◌, Bool, true, false, ℕ, ◌+◌, eqb, if◌then◌else◌}
use Rattle.std.proofs.Math.Path.{refl, ap}
use Rattle.std.proofs.Common.{sym, ◌∙◌, arith}
use Rattle.std.proofs.Math.Logic.{inl, inr}
use borrow.Author.Tests.{eq-eqb, ne_eqb, eqb-true, eqb-false}
use Rattle.std.proofs.Math.ListN.{length}
use Rattle.corollaries.specs.Tables.{OpeningRefused, is_1, is_2, is_3, is_11, opening_refused}
use Rattle.session.specs.declared.Header.{Header}
use Rattle.session.specs.declared.HeaderLine.{HeaderLine}
use Rattle.session.specs.declared.HeaderLine.TheVariants.{Tasks}
use Rattle.session.specs.declared.HeaderStep.{HeaderStep}
use Rattle.session.specs.declared.HeaderStep.TheVariants.{Next, Complete, Absent, Missing}
use Rattle.session.specs.Grammar.{InputLine, input_lines}
use Rattle.session.specs.Header.{empty_header, optional, header_step}
use Rattle.session.specs.Transcript.{session_opening}
use Rattle.recording.specs.declared.ReaderPhase.TheVariants.{Event as EventDue}
use Rattle.recording.specs.declared.Verdict.{Verdict}
use Rattle.recording.specs.declared.Verdict.TheVariants.{Same, Differs, Refusal}
use Rattle.recording.specs.Header.{HeaderTaken, taken, not_taken, with_line, after_step, take_from, take_header}
use Rattle.recording.specs.Verdict.{opened_verdict, header_verdict, lines_verdict, verdict}
use Rattle.recording.specs.Reader.{Reader, reader, read_lines}
use Rattle.recording_laws.specs.ReaderVerdict.{events_read}
use Rattle.recording_laws.specs.LineTable.{judging, Lacks, Whole}
use Rattle.recording_laws.specs.Judged.{reader_after, Ten, Other, LineAt, Answered, ten, difference as differs_at, twelve, same as is_same, answered}
use Rattle.recording_laws.specs.Judged.{ten_decides, difference_decides, lack_decides, whole_decides}

-- ---- the header

-- header lines, and then one that is needed and is not of its form
pub data HeaderBad : HeaderLine → Header → List InputLine → Type 0 where
  bad_line : {due : HeaderLine} {h : Header} {l : InputLine} {ls : List InputLine} → header_step due h l ≡ Missing → HeaderBad due h (l ∷ ls)
  bad_later : {due due' : HeaderLine} {h h' : Header} {l : InputLine} {ls : List InputLine} → header_step due h l ≡ Next due' h' → HeaderBad due' h' ls
      → HeaderBad due h (l ∷ ls)

-- header lines, and then none where one is needed
pub data HeaderLacks : HeaderLine → Header → List InputLine → Type 0 where
  no_line : {due : HeaderLine} {h : Header} → optional due ≡ false → HeaderLacks due h []
  none_later : {due due' : HeaderLine} {h h' : Header} {l : InputLine} {ls : List InputLine} → header_step due h l ≡ Next due' h' → HeaderLacks due' h' ls
      → HeaderLacks due h (l ∷ ls)

data HeaderView (ls : List InputLine) (due : HeaderLine) (h : Header) : HeaderTaken → Type 0 where
  view_taken : {own : List InputLine} {h' : Header} {rest : List InputLine} → HeaderView ls due h (taken own h' rest)
  view_bad : HeaderBad due h ls → HeaderView ls due h (not_taken 10)
  view_lacks : HeaderLacks due h ls → HeaderView ls due h (not_taken 12)

header_view : (ls : List InputLine) (due : HeaderLine) (h : Header) → HeaderView ls due h (take_from ls due h)
unfolding take_from after_step with_line
header_view [] due h = ended (optional due) refl
  where
    ended : (b : Bool) → optional due ≡ b → HeaderView [] due h (if b then taken [] h [] else not_taken 12)
    ended true o = view_taken
    ended false o = view_lacks (no_line o)
header_view (l ∷ ls) due h = go (header_step due h l) refl (λ due' h'. header_view ls due' h')
  where
    later : (due' : HeaderLine) (h' : Header) → header_step due h l ≡ Next due' h' → (t : HeaderTaken) → HeaderView ls due' h' t
        → HeaderView (l ∷ ls) due h (with_line l t)
    later due' h' e t view_taken = view_taken
    later due' h' e t (view_bad b) = view_bad (bad_later e b)
    later due' h' e t (view_lacks b) = view_lacks (none_later e b)

    go : (d : HeaderStep) → header_step due h l ≡ d → ((due' : HeaderLine) (h' : Header) → HeaderView ls due' h' (take_from ls due' h'))
        → HeaderView (l ∷ ls) due h (after_step d (λ due' h'. take_from ls due' h') l ls)
    go (Next due' h') e ih = later due' h' e (take_from ls due' h') (ih due' h')
    go (Complete h') e ih = view_taken
    go (Absent h') e ih = view_taken
    go Missing e ih = view_bad (bad_line e)

bad_refused : {ls : List InputLine} {due : HeaderLine} {h : Header} → HeaderBad due h ls → take_from ls due h ≡ not_taken 10
unfolding take_from after_step with_line
bad_refused (bad_line e) = rw e
bad_refused (bad_later {l = l} e b) = rw e (ap (with_line l) (bad_refused b))

lacks_refused : {ls : List InputLine} {due : HeaderLine} {h : Header} → HeaderLacks due h ls → take_from ls due h ≡ not_taken 12
unfolding take_from after_step with_line
lacks_refused (no_line o) = rw o
lacks_refused (none_later {l = l} e b) = rw e (ap (with_line l) (lacks_refused b))

-- ---- the opening

-- a whole header: its lines, what they say, and the lines after it
pub record FullHeader (input : List ℕ) : Type 0 where
  pub own : List InputLine
  pub header : Header
  pub rest : List InputLine
  pub read : take_header (input_lines input) ≡ taken own header rest

-- of which the opening is accepted
pub record OpenedYard (input : List ℕ) : Type 0 where
  pub full : FullHeader input
  pub accepted : (session_opening full.header).refusal ≡ 0

-- the reader then, at the line after the header
abbrev pub at_first_event : {input : List ℕ} → OpenedYard input → Reader
at_first_event o = reader EventDue o.full.header (session_opening o.full.header).machine (1 + length o.full.own)

-- and after all of them
abbrev pub at_end : {input : List ℕ} → OpenedYard input → Reader
at_end o = reader_after (at_first_event o) o.full.rest

-- an opening gives neither 10 nor 12
opening_numbers : (h : Header) (m : ℕ) → (session_opening h).refusal ≡ m → ¬ (m ≡ 0) → (¬ (m ≡ 10)) × (¬ (m ≡ 12))
unfolding session_opening
opening_numbers h m e d = go ((opening_refused h.config _ _ m d).0 e)
  where
    go : {ns bs : List ℕ} → OpeningRefused h.config ns bs m → (¬ (m ≡ 10)) × (¬ (m ≡ 12))
    go (is_1 f n) = (λ q. omega arith, λ q. omega arith)
    go (is_2 f p n) = (λ q. omega arith, λ q. omega arith)
    go (is_3 f p q n) = (λ r. omega arith, λ r. omega arith)
    go (is_11 f p q s n) = (λ r. omega arith, λ r. omega arith)

-- ---- the answer, and its reason

data VerdictView (input : List ℕ) (v : Verdict) : Type 0 where
  header_bad : HeaderBad Tasks empty_header (input_lines input) → v ≡ Refusal 10 → VerdictView input v
  header_lacks : HeaderLacks Tasks empty_header (input_lines input) → v ≡ Refusal 12 → VerdictView input v
  opening_refuses : (f : FullHeader input) (m : ℕ) → ¬ (m ≡ 0) → (session_opening f.header).refusal ≡ m → v ≡ Refusal m → VerdictView input v
  judged : (o : OpenedYard input) → Answered (at_first_event o) o.full.rest v → VerdictView input v

module _ (input : List ℕ) where
  opened_judged : (o : OpenedYard input) → verdict input ≡ read_lines (at_first_event o) o.full.rest
  unfolding verdict lines_verdict header_verdict opened_verdict
  opened_judged o =
      let f = o.full in
      ap (header_verdict 1) f.read
      ∙ rw (eq-eqb _ _ o.accepted) (sym ((events_read f.header f.rest).at_events (1 + length f.own) (session_opening f.header).machine))

  refused_judged : (f : FullHeader input) (m : ℕ) → ¬ (m ≡ 0) → (session_opening f.header).refusal ≡ m → verdict input ≡ Refusal m
  unfolding verdict lines_verdict header_verdict opened_verdict
  refused_judged f m d e = ap (header_verdict 1) f.read ∙ rw (e, ne_eqb _ _ d)

  verdict_view : VerdictView input (verdict input)
  unfolding verdict lines_verdict header_verdict take_header judging
  verdict_view = go (take_header (input_lines input)) refl (header_view (input_lines input) Tasks empty_header)
    where
      go : (t : HeaderTaken) → take_header (input_lines input) ≡ t → HeaderView (input_lines input) Tasks empty_header t → VerdictView input (verdict input)
      go t e (view_taken {own = own} {h' = h} {rest = rest}) = opened (eqb (session_opening h).refusal 0) refl
        where
          f : FullHeader input
          f = record { own = own; header = h; rest = rest; read = e }

          opened : (b : Bool) → eqb (session_opening h).refusal 0 ≡ b → VerdictView input (verdict input)
          opened true q =
              let o : OpenedYard input = record { full = f; accepted = eqb-true _ _ q } in
              rw (opened_judged o) (judged o (answered rest (at_first_event o) refl))
          opened false q =
              let d = eqb-false (session_opening h).refusal 0 q in
              opening_refuses f (session_opening h).refusal d refl (refused_judged f (session_opening h).refusal d refl)
      go t e (view_bad b) = header_bad b (ap (header_verdict 1) e)
      go t e (view_lacks b) = header_lacks b (ap (header_verdict 1) e)

-- ---- two answers that are the same

refusal_of : {m n : ℕ} → Refusal m ≡ Refusal n → m ≡ n
refusal_of e = cc

no_difference : {m n : ℕ} → ¬ (Differs m ≡ Refusal n)
no_difference e = let z : ◌≡◌ {A = ℕ} 0 1 = cc in omega arith

no_same : {n : ℕ} → ¬ (Same ≡ Refusal n)
no_same e = let z : ◌≡◌ {A = ℕ} 0 1 = cc in omega arith

same_no_difference : {n : ℕ} → ¬ (Same ≡ Differs n)
same_no_difference e = let z : ◌≡◌ {A = ℕ} 0 1 = cc in omega arith

-- ---- each answer under its condition

module _ (input : List ℕ) where
  -- "10 is for header and event lines and for a line not closed": a header line that is needed, and is not of its form; or, after an
  -- opening that is accepted, the first line that decides is outside the grammar at an event's turn, or not closed
  abbrev pub BadLine : Type 0
  BadLine = HeaderBad Tasks empty_header (input_lines input) ⊎ ((o : OpenedYard input) × LineAt Ten (at_first_event o) o.full.rest)

  pub refusal_10 : verdict input ≡ Refusal 10 ↔ BadLine
  unfolding verdict lines_verdict header_verdict take_header judging
  refusal_10 = (λ e. go (verdict_view input) e, back)
    where
      go : VerdictView input (verdict input) → verdict input ≡ Refusal 10 → BadLine
      go (header_bad b f) e = inl b
      go (header_lacks b f) e = let q = refusal_of (sym f ∙ e) in absurd (omega arith)
      go (opening_refuses h m d r f) e = absurd ((opening_numbers h.header m r d).0 (refusal_of (sym f ∙ e)))
      go (judged o (ten x f)) e = inr (o, x)
      go (judged o (differs_at x f)) e = absurd (no_difference (sym f ∙ e))
      go (judged o (twelve x f)) e = let q = refusal_of (sym f ∙ e) in absurd (omega arith)
      go (judged o (is_same x f)) e = absurd (no_same (sym f ∙ e))

      back : BadLine → verdict input ≡ Refusal 10
      back (inl b) = ap (header_verdict 1) (bad_refused b)
      back (inr x) = opened_judged input x.0 ∙ ten_decides (at_first_event x.0) x.0.full.rest x.1

  -- "12, a line missing where the pattern needs one, a header line too": a header line that is needed; or, after an opening that is
  -- accepted, no line decides, and an event's line, an output line or a listing line is needed
  abbrev pub MissingLine : Type 0
  MissingLine = HeaderLacks Tasks empty_header (input_lines input) ⊎ ((o : OpenedYard input) × Lacks (at_end o).phase (at_end o).machine)

  pub refusal_12 : verdict input ≡ Refusal 12 ↔ MissingLine
  unfolding verdict lines_verdict header_verdict take_header
  refusal_12 = (λ e. go (verdict_view input) e, back)
    where
      go : VerdictView input (verdict input) → verdict input ≡ Refusal 12 → MissingLine
      go (header_bad b f) e = let q = refusal_of (sym f ∙ e) in absurd (omega arith)
      go (header_lacks b f) e = inl b
      go (opening_refuses h m d r f) e = absurd ((opening_numbers h.header m r d).1 (refusal_of (sym f ∙ e)))
      go (judged o (ten x f)) e = let q = refusal_of (sym f ∙ e) in absurd (omega arith)
      go (judged o (differs_at x f)) e = absurd (no_difference (sym f ∙ e))
      go (judged o (twelve x f)) e = inr (o, x)
      go (judged o (is_same x f)) e = absurd (no_same (sym f ∙ e))

      back : MissingLine → verdict input ≡ Refusal 12
      back (inl b) = ap (header_verdict 1) (lacks_refused b)
      back (inr x) = opened_judged input x.0 ∙ lack_decides (at_first_event x.0) x.0.full.rest x.1

  -- "A header that the opening refuses gives that refusal": and no other number is given but 10 and 12
  pub opening_refusal : (m : ℕ) → ¬ (m ≡ 0) → ¬ (m ≡ 10) → ¬ (m ≡ 12)
      → verdict input ≡ Refusal m ↔ ((f : FullHeader input) × ((session_opening f.header).refusal ≡ m))
  opening_refusal m d not-10 not-12 = (λ e. go (verdict_view input) e, λ x. refused_judged input x.0 m d x.1)
    where
      go : VerdictView input (verdict input) → verdict input ≡ Refusal m → (f : FullHeader input) × ((session_opening f.header).refusal ≡ m)
      go (header_bad b f) e = absurd (not-10 (sym (refusal_of (sym f ∙ e))))
      go (header_lacks b f) e = absurd (not-12 (sym (refusal_of (sym f ∙ e))))
      go (opening_refuses h n c r f) e = (h, r ∙ refusal_of (sym f ∙ e))
      go (judged o (ten x f)) e = absurd (not-10 (sym (refusal_of (sym f ∙ e))))
      go (judged o (differs_at x f)) e = absurd (no_difference (sym f ∙ e))
      go (judged o (twelve x f)) e = absurd (not-12 (sym (refusal_of (sym f ∙ e))))
      go (judged o (is_same x f)) e = absurd (no_same (sym f ∙ e))

  -- "the number, from 1, of the first line that is not what the machine prints": after an opening that is accepted, the first line that
  -- decides is closed and another
  abbrev pub OtherLine : ℕ → Type 0
  OtherLine n = (o : OpenedYard input) × (x : LineAt Other (at_first_event o) o.full.rest) × (n ≡ 1 + length o.full.own + length x.first)

  pub difference : (n : ℕ) → verdict input ≡ Differs n ↔ OtherLine n
  unfolding judging
  difference n = (
    λ e. go (verdict_view input) e,
    λ x. opened_judged input x.0 ∙ difference_decides (at_first_event x.0) x.0.full.rest refl x.1 ∙ ap Differs (sym x.2),
  )
    where
      go : VerdictView input (verdict input) → verdict input ≡ Differs n → OtherLine n
      go (header_bad b f) e = absurd (no_difference (sym e ∙ f))
      go (header_lacks b f) e = absurd (no_difference (sym e ∙ f))
      go (opening_refuses h m d r f) e = absurd (no_difference (sym e ∙ f))
      go (judged o (ten x f)) e = absurd (no_difference (sym e ∙ f))
      go (judged o (differs_at x f)) e = (o, x, line_of (sym e ∙ f))
        where
          line_of : {a b : ℕ} → Differs a ≡ Differs b → a ≡ b
          line_of q = cc
      go (judged o (twelve x f)) e = absurd (no_difference (sym e ∙ f))
      go (judged o (is_same x f)) e = absurd (same_no_difference (sym f ∙ e))

  -- "same": after an opening that is accepted no line decides, and the listing is whole
  pub same : verdict input ≡ Same ↔ ((o : OpenedYard input) × Whole (at_end o).phase (at_end o).machine)
  same = (λ e. go (verdict_view input) e, λ x. opened_judged input x.0 ∙ whole_decides (at_first_event x.0) x.0.full.rest x.1)
    where
      go : VerdictView input (verdict input) → verdict input ≡ Same → (o : OpenedYard input) × Whole (at_end o).phase (at_end o).machine
      go (header_bad b f) e = absurd (no_same (sym e ∙ f))
      go (header_lacks b f) e = absurd (no_same (sym e ∙ f))
      go (opening_refuses h m d r f) e = absurd (no_same (sym e ∙ f))
      go (judged o (ten x f)) e = absurd (no_same (sym e ∙ f))
      go (judged o (differs_at x f)) e = absurd (same_no_difference (sym e ∙ f))
      go (judged o (twelve x f)) e = absurd (no_same (sym e ∙ f))
      go (judged o (is_same x f)) e = (o, x)
