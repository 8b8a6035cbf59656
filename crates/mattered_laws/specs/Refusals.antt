-- What is promised of `verdict`, for any bytes: each refusal exactly under its condition, and else the answer of `mattered`.
--
--   refused_10_iff    the header is not complete, or it opens and some line after it is no event's
--   refused_15_iff    the header opens, every line after it is an event's, and there are more than 256
--   refused_opening   any other number is given exactly if the opening is refused with it
--   answered          in every other session `mattered` answers; `event_exactly` and `none_exactly` of Earliest say what that means
--
-- Assumes nothing.
use Rattle.std.specs.Prelude.{ℕ, ◌<◌, ◌≤◌, ◌≡◌, refl, List, Bool, true, false, not, ◌⊎◌, ◌↔◌, eqb, ltb, length}
use Rattle.std.proofs.Common.{sym, ◌∙◌, inl, inr, arith}
use borrow.Author.Tests.{eqb-true, eqb-false, eq-eqb, ne_eqb, ltb-true, ltb-false, lt-ltb, le-ltb}
use Rattle.spec.specs.Sound.{within, version_known}
use Rattle.spec.specs.Entries.{Opened, opening, pool_fits, not_opened}
use Rattle.laws.specs.Tests.{choose}
use Rattle.session.specs.declared.Header.{Header}
use Rattle.session.specs.Grammar.{InputLine, input_lines}
use Rattle.session.specs.Header.{HeaderRead, complete, incomplete, read_header}
use Rattle.session.specs.Transcript.{events, all_events, session_opening}
use Rattle.mattered.specs.declared.Verdict.TheVariants.{Refused}
use Rattle.mattered.specs.Mattered.{mattered}
use Rattle.mattered_laws.specs.Earliest.{not_refused}
use Rattle.mattered.specs.SessionVerdict.{events_verdict, events_lines_verdict, opened_verdict, header_verdict, lines_verdict, verdict}

-- the header is complete, and these lines stand after it
pub record Headed (input : List ℕ) : Type 0 where
  pub header : Header
  pub rest : List InputLine
  pub read : read_header (input_lines input) ≡ complete header rest

module _ {input : List ℕ} (h : Headed input) where
  abbrev pub opened : Opened
  opened = session_opening h.header

  -- "Input without three full header lines is 10", "A refused opening gives its own number": neither; then the lines decide
  abbrev pub Opens : Type 0
  Opens = opened.refusal ≡ 0

  abbrev pub AllEvents : Type 0
  AllEvents = all_events h.rest ≡ true

  abbrev pub number_of_events : ℕ
  number_of_events = length (events h.rest)

  -- "A refused opening gives its own number and no event is read": whatever the lines after the header are
  pub opening_refused : ¬ (opened.refusal ≡ 0) → verdict input ≡ Refused opened.refusal
  unfolding verdict lines_verdict header_verdict opened_verdict
  opening_refused z = rw (h.read, ne_eqb _ _ z)

  module _ (z : Opens) where
    pub line_refused : all_events h.rest ≡ false → verdict input ≡ Refused 10
    unfolding verdict lines_verdict header_verdict opened_verdict events_lines_verdict
    line_refused a = rw (h.read, eq-eqb _ _ z, a)

    pub too_many : AllEvents → 256 < number_of_events → verdict input ≡ Refused 15
    unfolding verdict lines_verdict header_verdict opened_verdict events_lines_verdict events_verdict
    too_many a m = rw (h.read, eq-eqb _ _ z, a, lt-ltb _ _ m)

    pub answered : AllEvents → number_of_events ≤ 256 → verdict input ≡ mattered opened.machine (events h.rest)
    unfolding verdict lines_verdict header_verdict opened_verdict events_lines_verdict events_verdict
    answered a m = rw (h.read, eq-eqb _ _ z, a, le-ltb _ _ m)

-- ---- which of these a session is

data Session (input : List ℕ) : Type 0 where
  headless : read_header (input_lines input) ≡ incomplete → Session input
  not_opening : (h : Headed input) → ¬ Opens h → Session input
  line_outside : (h : Headed input) → Opens h → all_events h.rest ≡ false → Session input
  too_long : (h : Headed input) → Opens h → AllEvents h → 256 < number_of_events h → Session input
  judged : (h : Headed input) → Opens h → AllEvents h → number_of_events h ≤ 256 → Session input

session_of : (input : List ℕ) → Session input
session_of input = at_header (read_header (input_lines input)) refl
  where
    at_number : (h : Headed input) → Opens h → AllEvents h → (c : Bool) → ltb 256 (number_of_events h) ≡ c → Session input
    at_number h z a true e = too_long h z a (ltb-true _ _ e)
    at_number h z a false e = judged h z a (ltb-false _ _ e)

    at_lines : (h : Headed input) → Opens h → (c : Bool) → all_events h.rest ≡ c → Session input
    at_lines h z true e = at_number h z e (ltb 256 (number_of_events h)) refl
    at_lines h z false e = line_outside h z e

    at_opening : (h : Headed input) → (c : Bool) → eqb (opened h).refusal 0 ≡ c → Session input
    at_opening h true e = at_lines h (eqb-true _ _ e) (all_events h.rest) refl
    at_opening h false e = not_opening h (eqb-false _ _ e)

    at_header : (k : HeaderRead) → read_header (input_lines input) ≡ k → Session input
    at_header incomplete e = headless e
    at_header (complete g ls) e = let h : Headed input = record { header = g; rest = ls; read = e } in at_opening h (eqb (opened h).refusal 0) refl

-- ---- each refusal exactly under its condition

-- an opening is refused with 1, 2, 3 or 11
opening_numbers : (h : Header) → ¬ ((session_opening h).refusal ≡ 10) × ¬ ((session_opening h).refusal ≡ 15)
unfolding session_opening opening not_opened
opening_numbers h =
    let P : Opened → Type 0 = λ o. ¬ (o.refusal ≡ 10) × ¬ (o.refusal ≡ 15) in
    choose P (not (within 1 8 h.config.tasks)) _ _ (λ p. (λ e. omega arith, λ e. omega arith)) (λ p.
    choose P (not (pool_fits 34 64 _)) _ _ (λ q. (λ e. omega arith, λ e. omega arith)) (λ q.
    choose P (not (pool_fits 66 1024 _)) _ _ (λ r. (λ e. omega arith, λ e. omega arith)) (λ r.
    choose P (not (version_known h.config)) _ _ (λ s. (λ e. omega arith, λ e. omega arith)) (λ s. (λ e. omega arith, λ e. omega arith)))))

same_number : {m n : ℕ} → Refused m ≡ Refused n → m ≡ n
same_number e = cc

module _ (input : List ℕ) where
  headless_refused : read_header (input_lines input) ≡ incomplete → verdict input ≡ Refused 10
  unfolding verdict lines_verdict header_verdict
  headless_refused e = rw e

  abbrev pub LineOutside : Type 0
  LineOutside = (h : Headed input) × Opens h × (all_events h.rest ≡ false)

  pub refused_10_iff : (verdict input ≡ Refused 10) ↔ ((read_header (input_lines input) ≡ incomplete) ⊎ LineOutside)
  refused_10_iff = (only (session_of input), back)
    where
      only : Session input → verdict input ≡ Refused 10 → (read_header (input_lines input) ≡ incomplete) ⊎ LineOutside
      only (headless r) e = inl r
      only (not_opening h z) e = absurd ((opening_numbers h.header).0 (same_number (sym (opening_refused h z) ∙ e)))
      only (line_outside h z a) e = inr (h, z, a)
      only (too_long h z a m) e = let q = same_number (sym (too_many h z a m) ∙ e) in absurd (omega arith)
      only (judged h z a m) e = absurd (not_refused _ _ 10 (sym (answered h z a m) ∙ e))

      back : (read_header (input_lines input) ≡ incomplete) ⊎ LineOutside → verdict input ≡ Refused 10
      back (inl r) = headless_refused r
      back (inr x) = line_refused x.0 x.1 x.2

  -- "15, a session of more events, after 10"
  abbrev pub TooManyEvents : Type 0
  TooManyEvents = (h : Headed input) × Opens h × AllEvents h × (256 < number_of_events h)

  pub refused_15_iff : (verdict input ≡ Refused 15) ↔ TooManyEvents
  refused_15_iff = (only (session_of input), λ x. too_many x.0 x.1 x.2 x.3)
    where
      only : Session input → verdict input ≡ Refused 15 → TooManyEvents
      only (headless r) e = let q = same_number (sym (headless_refused r) ∙ e) in absurd (omega arith)
      only (not_opening h z) e = absurd ((opening_numbers h.header).1 (same_number (sym (opening_refused h z) ∙ e)))
      only (line_outside h z a) e = let q = same_number (sym (line_refused h z a) ∙ e) in absurd (omega arith)
      only (too_long h z a m) e = (h, z, a, m)
      only (judged h z a m) e = absurd (not_refused _ _ 15 (sym (answered h z a m) ∙ e))

  pub refused_opening : (r : ℕ) → ¬ (r ≡ 10) → ¬ (r ≡ 15) → (verdict input ≡ Refused r) ↔ ((h : Headed input) × ¬ Opens h × ((opened h).refusal ≡ r))
  refused_opening r not-10 not-15 = (only (session_of input), λ x. rw (← x.2) (opening_refused x.0 x.1))
    where
      only : Session input → verdict input ≡ Refused r → (h : Headed input) × ¬ Opens h × ((opened h).refusal ≡ r)
      only (headless s) e = absurd (not-10 (sym (same_number (sym (headless_refused s) ∙ e))))
      only (not_opening h z) e = (h, z, same_number (sym (opening_refused h z) ∙ e))
      only (line_outside h z a) e = absurd (not-10 (sym (same_number (sym (line_refused h z a) ∙ e))))
      only (too_long h z a m) e = absurd (not-15 (sym (same_number (sym (too_many h z a m) ∙ e))))
      only (judged h z a m) e = absurd (not_refused _ _ r (sym (answered h z a m) ∙ e))
