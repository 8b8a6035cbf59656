-- The refusals of a session's header and lines, of any bytes, each exactly under its condition. The transcript ends with refusal 10 exactly if
-- the header is not complete, or it opens and some line after it is no event's (`refused_10_iff`); it is the opening's refusal alone exactly if the
-- header's numbers call for it (`refused_opening_iff`). For a listing ends with another key, and two refusals have two numbers. Assumes nothing.
use Rattle.std.specs.Prelude.{ℕ, ◌<◌, ◌≡◌, Bool, ◌&&◌, ◌⊎◌, ◌↔◌, eqb, Option, Some, None}
use Rattle.std.proofs.Math.Path.{refl}
use Rattle.std.proofs.Common.{sym, ap, ◌∙◌, arith}
use mathlib.Core.List.{List, [], ◌∷◌, ◌++◌}
use Rattle.std.proofs.Math.Bool.{true, false}
use Rattle.std.proofs.Math.Logic.{inl, inr}
use borrow.Author.Tests.{eqb-true, eqb-false, eq-eqb, ne_eqb}
use Rattle.spec.specs.Lists.{every}
use Rattle.spec.specs.Machine.{Machine}
use Rattle.spec.specs.Listed.{listed, head_of, size_of}
use Rattle.spec.specs.Schedule.{run}
use Rattle.session.specs.declared.EventLine.{EventLine}
use Rattle.session.specs.declared.EventLine.TheVariants.{Start, Step}
use Rattle.session.specs.declared.Header.{Header}
use Rattle.session.specs.Grammar.{InputLine, input_lines, parse_event_line}
use Rattle.session.specs.Header.{HeaderRead, complete, incomplete, read_header}
use Rattle.session.specs.Print.{refusal_line, listing_lines}
use Rattle.session.specs.Transcript.{events, is_event, all_events, output_lines, final_listing, end_lines, ran_lines, event_lines}
use Rattle.session.specs.Transcript.{opened_lines, header_lines, lines_transcript, transcript}
use Rattle.recording_laws.specs.OpeningConditions.{HeaderRefused, header_1, header_2, header_3, header_11, header_refused}
use Rattle.recording_laws.specs.RecordingRead.{session_lists}
use Rattle.mattered_laws.specs.Refusals.{Headed, opened, Opens}
use Rattle.refusal_laws.specs.Any.{Any, not_every}
use Rattle.refusal_laws.specs.LastLine.{EndsIn, not_listing, one_number, same_refusal}

-- "a line outside the grammar, too long or not closed", among those after the header
abbrev pub NoEvent : InputLine → Type 0
NoEvent l = parse_event_line l ≡ None

not_event : (x : Option EventLine) → (is_event x ≡ false) ↔ (x ≡ None)
unfolding is_event
not_event (Some (Start k call tag)) = (λ e. let z : ◌≡◌ {A = ℕ} 0 1 = cc in absurd (omega arith), λ e. let z : ◌≡◌ {A = ℕ} 0 1 = cc in absurd (omega arith))
not_event (Some (Step k)) = (λ e. let z : ◌≡◌ {A = ℕ} 0 1 = cc in absurd (omega arith), λ e. let z : ◌≡◌ {A = ℕ} 0 1 = cc in absurd (omega arith))
not_event None = (λ e. refl, λ e. refl)

is_every : (ls : List InputLine) → all_events ls ≡ every (λ l. is_event (parse_event_line l)) ls
unfolding all_events every
is_every [] = refl
is_every (l ∷ ls) = ap (λ (b : Bool). is_event (parse_event_line l) && b) (is_every ls)

pub outside_iff : (ls : List InputLine) → (all_events ls ≡ false) ↔ Any NoEvent ls
outside_iff ls =
    let i = not_every (λ (l : InputLine). is_event (parse_event_line l)) NoEvent (λ l. not_event (parse_event_line l)) ls in
    (λ e. i.0 (sym (is_every ls) ∙ e), λ a. is_every ls ∙ i.1 a)

-- the opening's numbers
pub opening_number : {h : Header} {r : ℕ} → HeaderRefused h r → (r < 12) × (¬ (r ≡ 0)) × (¬ (r ≡ 10))
opening_number (header_1 e n) = omega arith
opening_number (header_2 e t n) = omega arith
opening_number (header_3 e t s n) = omega arith
opening_number (header_11 e t s b n) = omega arith

-- ---- what is printed

module _ {input : List ℕ} (h : Headed input) where
  opening_prints : (r : ℕ) → HeaderRefused h.header r → transcript input ≡ refusal_line r
  unfolding transcript lines_transcript header_lines opened_lines
  opening_prints r x =
      let d = (opening_number x).1 in
      rw (h.read, (header_refused h.header r d).1 x, ne_eqb _ _ d)

  module _ (z : Opens h) where
    abbrev outs : List ℕ
    outs = output_lines (events h.rest) (run (opened h).machine (events h.rest)).outs

    abbrev last : Machine
    last = (run (opened h).machine (events h.rest)).machine

    outside_prints : all_events h.rest ≡ false → transcript input ≡ outs ++ refusal_line 10
    unfolding transcript lines_transcript header_lines opened_lines event_lines ran_lines end_lines
    outside_prints a = rw (h.read, eq-eqb _ _ z, a)

    -- "at the end of input `size=` the head's size, `tags=` their count, and a `tag=` each"
    pub listing_prints : all_events h.rest ≡ true → transcript input ≡ outs ++ listing_lines (size_of last (head_of last)) (listed last)
    unfolding transcript lines_transcript header_lines opened_lines event_lines ran_lines end_lines final_listing
    listing_prints a = rw (h.read, eq-eqb _ _ z, a, ((session_lists h.header z).counts (events h.rest)).1)

-- ---- each refusal exactly under its condition

module _ (input : List ℕ) where
  -- the header opens, and some line after it is no event's
  abbrev pub LineOutside : Type 0
  LineOutside = (h : Headed input) × Opens h × Any NoEvent h.rest

  data SessionOf : List ℕ → Type 0 where
    headless : read_header (input_lines input) ≡ incomplete → SessionOf (refusal_line 10)
    not_opening : (h : Headed input) (r : ℕ) → HeaderRefused h.header r → SessionOf (refusal_line r)
    line_outside : (front : List ℕ) → LineOutside → SessionOf (front ++ refusal_line 10)
    listing : (front : List ℕ) (size : ℕ) (ts : List ℕ) → SessionOf (front ++ listing_lines size ts)

  session_of : SessionOf (transcript input)
  unfolding transcript lines_transcript header_lines
  session_of = at_header (read_header (input_lines input)) refl
    where
      at_lines : (h : Headed input) → Opens h → (c : Bool) → all_events h.rest ≡ c → SessionOf (transcript input)
      at_lines h z true a = rw (listing_prints h z a) (listing (outs h z) _ _)
      at_lines h z false a = rw (outside_prints h z a) (line_outside (outs h z) (h, z, (outside_iff h.rest).0 a))

      at_opening : (h : Headed input) → (c : Bool) → eqb (opened h).refusal 0 ≡ c → SessionOf (transcript input)
      at_opening h true e = at_lines h (eqb-true _ _ e) (all_events h.rest) refl
      at_opening h false e =
          let r = (opened h).refusal in
          let x = (header_refused h.header r (eqb-false _ _ e)).0 refl in
          rw (opening_prints h r x) (not_opening h r x)

      at_header : (k : HeaderRead) → read_header (input_lines input) ≡ k → SessionOf (transcript input)
      at_header incomplete e = rw e (headless e)
      at_header (complete g ls) e =
          let h : Headed input = record { header = g; rest = ls; read = e } in
          at_opening h (eqb (opened h).refusal 0) refl

  -- "Input without three full header lines is 10"; "10, a line outside the grammar, too long or not closed", and "After 10 .. it prints nothing more"
  pub refused_10_iff : EndsIn (refusal_line 10) (transcript input) ↔ ((read_header (input_lines input) ≡ incomplete) ⊎ LineOutside)
  unfolding transcript lines_transcript header_lines
  refused_10_iff = (to session_of, from)
    where
      to : {text : List ℕ} → SessionOf text → EndsIn (refusal_line 10) text → (read_header (input_lines input) ≡ incomplete) ⊎ LineOutside
      to (headless e) t = inl e
      to (not_opening h r x) t =
          let n = opening_number x in
          absurd (n.2 (one_number (refusal_line r) r 10 (omega arith) (omega arith) ([], refl) t))
      to (line_outside front x) t = inr x
      to (listing front size ts) t = absurd (not_listing 10 front size ts t)

      from : (read_header (input_lines input) ≡ incomplete) ⊎ LineOutside → EndsIn (refusal_line 10) (transcript input)
      from (inl r) = ([], ap header_lines r)
      from (inr x) = (outs x.0 x.1, outside_prints x.0 x.1 ((outside_iff x.0.rest).1 x.2))

  -- the opening's: 1, 2, 3 and 11, by the header's numbers, and "After .. a refused opening, it prints nothing more"; no other number stands so alone
  pub refused_opening_iff : (r : ℕ) → r < 100 → ¬ (r ≡ 10) → (transcript input ≡ refusal_line r) ↔ ((h : Headed input) × HeaderRefused h.header r)
  refused_opening_iff r b d = (to session_of, λ x. opening_prints x.0 r x.1)
    where
      to : {text : List ℕ} → SessionOf text → text ≡ refusal_line r → (h : Headed input) × HeaderRefused h.header r
      to (headless e) t = absurd (d (sym (same_refusal 10 r (omega arith) b t)))
      to (not_opening h m x) t =
          let n = opening_number x in
          (h, rw (← same_refusal m r (omega arith) b t) x)
      to (line_outside front x) t = absurd (d (one_number (refusal_line r) r 10 b (omega arith) ([], refl) (front, sym t)))
      to (listing front size ts) t = absurd (not_listing r front size ts ([], t))
