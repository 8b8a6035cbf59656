-- The events that the words keep are those that were read, as long as these are at most 256; so what is said of them is the same: `kept_verdict`.
-- Assumes nothing.
use Rattle.std.specs.Prelude.{ℕ, zero, suc, ◌+◌, ◌*◌, ◌<◌, ◌≤◌, min, ◌≡◌, refl, List, [], ◌∷◌, ◌++◌, Bool, true, false, ◌&&◌, ltb, leb, length, get_or, drop, if◌then◌else◌, Option, Some, None}
use Rattle.std.proofs.Common.{sym, ap, ◌∙◌, arith, le-leb, leb-true, lt-ltb, ltb-true, ltb-false, length-append, get_or-drop}
use Rattle.spec.specs.Numbers.{call_number}
use Rattle.spec.specs.Machine.{Machine}
use Rattle.spec.specs.Words.{overwrite}
use Rattle.spec.specs.Schedule.{Event}
use Rattle.laws.specs.Overwrite.{over_length, over_before, over_in}
use Rattle.schedule_events.specs.Events.{event_of, events_of}
use Rattle.schedule_events.specs.EventLaws.{event_at, events_length}
use Rattle.session.specs.declared.EventLine.{EventLine}
use Rattle.session.specs.declared.EventLine.TheVariants.{Start, Step}
use Rattle.mattered.specs.SessionVerdict.{events_verdict}
use Rattle.mattered_text.specs.Reading.{event_words, stored}

-- ---- events in words

-- event n of those after the first
event_after : (w : List ℕ) (n : ℕ) → event_at (drop 4 w) n ≡ event_at w (suc n)
event_after w n =
    let kind : 4 + 4 * n ≡ 4 * suc n = omega arith in
    let task : 4 + (4 * n + 1) ≡ 4 * suc n + 1 = omega arith in
    let tag : 4 + (4 * n + 2) ≡ 4 * suc n + 2 = omega arith in
    rw (get_or-drop 4 w (4 * n) 0, get_or-drop 4 w (4 * n + 1) 0, get_or-drop 4 w (4 * n + 2) 0, kind, task, tag)

events_last : (n : ℕ) (w : List ℕ) → events_of (suc n) w ≡ events_of n w ++ (event_at w n ∷ [])
unfolding events_of
events_last zero w = refl
events_last (suc n) w =
    let first = event_at w 0 in
    let later = drop 4 w in
    ap (λ (l : List Event). first ∷ l) (events_last n later ∙ ap (λ (x : Event). events_of n later ++ (x ∷ [])) (event_after w n))

events_same : (n : ℕ) (v w : List ℕ) → ((j : ℕ) → j < 4 * n → get_or v j 0 ≡ get_or w j 0) → events_of n v ≡ events_of n w
unfolding events_of
events_same zero v w same = refl
events_same (suc n) v w same =
    let a = same 0 (omega arith) in
    let b = same 1 (omega arith) in
    let c = same 2 (omega arith) in
    let later = events_same n (drop 4 v) (drop 4 w) (λ j l. get_or-drop 4 v j 0 ∙ same (4 + j) (omega arith) ∙ sym (get_or-drop 4 w j 0)) in
    rw (a, b, c, later)

module _ (n : ℕ) (w : List ℕ) (a b c : ℕ) (fits : 4 * n + 4 ≤ length w) where
  abbrev words : List ℕ
  words = a ∷ b ∷ c ∷ 0 ∷ []

  abbrev over : List ℕ
  over = overwrite w (4 * n) words

  over_event : event_at over n ≡ event_of a b c
  over_event =
      let z : 4 * n + 0 ≡ 4 * n = omega arith in
      let first = ap (λ (i : ℕ). get_or over i 0) (sym z) ∙ over_in w (4 * n) words fits 0 (omega arith) in
      let second = over_in w (4 * n) words fits 1 (omega arith) in
      let third = over_in w (4 * n) words fits 2 (omega arith) in
      rw (first, second, third)

  events_stored : events_of (suc n) over ≡ events_of n w ++ (event_of a b c ∷ [])
  events_stored =
      events_last n over
      ∙ ap (λ (l : List Event). l ++ (event_at over n ∷ [])) (events_same n over w (λ j l. over_before w (4 * n) words fits j l))
      ∙ ap (λ (x : Event). events_of n w ++ (x ∷ [])) over_event

stored_length : (w : List ℕ) (n a b c : ℕ) → length (stored w n (a ∷ b ∷ c ∷ 0 ∷ [])) ≡ length w
unfolding stored
stored_length w n a b c = go (ltb n 256) (leb (4 * n + 4) (length w)) refl
  where
    go : (x y : Bool) → leb (4 * n + 4) (length w) ≡ y → length (if x && y then overwrite w (4 * n) (a ∷ b ∷ c ∷ 0 ∷ []) else w) ≡ length w
    go true true e = over_length w (4 * n) (a ∷ b ∷ c ∷ 0 ∷ []) (leb-true _ _ e)
    go true false e = refl
    go false y e = refl

-- whatever line it is
pub words_length : (w : List ℕ) (n : ℕ) (x : Option EventLine) → length (stored w n (event_words x)) ≡ length w
unfolding event_words
words_length w n (Some (Start k call tag)) = stored_length w n (call_number call) k tag
words_length w n (Some (Step k)) = stored_length w n 0 k 0
words_length w n None = stored_length w n 0 0 0

-- ---- n events are counted and words kept, and these are the events that were read

pub record Keeps (n : ℕ) (w : List ℕ) (es : List Event) : Type 0 where
  pub room : 1024 ≤ length w
  pub counted : n ≡ min 257 (length es)
  pub same : length es ≤ 256 → events_of n w ≡ es

pub keeps_none : (w : List ℕ) → 1024 ≤ length w → Keeps 0 w []
unfolding events_of
keeps_none w room = record { room = room; counted = refl; same = λ l. refl }

pub keeps_more : (n : ℕ) (w : List ℕ) (es : List Event) → Keeps n w es → (a b c : ℕ)
    → Keeps (min 257 (n + 1)) (stored w n (a ∷ b ∷ c ∷ 0 ∷ [])) (es ++ (event_of a b c ∷ []))
unfolding stored
keeps_more n w es k a b c = go (ltb n 256) refl
  where
    more : List Event
    more = es ++ (event_of a b c ∷ [])

    l : length more ≡ length es + 1
    l = simp length-append (omega arith)

    counted : min 257 (n + 1) ≡ min 257 (length more)
    counted = omega (arith, k.counted, l)

    go : (x : Bool) → ltb n 256 ≡ x → Keeps (min 257 (n + 1)) (stored w n (a ∷ b ∷ c ∷ 0 ∷ [])) more
    go true e =
        let h : n < 256 = ltb-true n 256 e in
        let fits : 4 * n + 4 ≤ length w = omega (arith, k.room) in
        let all : length es ≤ 256 = omega (arith, k.counted) in
        let one : min 257 (n + 1) ≡ suc n = omega arith in
        rw (e, le-leb _ _ fits)
        (record {
          room = omega (arith, k.room, over_length w (4 * n) (a ∷ b ∷ c ∷ 0 ∷ []) fits);
          counted = counted;
          same =
              λ few. ap (λ (m : ℕ). events_of m (overwrite w (4 * n) (a ∷ b ∷ c ∷ 0 ∷ []))) one ∙ events_stored n w a b c fits
              ∙ ap (λ (x : List Event). x ++ (event_of a b c ∷ [])) (k.same all);
        })
    go false e =
        let h : 256 ≤ n = ltb-false n 256 e in
        rw e (record { room = k.room; counted = counted; same = λ few. absurd (omega (arith, k.counted, l)) })

-- past 256 events it is 15, whatever they are
pub kept_verdict : (y : Machine) (n : ℕ) (w : List ℕ) (es : List Event) → Keeps n w es → events_verdict y (events_of n w) ≡ events_verdict y es
unfolding events_verdict
kept_verdict y n w es k = go (ltb 256 (length es)) refl
  where
    go : (b : Bool) → ltb 256 (length es) ≡ b → events_verdict y (events_of n w) ≡ events_verdict y es
    go true e =
        let h = ltb-true 256 (length es) e in
        let many : 256 < length (events_of n w) = omega (arith, events_length n w, k.counted) in
        rw (lt-ltb _ _ many, e)
    go false e = ap (events_verdict y) (k.same (ltb-false 256 (length es) e))
