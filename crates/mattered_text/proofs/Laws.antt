-- A line taken, and the end of the input, by what the code's calls gave. Assumes nothing.
use Rattle.std.specs.Option.{is_some}
use Rattle.std.specs.declared.option.Option.TheVariants.{Some, None}
use Prim.Native.Nat.{ℕ, ◌*◌, ◌≤◌}
use mathlib.Core.Path.{◌≡◌, refl, sym, ap, ◌∙◌}
use mathlib.Core.List.{List}
use mathlib.Core.Bool.{Bool, true, false, not, ◌||◌}
use native.Mathlib.Omega.{arith}
use borrow.Author.Tests.{eq-eqb, ne_eqb, eqb-true, eqb-false}
use lib.Dec.{eqb}
use lib.ListN.{length, take, replicate, length-replicate}
use Rattle.std.specs.declared.option.Option.{Option}
use Rattle.spec.specs.declared.Refusal.{Refusal}
use Rattle.spec.specs.Numbers.{refusal_number, opening_number}
use Rattle.laws.specs.RefusalNumbers.{accepts, refuses, never_0, not_0}
use Rattle.spec.specs.Entries.{Opened, opening}
use Rattle.spec.specs.Schedule.{Event}
use Rattle.schedule_events.specs.Events.{events_of}
use Rattle.session.specs.declared.Header.{Header}
use Rattle.session.specs.Transcript.{pool_words, session_opening}
use Rattle.session_pools.specs.PoolParts.{extent, node_extent, bucket_extent}
use Rattle.session_lines.specs.Openings.{part_length, part_words, Alike, opening_same}
use Rattle.opening.specs.Opening.{refusal_of, opening_refusal}
use Rattle.mattered.specs.declared.Verdict.{Verdict}
use Rattle.mattered.specs.declared.Verdict.TheVariants.{Refused}
use Rattle.mattered_run.specs.Judged.{Judged, opened_events_verdict}
use Rattle.mattered_standing.specs.declared.Standing.{Standing}
use Rattle.mattered_text.specs.Reading.{place, header_complete, opened_says, said_at_end}

-- ---- the opening

-- it asks of the pools only how long they are, and these have room for any session's
pool_extent : (width most n words : ℕ) → width * most ≤ words → (n ≤ most → width * n ≤ width * most)
    → extent width most n words ≡ length (pool_words width most n)
pool_extent width most n words fits mono =
    let w : List ℕ = replicate words 0 in
    let l : length w ≡ words = length-replicate words 0 in
    ap (extent width most n) (sym l) ∙ sym (part_length width most n w) ∙ part_words width most n w (omega arith) mono

pub refused_at_opening : (h : Header) (a b : ℕ) → a ≡ extent 34 64 h.nodes 2176 → b ≡ extent 66 200 h.buckets 13200
    → (why : ℕ) → why ≡ refusal_of h.config a b → why ≡ (session_opening h).refusal
unfolding session_opening
refused_at_opening h a b ea eb why e =
    e ∙ ap (λ (n : ℕ). refusal_of h.config n b) (ea ∙ pool_extent 34 64 h.nodes 2176 (omega arith) (λ l. omega arith))
    ∙ ap (refusal_of h.config _) (eb ∙ pool_extent 66 200 h.buckets 13200 (omega arith) (λ l. omega arith))
    ∙ sym (opening_refusal h.config _ _)

-- it gives no refusal, or one
pub some_given : (why : Option Refusal) (n : ℕ) → opening_number why ≡ n → is_some why ≡ not (eqb n 0)
some_given None n e = rw (eq-eqb n 0 (sym e))
some_given (Some r) n e = rw (ne_eqb n 0 (not_0 e refl))

-- ---- the end, after a complete header

-- a line was outside the grammar: the opening's own number, or 10
module _ (o : Opened) (outside : Bool) (es : List Event) (given : outside ≡ true) {why : Option Refusal} (number : opening_number why ≡ o.refusal) where
  pub opened_outside : why ≡ None → Refused 10 ≡ opened_says o outside es
  unfolding opened_says
  opened_outside e = rw (given, eq-eqb o.refusal 0 (accepts number e))

  pub refused_outside : (r : Refusal) → why ≡ Some r → Refused (refusal_number r) ≡ opened_says o outside es
  unfolding opened_says
  refused_outside r e = rw (given, ← refuses number e, ne_eqb (refusal_number r) 0 (never_0 r))

-- none was: what was done over the session's part of the pools

-- openings that are alike say the same
says_same : (o o' : Opened) → Alike o o' → (outside : Bool) (es : List Event) → opened_says o outside es ≡ opened_says o' outside es
unfolding opened_says opened_events_verdict
says_same o o' alike outside es = go (eqb o.refusal 0) refl
  where
    go : (b : Bool) → eqb o.refusal 0 ≡ b → opened_says o outside es ≡ opened_says o' outside es
    go true q =
        let z = eqb-true o.refusal 0 q in
        let z' = sym alike.refusal ∙ z in
        rw (q, eq-eqb o'.refusal 0 z', alike.machine z)
    go false q =
        let n = eqb-false o.refusal 0 q in
        rw (q, alike.refusal, ne_eqb o'.refusal 0 (λ e. n (alike.refusal ∙ e)))

module _ (h : Header) (outside : Bool) (es : List Event) (ns bs : List ℕ) (nodes_fit : 2176 ≤ length ns) (buckets_fit : 13200 ≤ length bs)
    (a b : ℕ) (ea : a ≡ node_extent h ns) (eb : b ≡ bucket_extent h bs) where
  abbrev part : Opened
  part = opening h.config (take a ns) (take b bs)

  alike : Alike part (session_opening h)
  unfolding session_opening
  alike =
      let nodes = part_words 34 64 h.nodes ns nodes_fit (λ l. omega arith) in
      let buckets = part_words 66 200 h.buckets bs buckets_fit (λ l. omega arith) in
      opening_same h.config _ _ _ _ (ap (λ (i : ℕ). length (take i ns)) ea ∙ nodes) (ap (λ (i : ℕ). length (take i bs)) eb ∙ buckets)

  pub searched : outside ≡ false → (v : Verdict) (ns' bs' : List ℕ) → Judged h.config (take a ns) (take b bs) es v ns' bs'
      → v ≡ opened_says (session_opening h) outside es
  unfolding opened_says
  searched o v ns' bs' j =
      let here : v ≡ opened_says part outside es = j.answer ∙ rw o in
      here ∙ says_same part (session_opening h) alike outside es

-- ---- the end of the input

module _ (closed : Bool) (t : Standing) (w : List ℕ) where
  pub said_incomplete : header_complete t.phase ≡ false → Refused 10 ≡ said_at_end closed (place t w)
  unfolding said_at_end
  said_incomplete e = rw e

  pub said_complete : header_complete t.phase ≡ true → (v : Verdict)
      → v ≡ opened_says (session_opening t.header) (not closed || t.outside) (events_of t.count w) → v ≡ said_at_end closed (place t w)
  unfolding said_at_end
  said_complete e v says = says ∙ rw e
