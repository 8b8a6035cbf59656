-- The search for the first step that matters, place by place, and the verdict after an opening. Assumes nothing.
use Rattle.std.specs.Prelude.{if◌then◌else◌}
use Prim.Native.Nat.{ℕ, zero, suc, ◌+◌, ◌*◌, ◌-◌, ◌≤◌, ◌<◌}
use mathlib.Core.Path.{◌≡◌, refl, sym, ap, ◌∙◌}
use mathlib.Core.List.{List}
use mathlib.Core.Bool.{Bool, true, false, not, ◌&&◌}
use native.Mathlib.Omega.{arith}
use borrow.Author.Tests.{lt-ltb, le-ltb, eq-eqb, ne_eqb}
use lib.ListN.{length, get_or, take, drop}
use lib.Seq.{get_or-drop}
use Rattle.std.specs.declared.option.Option.{Option}
use Rattle.std.specs.declared.option.Option.TheVariants.{Some, None}
use Rattle.spec.specs.declared.Call.{Call}
use Rattle.spec.specs.declared.Config.{Config}
use Rattle.spec.specs.Machine.{Machine}
use Rattle.spec.specs.Words.{overwrite}
use Rattle.spec.specs.Entries.{Opened, opening}
use Rattle.spec.specs.Schedule.{Event}
use Rattle.session.specs.Grammar.{equals}
use Rattle.session_lines.specs.Openings.{opening_same}
use Rattle.schedule_events.specs.Events.{event_of, events_of, event_asked}
use Rattle.schedule_events.specs.EventLaws.{events_length, event_at}
use Rattle.mattered.specs.declared.Verdict.{Verdict}
use Rattle.mattered.specs.declared.Verdict.TheVariants.{Place, Refused}
use Rattle.mattered.specs.EndedCalls.{EndedCall, ended_calls}
use Rattle.mattered.specs.Mattered.{is_step, step_at, without, alters, first_place, mattered}
use Rattle.mattered.specs.SessionVerdict.{events_verdict, words_after}
use Rattle.mattered_run.specs.Judged.{said_of, opened_events_verdict}
use Rattle.mattered_replay.specs.Replay.{all_words}
use Rattle.mattered_replay.proofs.Replayed.{words_front}
use Rattle.mattered_run.proofs.Compared.{words_compared}
use Rattle.mattered_replay.proofs.EventsLeft.{all_events_run}

-- ---- event k

-- it is a step exactly if its words are a step's
pub step_there : (k n : ℕ) (ws : List ℕ) → k < n → step_at k (events_of n ws) ≡ is_step (event_at ws k)
unfolding step_at events_of
step_there k zero ws h = absurd (omega arith)
step_there zero (suc n) ws h = refl
step_there (suc k) (suc n) ws h =
    let at : (j : ℕ) → get_or (drop 4 ws) (4 * k + j) 0 ≡ get_or ws (4 * suc k + j) 0 = λ j.
    let q : 4 + (4 * k + j) ≡ 4 * suc k + j = omega arith in
    get_or-drop 4 ws (4 * k + j) 0 ∙ ap (λ (i : ℕ). get_or ws i 0) q in
    let first : get_or (drop 4 ws) (4 * k) 0 ≡ get_or ws (4 * suc k) 0 =
    let q : 4 + 4 * k ≡ 4 * suc k = omega arith in
    get_or-drop 4 ws (4 * k) 0 ∙ ap (λ (i : ℕ). get_or ws i 0) q in
    step_there k n (drop 4 ws) (omega arith) ∙ (λ i. is_step (event_of (first i) (at 1 i) (at 2 i)))

-- its first word asks for a start, or for a step
module _ (k n : ℕ) (ws : List ℕ) (h : k < n) {kind : ℕ} (at-kind : kind ≡ get_or ws (4 * k) 0) (a : Option Call)
    (asks : (task tag : ℕ) → event_of kind task tag ≡ event_asked a task tag) (b : Bool) where
  first_word : event_at ws k ≡ event_asked a (get_or ws (4 * k + 1) 0) (get_or ws (4 * k + 2) 0)
  first_word = rw (← at-kind) (asks (get_or ws (4 * k + 1) 0) (get_or ws (4 * k + 2) 0))

  pub no_step_there : (call : Call) → a ≡ Some call → false ≡ (step_at k (events_of n ws) && b)
  unfolding is_step event_asked
  no_step_there call e = rw (step_there k n ws h, first_word, e) refl

  pub step_there_is : a ≡ None → (s : Bool) → s ≡ b → s ≡ (step_at k (events_of n ws) && b)
  unfolding is_step event_asked
  step_there_is e s q = rw (step_there k n ws h, first_word, e) q

-- ---- the calls that end without it

-- the words that a run left are those of the calls that ended
pub words_read : (calls : List EndedCall) (w v : List ℕ) (m : ℕ) → m ≡ length calls → v ≡ overwrite w 0 (all_words calls) → take (4 * m) v ≡ all_words calls
words_read calls w v m e f = ap (take (4 * m)) f ∙ words_front w calls m e

-- where none is left out, they are those of all events
pub all_words_read : (ws : List ℕ) (n : ℕ) (y y' : Machine) → y' ≡ y → (w v : List ℕ) (m : ℕ) → m ≡ length (ended_calls y (without n (events_of n ws)))
    → v ≡ overwrite w 0 (all_words (ended_calls y (without n (events_of n ws)))) → take (4 * m) v ≡ all_words (ended_calls y' (events_of n ws))
all_words_read ws n y y' same w v m e f =
    words_read (ended_calls y (without n (events_of n ws))) w v m e f
    ∙ ap (λ (es : List Event). all_words (ended_calls y es)) (all_events_run ws n)
    ∙ ap (λ (z : Machine). all_words (ended_calls z (events_of n ws))) (sym same)

-- what the code finds of it is the definition's test
pub alters_read : (y y' : Machine) → y' ≡ y → (es : List Event) (calls : List ℕ) → calls ≡ all_words (ended_calls y es) → (k : ℕ) (r : Bool)
    → r ≡ (step_at k es && not (equals calls (all_words (ended_calls y' (without k es))))) → r ≡ alters y es k
unfolding alters
alters_read y y' e es calls f k r q =
    q
    ∙ ap (λ (l : List ℕ). step_at k es && not (equals l (all_words (ended_calls y' (without k es))))) f
    ∙ ap (λ (z : Machine). step_at k es && not (equals (all_words (ended_calls y es)) (all_words (ended_calls z (without k es))))) e
    ∙ ap (λ (b : Bool). step_at k es && not b) (words_compared (ended_calls y (without k es)) (ended_calls y es))

-- ---- an opening over other words of the same pools

module _ (g : Config) (ns bs ns' bs' : List ℕ) (p : length ns' ≡ length ns) (q : length bs' ≡ length bs) (z : (opening g ns bs).refusal ≡ 0) where
  pub again_accepted : (opening g ns' bs').refusal ≡ 0
  again_accepted = sym (opening_same g ns bs ns' bs' (sym p) (sym q)).refusal ∙ z

  pub again_machine : (opening g ns' bs').machine ≡ (opening g ns bs).machine
  again_machine = sym ((opening_same g ns bs ns' bs' (sym p) (sym q)).machine z)

-- ---- the search

module _ (y : Machine) (es : List Event) (n : ℕ) where
  -- what is left of it at place k
  pub record SearchLeft (k : ℕ) : Type 0 where
    pub left : mattered y es ≡ first_place (alters y es) k (n - k)

  pub search_start : length es ≡ n → SearchLeft 0
  unfolding mattered
  search_start e = let z : n - 0 ≡ n = omega arith in record { left = rw (z, e) refl }

  module _ (k : ℕ) (s : SearchLeft k) where
    less : k < n → n - k ≡ suc (n - (k + 1))
    less h = omega arith

    next : suc k ≡ k + 1
    next = omega arith

    pub search_found : k < n → alters y es k ≡ true → said_of (Some (k + 1)) ≡ mattered y es
    unfolding first_place
    search_found h a = sym (s.left ∙ rw (less h, a, next) refl)

    pub search_on : k < n → alters y es k ≡ false → SearchLeft (k + 1)
    unfolding first_place
    search_on h a = record { left = s.left ∙ rw (less h, a, next) refl }

    pub search_end : n ≤ k → said_of None ≡ mattered y es
    unfolding first_place
    search_end h = let z : n - k ≡ 0 = omega arith in sym (s.left ∙ rw z refl)

-- it refuses nothing
found_after : (f : ℕ → Bool) (i n : ℕ) (before opened : List ℕ) → words_after (first_place f i n) before opened ≡ opened
unfolding first_place words_after
found_after f i zero before opened = refl
found_after f i (suc n) before opened = go (found_after f (suc i) n before opened) (f i)
  where
    go : words_after (first_place f (suc i) n) before opened ≡ opened → (b : Bool)
        → words_after (if b then Place (suc i) else first_place f (suc i) n) before opened ≡ opened
    go later true = refl
    go later false = later

pub words_found : (y : Machine) (es : List Event) (v : Verdict) → v ≡ mattered y es → (before opened : List ℕ) → opened ≡ words_after v before opened
unfolding mattered
words_found y es v e before opened =
    sym (ap (λ (x : Verdict). words_after x before opened) e ∙ found_after (alters y es) 0 (length es) before opened)

-- ---- the whole

module _ (o : Opened) (w : List ℕ) (n refusal : ℕ) (e : refusal ≡ o.refusal) where
  pub verdict_refused : ¬ (refusal ≡ 0) → Refused refusal ≡ opened_events_verdict o (events_of n w)
  unfolding opened_events_verdict
  verdict_refused d = rw (← e, ne_eqb refusal 0 d) refl

  module _ (z : refusal ≡ 0) where
    pub verdict_many : 256 < n → Refused 15 ≡ opened_events_verdict o (events_of n w)
    unfolding opened_events_verdict events_verdict
    verdict_many h = rw (← e, eq-eqb refusal 0 z, events_length n w, lt-ltb _ _ h) refl

    pub verdict_found : n ≤ 256 → (v : Verdict) → v ≡ mattered o.machine (events_of n w) → v ≡ opened_events_verdict o (events_of n w)
    unfolding opened_events_verdict events_verdict
    verdict_found h v q = q ∙ rw (← e, eq-eqb refusal 0 z, events_length n w, le-ltb _ _ h) refl
