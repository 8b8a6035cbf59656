-- What a replay leaves: the machine of the run, the count and the words of the calls that end (`replayed`), whatever calls are noted before.
-- Assumes nothing.
use Rattle.std.specs.Prelude.{Ok, Err}
use Prim.Native.Nat.{ℕ, ◌+◌, ◌*◌, ◌≤◌}
use mathlib.Core.Path.{◌≡◌, refl, sym, ap, ◌∙◌}
use mathlib.Core.List.{List, [], ◌∷◌, ◌++◌}
use native.Mathlib.Omega.{arith}
use lib.ListN.{length, take, length-append}
use lib.Seq.{take_at}
use Rattle.spec.specs.Outputs.{Output}
use Rattle.spec.specs.declared.Progress.TheVariants.{At, End}
use Rattle.spec.specs.declared.Task.{Task}
use Rattle.spec.specs.Lists.{concat_map}
use Rattle.spec.specs.Machine.{Machine, task_of}
use Rattle.spec.specs.Words.{overwrite}
use Rattle.spec.specs.Schedule.{Event, event, run}
use Rattle.laws.specs.Overwrite.{over_length}
use Rattle.schedule_words.proofs.Laws.{over_none, over_then}
use Rattle.mattered.specs.EndedCalls.{EndedCall, ended_by, ended_calls}
use Rattle.session.specs.Transcript.{task_in}
use Rattle.mattered_replay.specs.Replay.{call_words, all_words, noted, ended_at, on_event, replay}

-- ---- the words of ended calls

pub words_length : (xs : List EndedCall) → length (all_words xs) ≡ 4 * length xs
unfolding concat_map
words_length [] = refl
words_length (a ∷ xs) = let h = words_length xs in omega arith

words_append : (xs ys : List EndedCall) → all_words (xs ++ ys) ≡ all_words xs ++ all_words ys
unfolding concat_map
words_append [] ys = refl
words_append (a ∷ xs) ys = ap (λ (l : List ℕ). call_words a ++ l) (words_append xs ys)

-- written from the first word on, they are the first words
pub words_front : (w : List ℕ) (xs : List EndedCall) (m : ℕ) → m ≡ length xs → take (4 * m) (overwrite w 0 (all_words xs)) ≡ all_words xs
unfolding overwrite
words_front w xs m e = take_at (all_words xs) _ (4 * m) (let h = words_length xs in omega arith)

-- ---- an event ends one call at most

pub ends_one : (k : ℕ) (c : Task) (o : Output) → length (ended_by k c o) ≤ 1
unfolding ended_by
ends_one k c (Ok (At l)) = omega arith
ends_one k c (Ok (End a own full)) = omega arith
ends_one k c (Err r) = omega arith

-- ---- the whole

pub record Replayed (y : Machine) (n : ℕ) (w : List ℕ) (es : List Event) : Type 0 where
  pub machine : (replay (noted y n w) es).machine ≡ (run y es).machine
  pub count : (replay (noted y n w) es).count ≡ n + length (ended_calls y es)
  pub words : (replay (noted y n w) es).words ≡ overwrite w (4 * n) (all_words (ended_calls y es))

pub replayed : (es : List Event) (y : Machine) (n : ℕ) (w : List ℕ) → 4 * n + 4 * length es ≤ length w → Replayed y n w es
unfolding replay run on_event ended_at ended_calls concat_map
replayed [] y n w h = record { machine = refl; count = omega arith; words = sym (over_none w (4 * n)) }
replayed (e ∷ es) y n w h = on (replayed es (event y e).machine (n + length calls) (overwrite w (4 * n) (all_words calls)) room)
  where
    calls : List EndedCall
    calls = ended_at y e

    few : length calls ≤ 1
    few = ends_one (task_in e) (task_of y (task_in e)) (event y e).out

    long : length (all_words calls) ≡ 4 * length calls
    long = words_length calls

    room : 4 * (n + length calls) + 4 * length es ≤ length (overwrite w (4 * n) (all_words calls))
    room = rw (over_length w (4 * n) (all_words calls) (omega (arith, few, long))) (omega (arith, few))

    on : Replayed (event y e).machine (n + length calls) (overwrite w (4 * n) (all_words calls)) es → Replayed y n w (e ∷ es)
    on r =
        let later = ended_calls (event y e).machine es in
        let at : 4 * (n + length calls) ≡ 4 * n + length (all_words calls) = omega (arith, long) in
        record {
          machine = r.machine;
          count = r.count ∙ (let l = length-append calls later in omega arith);
          words =
              r.words
              ∙ ap (λ (j : ℕ). overwrite (overwrite w (4 * n) (all_words calls)) j (all_words later)) at
              ∙ sym (over_then w (4 * n) (all_words calls) (all_words later) (omega (arith, few, long)))
              ∙ ap (λ (l : List ℕ). overwrite w (4 * n) l) (sym (words_append calls later));
        }
