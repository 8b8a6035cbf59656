-- Line by line, an input prints its transcript: `lines_print_transcript`. A 65th call, and those after it, change nothing but that the list is
-- longer. A line outside the grammar fixes the answer (`plan_decides`), and so does one that is too long or not closed (`plan_outside`). Assumes nothing.
use Rattle.std.specs.Prelude.{◌≡◌, refl, List, [], ◌∷◌, ◌++◌, Bool, true, false, ℕ, ◌+◌, ◌<◌, ltb, length, set, if◌then◌else◌, Option, Some, None}
use Rattle.std.proofs.Common.{sym, ap, ◌∙◌, arith, lt-ltb, le-ltb, ltb-true, ltb-false}
use Rattle.session.specs.Grammar.{InputLine, input_lines, admissible, parse_header_line}
use Rattle.session.specs.Print.{refusal_line}
use Rattle.session.specs.KeptLists.{KeptIn, KeptAs, past, whole, kept_as, keeps_one, keeps_past}
use Rattle.stdio.specs.declared.input.Input.{Input}
use Rattle.stdio.specs.Readers.{TakesLines, OutsideFixes, Countable}
use Rattle.stdio.specs.Runs.{Prints, exact}
use Rattle.plans.specs.declared.Planned.{Planned}
use Rattle.plans.specs.declared.Calls.{Calls}
use Rattle.plans.specs.Plan.{plan, list_of}
use Rattle.plan_text.specs.declared.Due.{Due}
use Rattle.plan_text.specs.declared.Due.TheVariants.{Tasks, Version, Call}
use Rattle.plan_text.specs.declared.PlanLine.{PlanLine}
use Rattle.plan_text.specs.declared.PlanLine.TheVariants.{Tasks as SaysTasks, Version as SaysVersion, Call as SaysCall}
use Rattle.plan_text.specs.declared.reading.Reading.{Reading}
use Rattle.plan_text.specs.Text.{tasks_said, version_said, parse_call_line, line_says, PlanInput, input_of, no_input, after_line, after_lines}
use Rattle.plan_text.specs.Text.{plan_lines, in_grammar, plan_output, plan_transcript}
use Rattle.plan_text.specs.Reading.{calls_of, add_call, no_calls, new_reading, add_line, take_line, answer, decided}

-- ---- a line outside the grammar

outside_line : (due : Option Due) (x : InputLine) → admissible x ≡ false → line_says due x ≡ None
unfolding line_says tasks_said version_said parse_header_line parse_call_line
outside_line (Some Tasks) x e = rw e
outside_line (Some Version) x e = rw e
outside_line (Some Call) x e = rw e
outside_line None x e = refl

nothing_refused : (r : Reading) → r.due ≡ None → (ls : List InputLine) → answer r ls ≡ refusal_line 10
unfolding answer add_line line_says in_grammar
nothing_refused r e [] = rw e
nothing_refused r e (l ∷ ls) = rw e (nothing_refused (add_line r None) refl ls)

-- the answer is fixed: 10 goes before 1, 11 and 9
pub plan_decides : (r : Reading) → decided r.due ≡ true → (ls : List InputLine) → answer r ls ≡ answer r []
unfolding decided
plan_decides r e ls = go r.due refl
  where
    go : (d : Option Due) → r.due ≡ d → answer r ls ≡ answer r []
    go (Some Tasks) i = let z : ◌≡◌ {A = ℕ} 0 1 = cc in absurd (omega arith)
    go (Some Version) i = let z : ◌≡◌ {A = ℕ} 0 1 = cc in absurd (omega arith)
    go (Some Call) i = let z : ◌≡◌ {A = ℕ} 0 1 = cc in absurd (omega arith)
    go None i = nothing_refused r i ls ∙ sym (nothing_refused r i [])

pub outside_refused : (r : Reading) (x : InputLine) (ls : List InputLine) → admissible x ≡ false → answer r (x ∷ ls) ≡ refusal_line 10
unfolding answer add_line
outside_refused r x ls e = rw (outside_line r.due x e) (nothing_refused (add_line r None) refl ls)

pub plan_takes : TakesLines answer take_line
unfolding answer take_line
plan_takes r l ls short = refl

pub plan_outside : OutsideFixes answer
plan_outside r x y ls e f = outside_refused r x ls e ∙ sym (outside_refused r y [] f)

-- ---- the calls, and what is kept of them

abbrev Keeps : Calls → List Planned → Type 0
Keeps l cs = KeptIn 64 l.count l.call cs

keeps_none : Keeps no_calls []
unfolding no_calls
keeps_none = record { room = refl; counted = refl; same = refl }

keeps_more : (l : Calls) (cs : List Planned) (c : Planned) → Keeps l cs → Keeps (add_call l c) (cs ++ (c ∷ []))
unfolding add_call
keeps_more l cs c o = go (ltb l.count 64) refl
  where
    go : (b : Bool) → ltb l.count 64 ≡ b
        → Keeps (if b then calls_of (l.count + 1) (set l.call l.count c) else calls_of 65 l.call) (cs ++ (c ∷ []))
    go true e = keeps_one o c (ltb-true _ _ e)
    go false e = keeps_past o c (ltb-false _ _ e)

-- a longer list gives 9, and before it another version 11, whatever its calls are
long_plans : (version : ℕ) (cs ds : List Planned) → 64 < length cs → 64 < length ds → plan version cs ≡ plan version ds
unfolding plan
long_plans version cs ds h k = rw (lt-ltb 64 (length cs) h, lt-ltb 64 (length ds) k)

kept_lines : (t version : ℕ) (l : Calls) (cs : List Planned) → Keeps l cs → plan_lines t version (list_of l) ≡ plan_lines t version cs
unfolding plan_lines list_of
kept_lines t version l cs o = go (kept_as o)
  where
    go : KeptAs 64 l.count l.call cs → plan_lines t version (list_of l) ≡ plan_lines t version cs
    go (past h k) =
        let long : 64 < length (list_of l) = rw (lt-ltb 64 l.count h) (omega arith) in
        rw (long_plans version (list_of l) cs long k)
    go (whole h e) =
        let same : list_of l ≡ cs = rw (le-ltb 64 l.count h) e in
        rw same

-- ---- an input in the middle of it

record Read (r : Reading) (p : PlanInput) : Type 0 where
  due : r.due ≡ p.due
  tasks : r.tasks ≡ p.tasks
  version : r.version ≡ p.version
  calls : Keeps r.calls p.calls

with_line : (r : Reading) (p : PlanInput) → Read r p → (said : Option PlanLine) → Read (add_line r said) (after_line p said)
unfolding add_line after_line
with_line r p o (Some (SaysTasks n)) = record { due = refl; tasks = refl; version = o.version; calls = o.calls }
with_line r p o (Some (SaysVersion n)) = record { due = refl; tasks = o.tasks; version = refl; calls = o.calls }
with_line r p o (Some (SaysCall c)) = record { due = refl; tasks = o.tasks; version = o.version; calls = keeps_more r.calls p.calls c o.calls }
with_line r p o None = record { due = refl; tasks = o.tasks; version = o.version; calls = o.calls }

-- what is printed for these lines, whatever was read before them
answer_left : (ls : List InputLine) (r : Reading) (p : PlanInput) → Read r p → answer r ls ≡ plan_output (after_lines p ls)
unfolding answer plan_output after_lines
answer_left [] r p o =
    let same = kept_lines p.tasks p.version r.calls p.calls o.calls in
    rw (o.due, o.tasks, o.version, same)
answer_left (l ∷ ls) r p o =
    let said = line_says p.due l in
    ap (λ (d : Option Due). answer (add_line r (line_says d l)) ls) o.due ∙ answer_left ls (add_line r said) (after_line p said) (with_line r p o said)

pub lines_print_transcript : (input : List ℕ) → plan_transcript input ≡ answer new_reading (input_lines input)
unfolding new_reading plan_transcript no_input
lines_print_transcript input =
    sym
    (answer_left (input_lines input) new_reading (input_of (Some Tasks) 0 1 []) (record { due = refl; tasks = refl; version = refl; calls = keeps_none }))

-- of an input in memory `text` gives the transcript
pub plan_exact : (input : List ℕ) (p : Input) (text : List ℕ) → Countable input → Prints plan_transcript false input p text → plan_transcript input ≡ text
plan_exact = exact plan_transcript
