-- An input, line by line: the definitions that the code is held to. That they print the transcript is shown in Lines. Assumes nothing.
use Rattle.std.specs.Prelude.{ℕ, ◌+◌, List, [], ◌∷◌, Bool, true, false, ltb, set, replicate, if◌then◌else◌, Option, Some, None}
use Rattle.spec.specs.declared.Call.TheVariants.{Contains}
use Rattle.session.specs.Grammar.{InputLine, closed_line}
use Rattle.session.specs.Print.{refusal_line}
use Rattle.plans.specs.declared.Planned.{Planned}
use Rattle.plans.specs.declared.Calls.{Calls}
use Rattle.plans.specs.Plan.{call_of, list_of}
use Rattle.plan_text.specs.declared.Due.{Due}
use Rattle.plan_text.specs.declared.Due.TheVariants.{Tasks, Version, Call}
use Rattle.plan_text.specs.declared.PlanLine.{PlanLine}
use Rattle.plan_text.specs.declared.PlanLine.TheVariants.{Tasks as SaysTasks, Version as SaysVersion, Call as SaysCall}
use Rattle.plan_text.specs.declared.reading.Reading.{Reading}
use Rattle.plan_text.specs.Text.{line_says, plan_lines, in_grammar}

abbrev pub calls_of : ℕ → List Planned → Calls
calls_of n cs = record { count = n; call = cs }

-- a list with a call more; of a list of more than 64 only that it is longer is kept
unfoldable pub add_call : Calls → Planned → Calls
add_call l c = if ltb l.count 64 then calls_of (l.count + 1) (set l.call l.count c) else calls_of 65 l.call

abbrev pub reading : Option Due → ℕ → ℕ → Calls → Reading
reading due t version l = record { due = due; tasks = t; version = version; calls = l }

unfoldable pub no_calls : Calls
no_calls = calls_of 0 (replicate 64 (call_of Contains 0))

unfoldable pub new_reading : Reading
new_reading = reading (Some Tasks) 0 1 no_calls

-- what a line says
unfoldable pub add_line : Reading → Option PlanLine → Reading
add_line r (Some (SaysTasks n)) = reading (Some Version) n r.version r.calls
add_line r (Some (SaysVersion n)) = reading (Some Call) r.tasks n r.calls
add_line r (Some (SaysCall c)) = reading (Some Call) r.tasks r.version (add_call r.calls c)
add_line r None = reading None r.tasks r.version r.calls

-- the bytes of a closed line
unfoldable pub take_line : Reading → List ℕ → Reading
take_line r l = add_line r (line_says r.due (closed_line l))

-- what is printed if these lines follow
unfoldable pub answer : Reading → List InputLine → List ℕ
answer r [] = if in_grammar r.due then plan_lines r.tasks r.version (list_of r.calls) else refusal_line 10
answer r (l ∷ ls) = answer (add_line r (line_says r.due l)) ls

-- the answer is fixed: a line was outside the grammar
unfoldable pub decided : Option Due → Bool
decided (Some Tasks) = false
decided (Some Version) = false
decided (Some Call) = false
decided None = true
