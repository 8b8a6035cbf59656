-- What the program `yardplan` prints for a whole input: a line `tasks=T`, then `version=N` or no such line, then any number of lines
-- `call=insert,TAG` (also remove and contains), `call=grow` and `call=shrink`; lines and numbers are as in a session. It prints `nodes=` and
-- `buckets=`, the numbers of records that are enough for T tasks, as a session's header has them, and for each call
-- `plan=answer,own steps,buckets taken`; or `refuse=` alone, with 10 for a line outside the grammar, anywhere in the input, else 1 for T, else
-- 11 for the version, else 9 for more than 64 calls. Assumes nothing.
use Rattle.std.specs.Prelude.{ℕ, ◌≡◌, refl, List, [], ◌∷◌, ◌++◌, Bool, true, false, not, drop, if◌then◌else◌, Option, Some, None}
use Rattle.spec.specs.Sound.{within}
use Rattle.session.specs.declared.EventLine.{EventLine}
use Rattle.session.specs.declared.EventLine.TheVariants.{Start, Step}
use Rattle.session.specs.Ascii.{codes, ascii}
use Rattle.session.specs.Keys.{newline, comma, tasks_key, nodes_key, buckets_key, version_key}
use Rattle.session.specs.Grammar.{starts_with, parse_call, InputLine, input_lines, admissible, parse_header_line}
use Rattle.session.specs.Print.{decimal, answer_word, key_line, refusal_line}
use Rattle.bounds.specs.EnoughRecords.{enough_nodes, enough_buckets}
use Rattle.plans.specs.declared.Planned.{Planned}
use Rattle.plans.specs.declared.Figures.{Figures}
use Rattle.plans.specs.Plan.{call_of, PlanReply, planned, refused, plan}
use Rattle.plan_text.specs.declared.Due.{Due}
use Rattle.plan_text.specs.declared.Due.TheVariants.{Tasks, Version, Call}
use Rattle.plan_text.specs.declared.PlanLine.{PlanLine}
use Rattle.plan_text.specs.declared.PlanLine.TheVariants.{Tasks as SaysTasks, Version as SaysVersion, Call as SaysCall}

-- `call=`
abbrev pub call_key : List ℕ
call_key = 99 ∷ 97 ∷ 108 ∷ 108 ∷ 61 ∷ []

-- `plan=`
abbrev pub plan_key : List ℕ
plan_key = 112 ∷ 108 ∷ 97 ∷ 110 ∷ 61 ∷ []

pub spelled : call_key ∷ plan_key ∷ [] ≡ ascii "call=" ∷ ascii "plan=" ∷ []
unfolding codes ascii
spelled = refl

-- ---- a line that is read

unfoldable pub tasks_said : Option ℕ → Option PlanLine
tasks_said (Some n) = Some (SaysTasks n)
tasks_said None = None

unfoldable pub version_said : Option ℕ → Option PlanLine → Option PlanLine
version_said (Some n) otherwise = Some (SaysVersion n)
version_said None otherwise = otherwise

unfoldable pub call_said : Option EventLine → Option PlanLine
call_said (Some (Start k call tag)) = Some (SaysCall (call_of call tag))
call_said (Some (Step k)) = None
call_said None = None

-- what stands after `call=` is of the form of what stands after a session's `start=task,`
unfoldable pub parse_call_line : InputLine → Option PlanLine
parse_call_line l =
    if admissible l then (if starts_with call_key l.bytes then call_said (parse_call 0 (drop 5 l.bytes)) else None) else None

-- what a line says where this one is due; the version's may be left out
unfoldable pub line_says : Option Due → InputLine → Option PlanLine
line_says (Some Tasks) l = tasks_said (parse_header_line tasks_key l)
line_says (Some Version) l = version_said (parse_header_line version_key l) (parse_call_line l)
line_says (Some Call) l = parse_call_line l
line_says None l = None

-- ---- the lines of an input

pub record PlanInput : Type 0 where
  -- which line is due; none after a line outside the grammar
  pub due : Option Due
  pub tasks : ℕ
  pub version : ℕ
  pub calls : List Planned

abbrev pub input_of : Option Due → ℕ → ℕ → List Planned → PlanInput
input_of due t version cs = record { due = due; tasks = t; version = version; calls = cs }

-- as in a session, an input without the version's line is of version 1
unfoldable pub no_input : PlanInput
no_input = input_of (Some Tasks) 0 1 []

unfoldable pub after_line : PlanInput → Option PlanLine → PlanInput
after_line p (Some (SaysTasks n)) = input_of (Some Version) n p.version p.calls
after_line p (Some (SaysVersion n)) = input_of (Some Call) p.tasks n p.calls
after_line p (Some (SaysCall c)) = input_of (Some Call) p.tasks p.version (p.calls ++ (c ∷ []))
after_line p None = input_of None p.tasks p.version p.calls

unfoldable pub after_lines : PlanInput → List InputLine → PlanInput
after_lines p [] = p
after_lines p (l ∷ ls) = after_lines (after_line p (line_says p.due l)) ls

-- ---- what is printed

unfoldable pub figures_line : Figures → List ℕ
figures_line f = plan_key ++ answer_word f.answer ++ ((comma ∷ []) ++ decimal f.own ++ (comma ∷ [])) ++ (decimal f.buckets ++ (newline ∷ []))

unfoldable pub figures_lines : List Figures → List ℕ
figures_lines [] = []
figures_lines (f ∷ fs) = figures_line f ++ figures_lines fs

unfoldable pub size_lines : ℕ → List ℕ
size_lines t = key_line nodes_key (enough_nodes t) ++ key_line buckets_key (enough_buckets t)

unfoldable pub reply_lines : ℕ → PlanReply → List ℕ
reply_lines t (planned fs) = size_lines t ++ figures_lines fs
reply_lines t (refused r) = refusal_line r

-- "Tasks T: 1 to 8"
unfoldable pub plan_lines : ℕ → ℕ → List Planned → List ℕ
plan_lines t version cs = if not (within 1 8 t) then refusal_line 1 else reply_lines t (plan version cs)

-- an input has the tasks' line, and none outside the grammar
unfoldable pub in_grammar : Option Due → Bool
in_grammar (Some Tasks) = false
in_grammar (Some Version) = true
in_grammar (Some Call) = true
in_grammar None = false

unfoldable pub plan_output : PlanInput → List ℕ
plan_output p = if in_grammar p.due then plan_lines p.tasks p.version p.calls else refusal_line 10

unfoldable pub plan_transcript : List ℕ → List ℕ
plan_transcript input = plan_output (after_lines no_input (input_lines input))
