-- The header of a session, a line at a time: "First `tasks=`, `nodes=`, `buckets=`, in that order". Paper 02, U3: "`version=` becomes
-- the fourth header line; a session without it is version 1"; U9: "the header line `blank=no` after the version, or after the buckets where
-- no version stands; those without it run under the old rule". Assumes nothing.
use Rattle.std.specs.Prelude.{ℕ, List, [], ◌∷◌, Bool, true, false, if◌then◌else◌, Option, Some, None}
use Rattle.spec.specs.declared.Config.{Config}
use Rattle.spec.specs.Machine.{config_of, with_version, with_zero_withdrawn, zero_config}
use Rattle.session.specs.declared.Header.{Header}
use Rattle.session.specs.declared.HeaderLine.{HeaderLine}
use Rattle.session.specs.declared.HeaderLine.TheVariants.{Tasks, Nodes, Buckets, Version, Blank}
use Rattle.session.specs.declared.HeaderStep.{HeaderStep}
use Rattle.session.specs.declared.HeaderStep.TheVariants.{Next, Complete, Absent, Missing}
use Rattle.session.specs.Keys.{tasks_key, nodes_key, buckets_key, version_key, blank_line}
use Rattle.session.specs.Grammar.{InputLine, parse_header_line, parse_fixed_line}

abbrev pub header : Config → ℕ → ℕ → Header
header g h b = record { config = g; nodes = h; buckets = b }

-- no line is read yet
unfoldable pub empty_header : Header
empty_header = header zero_config 0 0

-- ---- a line, where a header line is due

-- the number of a line that is of the form of this header line; `blank=no` has none, and counts as 0
unfoldable pub line_number : HeaderLine → InputLine → Option ℕ
line_number Tasks l = parse_header_line tasks_key l
line_number Nodes l = parse_header_line nodes_key l
line_number Buckets l = parse_header_line buckets_key l
line_number Version l = parse_header_line version_key l
line_number Blank l = parse_fixed_line blank_line l

-- what the number is, and which line is due then
unfoldable pub with_number : HeaderLine → Header → ℕ → HeaderStep
with_number Tasks h n = Next Nodes (header (config_of n) h.nodes h.buckets)
with_number Nodes h n = Next Buckets (header h.config n h.buckets)
with_number Buckets h n = Next Version (header h.config h.nodes n)
with_number Version h n = Next Blank (header (with_version n h.config) h.nodes h.buckets)
with_number Blank h n = Complete (header (with_zero_withdrawn true h.config) h.nodes h.buckets)

-- "a session without it is version 1", "those without it run under the old rule"
unfoldable pub optional : HeaderLine → Bool
optional Tasks = false
optional Nodes = false
optional Buckets = false
optional Version = true
optional Blank = true

-- what a line says if it is of the form of this header line, and if it is not
unfoldable pub number_step : HeaderLine → Header → Option ℕ → HeaderStep → HeaderStep
number_step due h (Some n) otherwise = with_number due h n
number_step due h None otherwise = otherwise

-- what a line says that is not of the form of the line due: where that may be left out it is the next one, "after the version, or after the
-- buckets where no version stands", and after the last it is no header line
unfoldable pub other_step : HeaderLine → Header → InputLine → HeaderStep
other_step Tasks h l = Missing
other_step Nodes h l = Missing
other_step Buckets h l = Missing
other_step Version h l = number_step Blank h (line_number Blank l) (Absent h)
other_step Blank h l = Absent h

unfoldable pub header_step : HeaderLine → Header → InputLine → HeaderStep
header_step due h l = number_step due h (line_number due l) (other_step due h l)

-- ---- the lines of an input

-- the header, and the lines after it; or "Input without three full header lines"
pub data HeaderRead : Type 0 where
  complete : Header → List InputLine → HeaderRead
  incomplete : HeaderRead

-- after line l, with the lines ls behind it: "a line not of a header line's form, as `version=x`, is judged only after the opening"
unfoldable pub after_step : HeaderStep → (HeaderLine → Header → HeaderRead) → InputLine → List InputLine → HeaderRead
after_step (Next due h) read l ls = read due h
after_step (Complete h) read l ls = complete h ls
after_step (Absent h) read l ls = complete h (l ∷ ls)
after_step Missing read l ls = incomplete

-- what the lines say where a header line is due; where they end there, the header is complete if that line may be left out
unfoldable pub read_from : List InputLine → HeaderLine → Header → HeaderRead
read_from [] due h = if optional due then complete h [] else incomplete
read_from (l ∷ ls) due h = after_step (header_step due h l) (λ due' h'. read_from ls due' h') l ls

unfoldable pub read_header : List InputLine → HeaderRead
read_header ls = read_from ls Tasks empty_header
