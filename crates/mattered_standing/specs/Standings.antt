-- Where a session stands between two lines, and after a line by whether it is of the form of an event's: the definitions that the code is held
-- to. Assumes nothing.
use Rattle.std.specs.Prelude.{ℕ, ◌+◌, min, Bool, true, false, if◌then◌else◌}
use Rattle.session.specs.declared.Header.{Header}
use Rattle.session.specs.declared.HeaderLine.TheVariants.{Tasks}
use Rattle.session.specs.declared.HeaderStep.{HeaderStep}
use Rattle.session.specs.declared.HeaderStep.TheVariants.{Next, Complete, Absent, Missing}
use Rattle.session.specs.Header.{empty_header}
use Rattle.session_state.specs.declared.Phase.{Phase}
use Rattle.session_state.specs.declared.Phase.TheVariants.{Due, Events, Stopped}
use Rattle.mattered_standing.specs.declared.Standing.{Standing}

abbrev pub standing : Phase → Header → Bool → ℕ → Standing
standing phase h outside n = record { phase = phase; header = h; outside = outside; count = n }

-- no line is read yet
unfoldable pub new_standing : Standing
new_standing = standing (Due Tasks) empty_header false 0

-- after the header: an event more, of which past 256 the number stays at 257; or a line outside the grammar
unfoldable pub after_event : Bool → Header → Bool → ℕ → Standing
after_event event h outside n = if event then standing Events h outside (min 257 (n + 1)) else standing Events h true n

-- by what a line says where a header line is due, after the header lines h. A line "not of a header line's form" is an event's
unfoldable pub after_header : HeaderStep → Header → Bool → Standing
after_header (Next due h') h event = standing (Due due) h' false 0
after_header (Complete h') h event = standing Events h' false 0
after_header (Absent h') h event = after_event event h' false 0
after_header Missing h event = standing Stopped h false 0
