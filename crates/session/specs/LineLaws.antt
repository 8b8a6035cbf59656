-- What a line says that is of no header line's form: `no_header_line`; and one that is too long or not closed: `outside_step`, and
-- `outside_event` where it is an event's turn. Assumes nothing.
use Rattle.std.specs.Prelude.{◌≡◌, false, if◌then◌else◌, None}
use Rattle.session.specs.declared.Header.{Header}
use Rattle.session.specs.declared.HeaderLine.{HeaderLine}
use Rattle.session.specs.declared.HeaderLine.TheVariants.{Tasks, Nodes, Buckets, Version, Blank}
use Rattle.session.specs.declared.HeaderStep.TheVariants.{Absent, Missing}
use Rattle.session.specs.Grammar.{InputLine, admissible, parse_header_line, parse_fixed_line, parse_event_line}
use Rattle.session.specs.Header.{line_number, optional, number_step, other_step, header_step}

-- ---- a line that is of no header line's form, whichever is due

pub no_header_line : (due : HeaderLine) (h : Header) (l : InputLine) → ((d : HeaderLine) → line_number d l ≡ None)
    → header_step due h l ≡ (if optional due then Absent h else Missing)
unfolding header_step number_step other_step optional
no_header_line Tasks h l none_of = rw (none_of Tasks)
no_header_line Nodes h l none_of = rw (none_of Nodes)
no_header_line Buckets h l none_of = rw (none_of Buckets)
no_header_line Version h l none_of = rw (none_of Version, none_of Blank)
no_header_line Blank h l none_of = rw (none_of Blank)

-- ---- a line that is too long or not closed, whatever its bytes are

pub outside_number : (d : HeaderLine) (l : InputLine) → admissible l ≡ false → line_number d l ≡ None
unfolding line_number parse_header_line parse_fixed_line
outside_number Tasks l e = rw e
outside_number Nodes l e = rw e
outside_number Buckets l e = rw e
outside_number Version l e = rw e
outside_number Blank l e = rw e

pub outside_event : (l : InputLine) → admissible l ≡ false → parse_event_line l ≡ None
unfolding parse_event_line
outside_event l e = rw e
