-- What rests on statements of specs/LineLaws.antt that a must-fail edit makes false: theorems moved from there as they stood. Assumes nothing.
use Rattle.std.specs.Prelude.{◌≡◌, false, if◌then◌else◌}
use Rattle.session.specs.declared.Header.{Header}
use Rattle.session.specs.declared.HeaderLine.{HeaderLine}
use Rattle.session.specs.declared.HeaderStep.TheVariants.{Absent, Missing}
use Rattle.session.specs.Grammar.{InputLine, admissible}
use Rattle.session.specs.Header.{optional, header_step}
use Rattle.session.specs.LineLaws.{no_header_line, outside_number}

pub outside_step : (due : HeaderLine) (h : Header) (l : InputLine) → admissible l ≡ false → header_step due h l ≡ (if optional due then Absent h else Missing)
outside_step due h l e = no_header_line due h l (λ d. outside_number d l e)
