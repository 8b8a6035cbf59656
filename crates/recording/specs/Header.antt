-- The header of a session's input or of a recording: its lines, what they say, and the lines after them: `take_header`. Each is
-- judged as in a session, by session's `header_step`; `as_session` (HeaderLaws) has that this is the header that a session reads. A session
-- gives 10 where a header line is missing, a reader 12. Assumes nothing.
use Rattle.std.specs.Prelude.{ℕ, List, [], ◌∷◌, if◌then◌else◌}
use Rattle.session.specs.declared.Header.{Header}
use Rattle.session.specs.declared.HeaderLine.{HeaderLine}
use Rattle.session.specs.declared.HeaderLine.TheVariants.{Tasks}
use Rattle.session.specs.declared.HeaderStep.{HeaderStep}
use Rattle.session.specs.declared.HeaderStep.TheVariants.{Next, Complete, Absent, Missing}
use Rattle.session.specs.Grammar.{InputLine}
use Rattle.session.specs.Header.{empty_header, optional, header_step}

-- the header's lines, what they say, and the lines after them; or a refusal
pub data HeaderTaken : Type 0 where
  taken : List InputLine → Header → List InputLine → HeaderTaken
  not_taken : ℕ → HeaderTaken

-- line l is one of them, before the others
unfoldable pub with_line : InputLine → HeaderTaken → HeaderTaken
with_line l (taken own h rest) = taken (l ∷ own) h rest
with_line l (not_taken r) = not_taken r

-- line l, with the lines ls behind it
unfoldable pub after_step : HeaderStep → (HeaderLine → Header → HeaderTaken) → InputLine → List InputLine → HeaderTaken
after_step (Next due h) later l ls = with_line l (later due h)
after_step (Complete h) later l ls = taken (l ∷ []) h ls
after_step (Absent h) later l ls = taken [] h (l ∷ ls)
after_step Missing later l ls = not_taken 10

-- where a header line is due: "12, a line missing where the pattern needs one, a header line too"
unfoldable pub take_from : List InputLine → HeaderLine → Header → HeaderTaken
take_from [] due h = if optional due then taken [] h [] else not_taken 12
take_from (l ∷ ls) due h = after_step (header_step due h l) (λ due' h'. take_from ls due' h') l ls

unfoldable pub take_header : List InputLine → HeaderTaken
take_header ls = take_from ls Tasks empty_header
