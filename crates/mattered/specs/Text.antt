-- What the program `yardmattered` prints for a session: one line, `event=N`, `none` or `refuse=N`. Assumes nothing.
use Rattle.std.specs.Prelude.{ℕ, ◌≡◌, refl, List, [], ◌∷◌}
use Rattle.session.specs.Ascii.{codes, ascii}
use Rattle.session.specs.Keys.{newline}
use Rattle.session.specs.Print.{key_line, refusal_line}
use Rattle.mattered.specs.declared.Verdict.{Verdict}
use Rattle.mattered.specs.declared.Verdict.TheVariants.{Place, NoStep, Refused}
use Rattle.mattered.specs.SessionVerdict.{verdict}

-- `event=`
abbrev pub event_key : List ℕ
event_key = 101 ∷ 118 ∷ 101 ∷ 110 ∷ 116 ∷ 61 ∷ []

-- `none` and byte 10
abbrev pub none_line : List ℕ
none_line = 110 ∷ 111 ∷ 110 ∷ 101 ∷ newline ∷ []

pub words_spelled : event_key ∷ none_line ∷ [] ≡ ascii "event=" ∷ ascii "none\n" ∷ []
unfolding codes ascii
words_spelled = refl

unfoldable pub verdict_line : Verdict → List ℕ
verdict_line (Place p) = key_line event_key p
verdict_line NoStep = none_line
verdict_line (Refused r) = refusal_line r

unfoldable pub mattered_answer : List ℕ → List ℕ
mattered_answer input = verdict_line (verdict input)
