-- What a call for C answers: a number, in which 256 and a refusal's number stand for a refusal, and words, which a refusal leaves as they were.
-- Assumes nothing.
use Rattle.std.specs.Prelude.{ℕ, ◌+◌, List, ◌∷◌, eqb, if◌then◌else◌, Ok, Err}
use Rattle.spec.specs.Outputs.{Output}
use Rattle.spec.specs.declared.Progress.TheVariants.{At, End}
use Rattle.spec.specs.Numbers.{output_words, refusal_number}
use Rattle.turns.specs.declared.Turn.{Turn}
use Rattle.turns.specs.declared.Turn.TheVariants.{Idle, Of, Refused}

abbrev pub refusing : ℕ → ℕ
refusing r = 256 + r

-- ---- an opening: 0, or its refusal

unfoldable pub open_number : ℕ → ℕ
open_number r = if eqb r 0 then 0 else refusing r

-- ---- a start or a step: 0 and the output's four words, or a refusal

unfoldable pub out_number : Output → ℕ
out_number (Ok (At line)) = 0
out_number (Ok (End a own full)) = 0
out_number (Err r) = refusing (refusal_number r)

unfoldable pub out_left : Output → List ℕ → List ℕ
out_left (Ok (At line)) out = output_words (Ok (At line))
out_left (Ok (End a own full)) out = output_words (Ok (End a own full))
out_left (Err r) out = out

-- ---- a turn: 0 if nothing runs; 1 and five words, the task's number and its step's output, be it a refusal; or a refusal that names no task

unfoldable pub turn_number : Turn → ℕ
turn_number Idle = 0
turn_number (Of k o) = 1
turn_number (Refused r) = refusing (refusal_number r)

unfoldable pub turn_left : Turn → List ℕ → List ℕ
turn_left Idle out = out
turn_left (Of k o) out = k ∷ output_words o
turn_left (Refused r) out = out
