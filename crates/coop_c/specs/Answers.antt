-- What a start or a step of C answers: a number, in which 256 and a refusal's number stand for a refusal (`refusing` of yard_answers), and an output's
-- four words, which a refusal leaves as they were. Assumes nothing.
use Rattle.std.specs.Prelude.{ℕ, List, Ok, Err}
use Rattle.yard_answers.specs.Answers.{refusing}
use Rattle.coop_spec.specs.Outputs.{Output}
use Rattle.coop_spec.specs.declared.Progress.TheVariants.{At, End}
use Rattle.coop_spec.specs.Numbers.{output_words, refusal_number}

unfoldable pub out_number : Output → ℕ
out_number (Ok (At line)) = 0
out_number (Ok (End a own)) = 0
out_number (Err r) = refusing (refusal_number r)

unfoldable pub out_left : Output → List ℕ → List ℕ
out_left (Ok (At line)) out = output_words (Ok (At line))
out_left (Ok (End a own)) out = output_words (Ok (End a own))
out_left (Err r) out = out
