-- The numbers that stand for the values of each enum: in a task's record, and where answers are written as words. Assumes nothing.
use Rattle.std.specs.Prelude.{ℕ, List, [], ◌∷◌, Option, Some, None, Ok, Err}
use Rattle.coop_spec.specs.declared.Call.{Call}
use Rattle.coop_spec.specs.declared.Call.TheVariants.{InvokeInsert, InvokeRemove, Freeze, HasMember, GetResponse}
use Rattle.coop_spec.specs.declared.Answer.{Answer}
use Rattle.coop_spec.specs.declared.Answer.TheVariants.{Yes, No, Version}
use Rattle.coop_spec.specs.Outputs.{Output}
use Rattle.coop_spec.specs.declared.Progress.TheVariants.{At, End}
use Rattle.coop_spec.specs.declared.Refusal.{Refusal}
use Rattle.coop_spec.specs.declared.Refusal.TheVariants.{BadTasks, BadVersions, NoTask, NotStarted, Idle, NoVersion, Spoilt}

-- the call that a task's record keeps, in the order in which the paper names them; 0 is none. The first two are the kinds of operations.
abbrev pub call_number : Call → ℕ
call_number InvokeInsert = 1
call_number InvokeRemove = 2
call_number Freeze = 3
call_number HasMember = 4
call_number GetResponse = 5

-- the three answers
abbrev pub answer_number : Answer → ℕ
answer_number Yes = 1
answer_number No = 2
answer_number (Version v) = 3

-- the version that a freeze answers, 0 with another answer
abbrev pub answer_version : Answer → ℕ
answer_version Yes = 0
answer_version No = 0
answer_version (Version v) = v

-- the number of a refusal in the papers
abbrev pub refusal_number : Refusal → ℕ
refusal_number BadTasks = 1
refusal_number BadVersions = 3
refusal_number NoTask = 4
refusal_number NotStarted = 5
refusal_number Idle = 6
refusal_number NoVersion = 7
refusal_number Spoilt = 8

-- the number of what an opening answers: its refusal's, 0 if it accepts
abbrev pub opening_number : Option Refusal → ℕ
opening_number None = 0
opening_number (Some r) = refusal_number r

-- an output as four words: 0 and the line; 1, the answer's number, the own steps and the version; 2 and the refusal's number
abbrev pub output_words : Output → List ℕ
output_words (Ok (At line)) = 0 ∷ line ∷ 0 ∷ 0 ∷ []
output_words (Ok (End a own)) = 1 ∷ answer_number a ∷ own ∷ answer_version a ∷ []
output_words (Err r) = 2 ∷ refusal_number r ∷ 0 ∷ 0 ∷ []
