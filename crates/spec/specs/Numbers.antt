-- The numbers that stand for the values of each enum: in a task's record, and where answers are written as words.
-- Assumes nothing.
use Rattle.std.specs.Prelude.{ℕ, List, [], ◌∷◌, eqb, if◌then◌else◌, Option, Some, None, Ok, Err}
use Rattle.spec.specs.declared.Call.{Call}
use Rattle.spec.specs.declared.Call.TheVariants.{Insert, Remove, Contains, Grow, Shrink}
use Rattle.spec.specs.declared.Answer.{Answer}
use Rattle.spec.specs.declared.Answer.TheVariants.{Yes, No, Full, Done, Lost, Limit}
use Rattle.spec.specs.Outputs.{Output}
use Rattle.spec.specs.declared.Progress.TheVariants.{At, End}
use Rattle.spec.specs.declared.Refusal.{Refusal}
use Rattle.spec.specs.declared.Refusal.TheVariants.{BadTasks, BadNodes, BadBuckets, NoTask, Running, Idle, NoRecord, Spoilt, ShortList, BadVersion, Withdrawn}

-- the call that a task's record keeps; 0 is none
abbrev pub call_number : Call → ℕ
call_number Insert = 1
call_number Remove = 2
call_number Contains = 3
call_number Grow = 4
call_number Shrink = 5

-- the six answers, in the order in which paper 01 names them
abbrev pub answer_number : Answer → ℕ
answer_number Yes = 1
answer_number No = 2
answer_number Full = 3
answer_number Done = 4
answer_number Lost = 5
answer_number Limit = 6

-- the number of tags of an ended call's bucket, 0 where none is given
abbrev pub occupancy_number : Option ℕ → ℕ
occupancy_number None = 0
occupancy_number (Some n) = n

-- the number of a refusal in the papers
abbrev pub refusal_number : Refusal → ℕ
refusal_number BadTasks = 1
refusal_number BadNodes = 2
refusal_number BadBuckets = 3
refusal_number NoTask = 4
refusal_number Running = 5
refusal_number Idle = 6
refusal_number NoRecord = 7
refusal_number Spoilt = 8
refusal_number ShortList = 9
refusal_number BadVersion = 11
refusal_number Withdrawn = 14

-- the refusal of a number
unfoldable pub refusal_numbered : ℕ → Refusal
refusal_numbered n =
    if eqb n 1 then BadTasks else if eqb n 2 then BadNodes else if eqb n 3 then BadBuckets else if eqb n 4 then NoTask else if eqb n 5 then Running
    else if eqb n 6 then Idle else if eqb n 7 then NoRecord else if eqb n 8 then Spoilt else if eqb n 9 then ShortList else if eqb n 11 then BadVersion
    else Withdrawn

-- the number of what an opening answers: its refusal's, 0 if it accepts
abbrev pub opening_number : Option Refusal → ℕ
opening_number None = 0
opening_number (Some r) = refusal_number r

-- an output as four words: 0 and the line; 1, the answer's number, the own steps and the number of tags; 2 and the refusal's number
-- of paper 01
abbrev pub output_words : Output → List ℕ
output_words (Ok (At line)) = 0 ∷ line ∷ 0 ∷ 0 ∷ []
output_words (Ok (End a own full)) = 1 ∷ answer_number a ∷ own ∷ occupancy_number full ∷ []
output_words (Err r) = 2 ∷ refusal_number r ∷ 0 ∷ 0 ∷ []
