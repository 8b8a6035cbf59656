-- Refusal 8, as far as it does not depend on the entry called: paper 01's sentence on spoilt memory in its meaning here, "8, also for a
-- version's first word over 65 or of an operation never invoked". Each condition has a name. Assumes nothing.
use Rattle.std.specs.Prelude.{ℕ, zero, suc, ◌*◌, ◌-◌, List, [], ◌∷◌, ◌++◌, Bool, true, not, ◌&&◌, ◌||◌, ltb, leb, eqb, length, get_or, drop, if◌then◌else◌}
use Rattle.spec.specs.Lists.{member, every}
use Rattle.spec.specs.Words.{number, filled}
use Rattle.spec.specs.Sound.{within, count_in_bounds, tags_ascend, zeros_after_tags}
use Rattle.coop_spec.specs.declared.Operation.{Operation}
use Rattle.coop_spec.specs.declared.Task.{Task}
use Rattle.coop_spec.specs.Machine.{Machine, operation_of}

-- the number of versions
abbrev pub version_count : Machine → ℕ
version_count y = y.state.versions

-- ---- T, the number of versions, the slice's length, the bucket's version and the one last taken

unfoldable pub sound_numbers : Machine → Bool
sound_numbers y =
    within 1 8 y.state.tasks
    && within 1 1024 (version_count y)
    && eqb (length y.versions) (66 * version_count y)
    && ltb y.state.node (version_count y)
    && ltb y.state.last (version_count y)

-- ---- operations

-- operation n was invoked
unfoldable pub was_invoked : Machine → ℕ → Bool
was_invoked y n = ltb n 64 && not (eqb (operation_of y n).kind 0)

-- an operation never invoked is zeros
abbrev pub zero_operation : Operation → Bool
zero_operation op = eqb op.tag 0 && not op.resp && not op.done && not op.returned

-- its kind is known; zeros if never invoked; an invoke of it ended with yes only if it is done
unfoldable pub sound_operation : Operation → Bool
sound_operation op =
    leb op.kind 2
    && (not (eqb op.kind 0) || zero_operation op)
    && (not op.returned || op.done)

-- ---- a version, given by the pool from its first word on

-- "a version's first word over 65 or of an operation never invoked"
unfoldable pub sound_op_word : Machine → ℕ → Bool
sound_op_word y m = leb m 65 && (leb m 1 || was_invoked y (m - 2))

-- its count, its tags and the words after them as a bucket's: "its count over 64, its tags not strictly ascending or a word after them
-- not 0"
unfoldable pub sound_tags : List ℕ → Bool
sound_tags w = count_in_bounds w && tags_ascend w && zeros_after_tags w

unfoldable pub sound_version : Machine → List ℕ → Bool
sound_version y w = sound_op_word y (get_or w 0 0) && sound_tags w

-- the first k versions of the words w
unfoldable pub sound_versions : Machine → ℕ → List ℕ → Bool
sound_versions y zero w = true
sound_versions y (suc k) w = sound_version y w && sound_versions y k (drop 66 w)

-- ---- tasks

-- the lines of INVOKE, HASMEMBER, DOFREEZE and HELPFINISH; FREEZE and GETRESPONSE have one each
unfoldable pub invoke_lines : List ℕ
invoke_lines = 95 ∷ 96 ∷ 99 ∷ 100 ∷ 101 ∷ 102 ∷ 107 ∷ []

unfoldable pub member_lines : List ℕ
member_lines = 112 ∷ 113 ∷ []

unfoldable pub freeze_lines : List ℕ
freeze_lines = 120 ∷ 121 ∷ 122 ∷ 123 ∷ 127 ∷ []

unfoldable pub help_lines : List ℕ
help_lines = 129 ∷ 130 ∷ 138 ∷ 139 ∷ 140 ∷ []

-- the lines of a call, by its number; none for another number
unfoldable pub lines_of : ℕ → List ℕ
lines_of call =
    let helping : List ℕ = freeze_lines ++ help_lines in
    let invoke : List ℕ = invoke_lines ++ helping in
    get_or ([] ∷ invoke ∷ invoke ∷ (109 ∷ helping) ∷ member_lines ∷ (117 ∷ []) ∷ []) call []

abbrev pub invokes : ℕ → Bool
invokes call = eqb call 1 || eqb call 2

-- "a task from T on runs"
abbrev pub task_below_T : Machine → ℕ → Bool
task_below_T y k = ltb k y.state.tasks

-- "a running task's line is not one of its call's"
abbrev pub line_of_call : Task → Bool
line_of_call c = member c.line (lines_of c.call)

-- HELPFINISH returns to one of its callers, where it runs
unfoldable pub back_of_line : Task → Bool
back_of_line c =
    if member c.line help_lines
    then (eqb c.back 126 || (invokes c.call && (eqb c.back 103 || eqb c.back 106)))
    else eqb c.back 0

-- an invoke's operation is of its kind; an invoke of a get response's has ended with yes; no other call has one
unfoldable pub operation_of_call : Machine → Task → Bool
operation_of_call y c =
    let op = operation_of y c.op in
    ltb c.op 64
    && (if invokes c.call then eqb op.kind c.call else if eqb c.call 5 then op.returned else eqb c.op 0)

-- only a member test has a tag
abbrev pub tag_of_call : Task → Bool
tag_of_call c = eqb c.call 4 || eqb c.tag 0

-- "a record number is past its pool"
abbrev pub o_in_pool : Machine → Task → Bool
o_in_pool y c = leb c.o (version_count y)

abbrev pub helped_invoked : Machine → Task → Bool
helped_invoked y c = not (filled c.helped) || was_invoked y (number c.helped)

unfoldable pub sound_running : Machine → ℕ → Task → Bool
sound_running y k c =
    task_below_T y k
    && line_of_call c
    && back_of_line c
    && operation_of_call y c
    && tag_of_call c
    && o_in_pool y c
    && helped_invoked y c

-- "an idle task's record is not zeros and empty places"
unfoldable pub zero_task : Task → Bool
zero_task c = every (λ x. eqb x 0) (c.call ∷ c.op ∷ c.tag ∷ c.line ∷ c.back ∷ c.own ∷ c.o ∷ c.helped ∷ [])

unfoldable pub sound_task : Machine → ℕ → Task → Bool
sound_task y k c = if c.running then sound_running y k c else zero_task c

-- the tasks from number k on
unfoldable pub sound_tasks : Machine → ℕ → List Task → Bool
sound_tasks y k [] = true
sound_tasks y k (c ∷ cs) = sound_task y k c && sound_tasks y (suc k) cs

-- ---- the whole

unfoldable pub sound : Machine → Bool
sound y =
    sound_numbers y
    && every sound_operation y.state.operation
    && sound_versions y (version_count y) y.versions
    && sound_tasks y 0 y.state.task
