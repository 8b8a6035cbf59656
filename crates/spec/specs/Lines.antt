-- "One step, one line": what each line of Figure 2 does, a definition for each number in the figure's order; 52 is the second
-- freeze of line 48. y is the machine, c the record of the task that steps. Assumes nothing.
use Rattle.std.specs.Prelude.{ℕ, ◌+◌, ◌*◌, ◌%◌, ◌/◌, List, [], ◌∷◌, Bool, not, ◌||◌, ltb, eqb, length, if◌then◌else◌}
use Rattle.spec.specs.declared.Task.{Task}
use Rattle.spec.specs.declared.Answer.{Answer}
use Rattle.spec.specs.declared.Answer.TheVariants.{Yes, No, Full, Done, Lost, Limit}
use Rattle.spec.specs.Lists.{member, filter, union, add_tag, remove_tag}
use Rattle.spec.specs.Machine.{Machine, with_line, with_i, with_t, with_s, with_b, with_m, with_n, with_new_node, with_new_bucket, without_places}
use Rattle.spec.specs.Words.{number, filled, changeable, Write, nothing, set_head, set_place, clear_pred, freeze, put_tags, new_node, new_bucket}
use Rattle.spec.specs.Sound.{resizes}
use Rattle.spec.specs.Plain.{insert_answer, found_answer}
use Rattle.spec.specs.Held.{free_node, free_bucket}
use Rattle.spec.specs.Listed.{slot, size_of, pred_of, place_of, place_for, tags_of, head_of, listed}

-- ---- what a line does: the task goes on with a record, or its call ends, handing on how full a bucket is (its link, 0 for none);
-- and at most one write to shared memory

pub data Next : Type 0 where
  on : Task → Next
  ends : Answer → ℕ → Next

pub record Effect : Type 0 where
  pub next : Next
  pub write : Write

abbrev pub moves : Task → Effect
moves c = record { next = on c; write = nothing }

abbrev pub writes : Write → Task → Effect
writes w c = record { next = on c; write = w }

abbrev pub answers : Answer → Effect
answers a = record { next = ends a 0; write = nothing }

abbrev pub answers_writing : Write → Answer → Effect
answers_writing w a = record { next = ends a 0; write = w }

-- of an insert or a remove with this bucket
abbrev pub answers_of : ℕ → Write → Answer → Effect
answers_of b w a = record { next = ends a b; write = w }

-- ---- contains

-- "12 t is head, to 13."
unfoldable pub line_12 : Machine → Task → Effect
line_12 y c = moves (with_line 13 (with_t (head_of y) c))

-- "13 b is t's place for the tag; filled to 18, empty to 15."
unfoldable pub line_13 : Machine → Task → Effect
line_13 y c = let b = place_for y c.t c.tag in moves (with_line (if filled b then 18 else 15) (with_b b c))

-- "15 s is t's predecessor; none to 17, else 16."
unfoldable pub line_15 : Machine → Task → Effect
line_15 y c = let s = pred_of y c.t in moves (with_line (if filled s then 16 else 17) (with_s s c))

-- "16 b is s's place for the tag. 17 b is t's place, read again. Both go to 18, which ends with yes or no."
unfoldable pub line_16 : Machine → Task → Effect
line_16 y c = moves (with_line 18 (with_b (place_for y c.s c.tag) c))

unfoldable pub line_17 : Machine → Task → Effect
line_17 y c = moves (with_line 18 (with_b (place_for y c.t c.tag) c))

unfoldable pub line_18 : Machine → Task → Effect
line_18 y c = answers (found_answer (member c.tag (tags_of y c.b)))

-- ---- grow, shrink

-- "growing at 32 or shrinking at 1"
unfoldable pub at_limit : ℕ → ℕ → Bool
at_limit call sz = if eqb call 4 then eqb sz 32 else eqb sz 1

-- "twice or half the size"
unfoldable pub resized : ℕ → ℕ → ℕ
resized call sz = if eqb call 4 then 2 * sz else sz / 2

-- "20 t is head; ends limit if growing at 32 or shrinking at 1; else i is 0, to 39."
unfoldable pub line_20 : Machine → Task → Effect
line_20 y c =
    if at_limit c.call (size_of y (head_of y)) then answers Limit
    else moves (with_line 39 (with_i 0 (with_t (head_of y) c)))

-- "After the last 51: 24 t's predecessor becomes none."
unfoldable pub line_24 : Machine → Task → Effect
line_24 y c = writes (clear_pred (number c.t)) (with_line 27 c)

-- "27 takes a new node of twice or half the size, predecessor t, all places empty."
unfoldable pub line_27 : Machine → Task → Effect
line_27 y c =
    let k = free_node y in
    writes (new_node (number k) (resized c.call (size_of y c.t)) c.t) (with_line 28 (with_new_node k c))

-- "28: if the head is t the new node becomes head and the call ends done, else it ends lost."
unfoldable pub line_28 : Machine → Task → Effect
line_28 y c =
    if eqb (head_of y) c.t then answers_writing (set_head (number c.new_node)) Done else answers Lost

-- ---- insert, remove

-- "32 t is head, to 33."
unfoldable pub line_32 : Machine → Task → Effect
line_32 y c = moves (with_line 33 (with_t (head_of y) c))

-- "33 b is t's place; filled to 36; else i is that place's number, to 39."
unfoldable pub line_33 : Machine → Task → Effect
line_33 y c =
    let b = place_for y c.t c.tag in
    let i = slot y.state.config c.tag (size_of y c.t) in
    if filled b then moves (with_line 36 (with_b b c)) else moves (with_line 39 (with_i i (with_b b c)))

abbrev pub frozen : Machine → ℕ → Bool
frozen y l = eqb (changeable y.buckets (number l)) 0

-- what an insert that line 36 answers so writes: with yes "b gains it"
unfoldable pub insert_write : Machine → Task → Answer → Write
insert_write y c Yes = put_tags (number c.b) (add_tag c.tag (tags_of y c.b))
insert_write y c No = nothing
insert_write y c Full = nothing
insert_write y c Done = nothing
insert_write y c Lost = nothing
insert_write y c Limit = nothing

-- paper 02, U1: "At line 36 an insert of a tag that its unfrozen bucket has now ends no, whatever the count; full is left for
-- absent tags", if the listed tags number 64 or more; else b gains it and the call ends yes
unfoldable pub answer_36 : Machine → Task → Answer
answer_36 y c = insert_answer (length (listed y)) (member c.tag (tags_of y c.b))

unfoldable pub insert_36 : Machine → Task → Effect
insert_36 y c = answers_of c.b (insert_write y c (answer_36 y c)) (answer_36 y c)

-- "remove takes it out and ends yes, or ends no"
unfoldable pub remove_36 : Machine → Task → Effect
remove_36 y c =
    if member c.tag (tags_of y c.b)
    then answers_of c.b (put_tags (number c.b) (remove_tag c.tag (tags_of y c.b))) Yes
    else answers_of c.b nothing No

-- "36: if b is frozen, every place in the task's record is emptied and i is 0, to 32; otherwise" as above
unfoldable pub line_36 : Machine → Task → Effect
line_36 y c =
    if frozen y c.b then moves (with_line 32 (with_i 0 (without_places c)))
    else if eqb c.call 1 then insert_36 y c else remove_36 y c

-- ---- filling place i

-- "39 b is t's place i."
unfoldable pub line_39 : Machine → Task → Effect
line_39 y c = moves (with_line 40 (with_b (place_of y c.t c.i) c))

-- "40 s is t's predecessor; if b is filled or s is none, to 51; if t is twice s, to 43; else 46."
unfoldable pub after_40 : Machine → Task → ℕ → ℕ
after_40 y c s =
    if filled c.b || not (filled s) then 51
    else if eqb (size_of y c.t) (2 * size_of y s) then 43 else 46

unfoldable pub line_40 : Machine → Task → Effect
line_40 y c = let s = pred_of y c.t in moves (with_line (after_40 y c s) (with_s s c))

-- "43 m is s's place i mod (s's size), to 44. 44 freezes m, to 49."
unfoldable pub line_43 : Machine → Task → Effect
line_43 y c = moves (with_line 44 (with_m (place_of y c.s (c.i % size_of y c.s)) c))

unfoldable pub line_44 : Machine → Task → Effect
line_44 y c = writes (freeze (number c.m)) (with_line 49 c)

-- "46 m is s's place i. 47 n is s's place i + t's size, to 48."
unfoldable pub line_46 : Machine → Task → Effect
line_46 y c = moves (with_line 47 (with_m (place_of y c.s c.i) c))

unfoldable pub line_47 : Machine → Task → Effect
line_47 y c = moves (with_line 48 (with_n (place_of y c.s (c.i + size_of y c.t)) c))

-- "48 freezes m, to 52. 52 freezes n, to 49."
unfoldable pub line_48 : Machine → Task → Effect
line_48 y c = writes (freeze (number c.m)) (with_line 52 c)

unfoldable pub line_52 : Machine → Task → Effect
line_52 y c = writes (freeze (number c.n)) (with_line 49 c)

-- "49 takes a new changeable bucket: m's tags with tag mod (t's size) = i, or with n filled the union of m and n."
unfoldable pub gathered : Machine → Task → List ℕ
gathered y c =
    if filled c.n then union (tags_of y c.m) (tags_of y c.n)
    else filter (λ k. eqb (slot y.state.config k (size_of y c.t)) c.i) (tags_of y c.m)

unfoldable pub line_49 : Machine → Task → Effect
line_49 y c =
    let k = free_bucket y in
    writes (new_bucket (number k) (gathered y c)) (with_line 50 (with_new_bucket k c))

-- "50 puts it in t's place i if still empty."
unfoldable pub line_50 : Machine → Task → Effect
line_50 y c =
    if filled (place_of y c.t c.i) then moves (with_line 51 c)
    else writes (set_place (number c.t) c.i c.new_bucket) (with_line 51 c)

-- "51 empties b, s, m, n and the new bucket; insert and remove set b to t's place i and go to 36, a resize adds 1 to i and goes
-- to 39 or, after the last, to 24."
unfoldable pub line_51 : Machine → Task → Effect
line_51 y c =
    let e = with_b 0 (with_s 0 (with_m 0 (with_n 0 (with_new_bucket 0 c)))) in
    if resizes c.call
    then moves (with_line (if ltb (c.i + 1) (size_of y c.t) then 39 else 24) (with_i (c.i + 1) e))
    else moves (with_line 36 (with_b (place_of y c.t c.i) e))

-- ---- all lines

pub record Line : Type 0 where
  pub at : ℕ
  pub does : Machine → Task → Effect

abbrev pub line : ℕ → (Machine → Task → Effect) → Line
line n f = record { at = n; does = f }

unfoldable pub all_lines : List Line
all_lines =
    line 12 line_12 ∷ line 13 line_13 ∷ line 15 line_15 ∷ line 16 line_16 ∷ line 17 line_17 ∷ line 18 line_18
    ∷ line 20 line_20 ∷ line 24 line_24 ∷ line 27 line_27 ∷ line 28 line_28
    ∷ line 32 line_32 ∷ line 33 line_33 ∷ line 36 line_36
    ∷ line 39 line_39 ∷ line 40 line_40 ∷ line 43 line_43 ∷ line 44 line_44 ∷ line 46 line_46 ∷ line 47 line_47
    ∷ line 48 line_48 ∷ line 52 line_52 ∷ line 49 line_49 ∷ line 50 line_50 ∷ line 51 line_51 ∷ []

-- the line of that number among these; a sound task's line is one of them
unfoldable pub find_line : ℕ → List Line → Machine → Task → Effect
find_line n [] y c = moves c
find_line n (l ∷ ls) y c = let rest = find_line n ls y c in if eqb n l.at then l.does y c else rest

unfoldable pub effect : Machine → Task → Effect
effect y c = find_line c.line all_lines y c
