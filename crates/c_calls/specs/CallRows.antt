-- Rows of what calls for C give and leave: numbers from 256 on, the words of answers and of turns, events by their kinds, and one call of each
-- entry on a small yard. Assumes nothing.
use Rattle.std.specs.Prelude.{ℕ, ◌≡◌, refl, List, [], ◌∷◌, map, true, false, get_or, set, replicate, Ok, Err}
use Rattle.spec.specs.declared.Refusal.TheVariants.{NoTask, NoRecord, Spoilt, ShortList, Withdrawn}
use Rattle.spec.specs.declared.Answer.TheVariants.{Yes, Full, Done}
use Rattle.spec.specs.declared.Call.TheVariants.{Insert, Remove, Contains, Grow, Shrink}
use Rattle.spec.specs.declared.Config.{Config}
use Rattle.spec.specs.declared.Progress.TheVariants.{At}
use Rattle.spec.specs.Machine.{Machine, config_of}
use Rattle.spec.specs.Schedule.{Event, starts, steps, run}
use Rattle.spec.specs.Entries.{opening}
use Rattle.spec.specs.Everything.{everything}
use Rattle.spec.specs.Rows.{stepping, calling, ended, counted}
use Rattle.spec.specs.WholeRows.{node, bucket, yard, whole_rows}
use Rattle.turns.specs.declared.Turn.TheVariants as Turn
use Rattle.turns.specs.Turn.{idle_tasks, next_task, after_step, turn_to, turn}
use Rattle.turns.specs.Turns.{names, turns_of, turn_words, turns_written}
use Rattle.schedule_events.specs.Events.{event_of, events_of, listing_number}
use Rattle.state_words.specs.StateWords.{state_words, task_at, tasks_of_words, state_of_words, bit_fits, own_fits, task_fits, state_fits}
use Rattle.yard_answers.specs.Answers.{open_number, out_number, out_left, turn_number, turn_left}
use Rattle.schedule.specs.Encoding.{c_config, room_for, decoded}
use Rattle.c_calls.specs.Calls.{Called, c_open, c_reply, c_start, c_step, c_turn, c_list, c_show}
use Rattle.c_calls.specs.Runs.{c_run, c_turns}

-- ---- numbers: 0, 1 or a count; 256 and more for a refusal

pub opens : map open_number (0 ∷ 1 ∷ 2 ∷ 3 ∷ 11 ∷ []) ≡ 0 ∷ 257 ∷ 258 ∷ 259 ∷ 267 ∷ []
unfolding open_number
opens = refl

pub outs : map out_number (Ok (At 32) ∷ ended Done 7 ∷ Err NoTask ∷ Err Spoilt ∷ Err Withdrawn ∷ []) ≡ 0 ∷ 0 ∷ 260 ∷ 264 ∷ 270 ∷ []
unfolding out_number
outs = refl

pub lists : map listing_number (Ok 0 ∷ Ok 64 ∷ Err Spoilt ∷ Err ShortList ∷ []) ≡ 0 ∷ 64 ∷ 264 ∷ 265 ∷ []
lists = refl

pub turns_numbered : map turn_number (Turn.Idle ∷ Turn.Of 0 (Ok (At 32)) ∷ Turn.Of 7 (Err NoRecord) ∷ Turn.Refused Spoilt ∷ []) ≡ 0 ∷ 1 ∷ 1 ∷ 264 ∷ []
unfolding turn_number
turns_numbered = refl

-- ---- words: a refusal leaves them as they were, but a turn's names its task

pub outs_left :
    map (λ o. out_left o (9 ∷ 9 ∷ 9 ∷ 9 ∷ [])) (Ok (At 32) ∷ counted Full 24 64 ∷ Err NoRecord ∷ [])
    ≡ (0 ∷ 32 ∷ 0 ∷ 0 ∷ []) ∷ (1 ∷ 3 ∷ 24 ∷ 64 ∷ []) ∷ (9 ∷ 9 ∷ 9 ∷ 9 ∷ []) ∷ []
unfolding out_left
outs_left = refl

pub turns_left :
    map (λ a. turn_left a (9 ∷ 9 ∷ 9 ∷ 9 ∷ 9 ∷ [])) (Turn.Idle ∷ Turn.Of 3 (counted Yes 3 1) ∷ Turn.Of 2 (Err NoRecord) ∷ Turn.Refused Spoilt ∷ [])
    ≡ (9 ∷ 9 ∷ 9 ∷ 9 ∷ 9 ∷ []) ∷ (3 ∷ 1 ∷ 1 ∷ 3 ∷ 1 ∷ []) ∷ (2 ∷ 2 ∷ 7 ∷ 0 ∷ 0 ∷ []) ∷ (9 ∷ 9 ∷ 9 ∷ 9 ∷ 9 ∷ []) ∷ []
unfolding turn_left
turns_left = refl

-- ---- events: 1 to 5 start a call, every other kind is a step; four words each, the fourth not read, missing ones 0

pub kinds :
    map (λ n. event_of n 2 5) (0 ∷ 1 ∷ 2 ∷ 3 ∷ 4 ∷ 5 ∷ 6 ∷ 4294967295 ∷ [])
    ≡ steps 2 ∷ starts 2 Insert 5 ∷ starts 2 Remove 5 ∷ starts 2 Contains 5 ∷ starts 2 Grow 5 ∷ starts 2 Shrink 5 ∷ steps 2 ∷ steps 2 ∷ []
unfolding everything event_of
kinds = refl

pub events_read :
    events_of 3 (1 ∷ 0 ∷ 17 ∷ 99 ∷ 0 ∷ 7 ∷ 3 ∷ 4 ∷ 3 ∷ 1 ∷ []) ≡ starts 0 Insert 17 ∷ steps 7 ∷ starts 1 Contains 0 ∷ []
unfolding everything event_of events_of
events_read = refl

-- ---- one call of each entry

unfoldable pub calls_for_c : ℕ
unfolding everything stepping calling whole_rows idle_tasks next_task after_step turn_to turn state_words task_at tasks_of_words state_of_words bit_fits
    own_fits task_fits state_fits open_number out_number out_left turn_number turn_left c_open c_reply c_start c_step c_turn c_list c_show event_of events_of
    room_for decoded names turns_of turn_words turns_written c_run c_turns
calls_for_c = 0

-- words that a state has: 113, with 0 or 1 for the rule for tag 0 and for each task that runs, and own steps of at most 65,535; so of the first task and of
-- the last
pub fits :
    map state_fits (let w = replicate 113 0 in
    w ∷ set w 2 1 ∷ set w 9 1 ∷ set w 14 65535 ∷ set w 2 2 ∷ set w 9 2 ∷ set w 14 65536 ∷ set w 100 2 ∷ set w 105 65536 ∷ replicate 112 0
    ∷ replicate 114 0 ∷ [])
    ≡ true ∷ true ∷ true ∷ true ∷ false ∷ false ∷ false ∷ false ∷ false ∷ false ∷ false ∷ []
unfolding calls_for_c
fits = refl

-- T, the version, and 0 for the old rule for tag 0, any other number for the new one
pub configs :
    map (c_config 3 2) (0 ∷ 1 ∷ 2 ∷ [])
    ≡ map (λ w. record { tasks = 3; version = 2; zero_withdrawn = w }) (false ∷ true ∷ true ∷ [])
configs = refl

-- 113 words for the state, whatever they held; another length is 8; a refused opening gives its number
abbrev pub opened : Config → ℕ → Called
opened g n = c_open g (replicate n 7) (replicate 34 7) (replicate 66 7)

pub open_rows :
    map (λ (x : Called). x.number) (opened (config_of 2) 113 ∷ opened (config_of 2) 112 ∷ opened (config_of 2) 114 ∷ opened (config_of 9) 113
    ∷ opened (c_config 2 3 0) 113 ∷ [])
    ≡ 0 ∷ 264 ∷ 264 ∷ 257 ∷ 267 ∷ []
unfolding calls_for_c
open_rows = refl

-- a yard of two tasks, one node and two buckets after these events
unfoldable pub after : List Event → Machine
after es = (run (opening (config_of 2) (replicate 34 7) (replicate 132 7)).machine es).machine

-- the number given and the words of the answer
abbrev pub given : Called → List ℕ
given x = x.number ∷ x.out

abbrev pub starting : Machine → ℕ → List ℕ → List ℕ
starting y k out = given (c_start Insert (state_words y.state) k 5 y.nodes y.buckets out)

abbrev pub stepping_c : Machine → ℕ → List ℕ → List ℕ
stepping_c y k out = given (c_step (state_words y.state) k y.nodes y.buckets out)

-- accepted; no such task; three words for the answer; a call that runs
pub start_rows :
    starting (after []) 0 (9 ∷ 9 ∷ 9 ∷ 9 ∷ []) ∷ starting (after []) 2 (9 ∷ 9 ∷ 9 ∷ 9 ∷ []) ∷ starting (after []) 0 (9 ∷ 9 ∷ 9 ∷ [])
    ∷ starting (after (calling 0 Grow 0 0)) 0 (9 ∷ 9 ∷ 9 ∷ 9 ∷ []) ∷ []
    ≡ (0 ∷ 0 ∷ 32 ∷ 0 ∷ 0 ∷ []) ∷ (260 ∷ 9 ∷ 9 ∷ 9 ∷ 9 ∷ []) ∷ (264 ∷ 9 ∷ 9 ∷ 9 ∷ []) ∷ (261 ∷ 9 ∷ 9 ∷ 9 ∷ 9 ∷ []) ∷ []
unfolding calls_for_c after
start_rows = refl

-- the step that ends an insert: yes, 3 own steps, 1 tag; an idle task; five words for the answer
pub step_rows :
    stepping_c (after (calling 0 Insert 5 2)) 0 (9 ∷ 9 ∷ 9 ∷ 9 ∷ []) ∷ stepping_c (after []) 0 (9 ∷ 9 ∷ 9 ∷ 9 ∷ [])
    ∷ stepping_c (after (calling 0 Insert 5 2)) 0 (9 ∷ 9 ∷ 9 ∷ 9 ∷ 9 ∷ []) ∷ []
    ≡ (0 ∷ 1 ∷ 1 ∷ 3 ∷ 1 ∷ []) ∷ (262 ∷ 9 ∷ 9 ∷ 9 ∷ 9 ∷ []) ∷ (264 ∷ 9 ∷ 9 ∷ 9 ∷ 9 ∷ 9 ∷ []) ∷ []
unfolding calls_for_c after
step_rows = refl

-- nothing runs; task 1's turn; four words for the answer
abbrev pub turning : Machine → List ℕ → List ℕ
turning y out = given (c_turn (state_words y.state) y.nodes y.buckets out)

pub turn_rows :
    turning (after []) (9 ∷ 9 ∷ 9 ∷ 9 ∷ 9 ∷ []) ∷ turning (after (calling 1 Contains 5 0)) (9 ∷ 9 ∷ 9 ∷ 9 ∷ 9 ∷ [])
    ∷ turning (after []) (9 ∷ 9 ∷ 9 ∷ 9 ∷ []) ∷ []
    ≡ (0 ∷ 9 ∷ 9 ∷ 9 ∷ 9 ∷ 9 ∷ []) ∷ (1 ∷ 1 ∷ 0 ∷ 13 ∷ 0 ∷ 0 ∷ []) ∷ (264 ∷ 9 ∷ 9 ∷ 9 ∷ 9 ∷ []) ∷ []
unfolding calls_for_c after
turn_rows = refl

-- one tag, and later words kept; 63 words; words that no state has
pub list_rows :
    (let y = after (calling 0 Insert 5 3) in
    given (c_list (state_words y.state) y.nodes y.buckets (replicate 64 9))
    ∷ given (c_list (state_words y.state) y.nodes y.buckets (replicate 63 9))
    ∷ given (c_list (replicate 112 0) y.nodes y.buckets (9 ∷ [])) ∷ [])
    ≡ (1 ∷ 5 ∷ replicate 63 9) ∷ (265 ∷ replicate 63 9) ∷ (264 ∷ 9 ∷ []) ∷ []
unfolding calls_for_c after
list_rows = refl

-- how many tags a bucket has and where the first one stands; none, where the word is kept; a number past the pool; two words for the answer
unfoldable pub with_tags : Machine
with_tags = yard 0 0 0 (node 1 0 (1 ∷ []) ∷ []) (bucket 1 [] ∷ bucket 1 (5 ∷ 6 ∷ []) ∷ []) []

abbrev pub showing : ℕ → List ℕ → List ℕ
showing k out = given (c_show (state_words with_tags.state) k with_tags.nodes with_tags.buckets out)

pub show_rows :
    showing 1 (9 ∷ []) ∷ showing 0 (9 ∷ []) ∷ showing 2 (9 ∷ []) ∷ showing 1 (9 ∷ 9 ∷ []) ∷ []
    ≡ (2 ∷ 68 ∷ []) ∷ (0 ∷ 9 ∷ []) ∷ (0 ∷ 9 ∷ []) ∷ (0 ∷ 9 ∷ 9 ∷ []) ∷ []
unfolding calls_for_c with_tags
show_rows = refl

-- ---- what is left in the words of the state and of both pools

-- the task chosen last; whether task 0 runs, its line and own steps; node 0's size and first place; bucket 0's count and first tag
abbrev pub left_in : Called → List ℕ
left_in x =
    get_or x.state 8 9 ∷ get_or x.state 9 9 ∷ get_or x.state 12 9 ∷ get_or x.state 14 9 ∷ get_or x.nodes 0 9 ∷ get_or x.nodes 2 9
    ∷ get_or x.buckets 1 9 ∷ get_or x.buckets 2 9 ∷ []

-- an opening, a start, the step that ends an insert, a turn, a refused step, a list and a show
pub left_rows :
    (let y = after [] in
    let z = after (calling 0 Insert 5 2) in
    let u = after (calling 0 Contains 5 0) in
    left_in (c_open (config_of 2) (replicate 113 7) (replicate 34 7) (replicate 132 7))
    ∷ left_in (c_start Insert (state_words y.state) 0 5 y.nodes y.buckets (replicate 4 9))
    ∷ left_in (c_step (state_words z.state) 0 z.nodes z.buckets (replicate 4 9))
    ∷ left_in (c_turn (state_words u.state) u.nodes u.buckets (replicate 5 9))
    ∷ left_in (c_step (state_words y.state) 0 y.nodes y.buckets (replicate 4 9))
    ∷ left_in (c_list (state_words z.state) z.nodes z.buckets (replicate 64 9))
    ∷ left_in (c_show (state_words z.state) 0 z.nodes z.buckets (9 ∷ [])) ∷ [])
    ≡ (1 ∷ 0 ∷ 0 ∷ 0 ∷ 1 ∷ 1 ∷ 0 ∷ 0 ∷ []) ∷ (1 ∷ 1 ∷ 32 ∷ 0 ∷ 1 ∷ 1 ∷ 0 ∷ 0 ∷ []) ∷ (1 ∷ 0 ∷ 0 ∷ 0 ∷ 1 ∷ 1 ∷ 1 ∷ 5 ∷ [])
    ∷ (0 ∷ 1 ∷ 13 ∷ 1 ∷ 1 ∷ 1 ∷ 0 ∷ 0 ∷ []) ∷ (1 ∷ 0 ∷ 0 ∷ 0 ∷ 1 ∷ 1 ∷ 0 ∷ 0 ∷ []) ∷ (1 ∷ 1 ∷ 36 ∷ 2 ∷ 1 ∷ 1 ∷ 0 ∷ 0 ∷ [])
    ∷ (1 ∷ 1 ∷ 36 ∷ 2 ∷ 1 ∷ 1 ∷ 0 ∷ 0 ∷ []) ∷ []
unfolding calls_for_c after
left_rows = refl

-- words that no state has, 2 for the rule for tag 0, are refused by each call, and a show gives nothing
pub unfit_rows :
    (let y = after (calling 0 Insert 5 3) in
    let w = set (state_words y.state) 2 2 in
    (c_start Grow w 0 0 y.nodes y.buckets (replicate 4 9)).number ∷ (c_step w 0 y.nodes y.buckets (replicate 4 9)).number
    ∷ (c_turn w y.nodes y.buckets (replicate 5 9)).number ∷ (c_list w y.nodes y.buckets (replicate 64 9)).number
    ∷ (c_show w 0 y.nodes y.buckets (9 ∷ [])).number ∷ [])
    ≡ 264 ∷ 264 ∷ 264 ∷ 264 ∷ 0 ∷ []
unfolding calls_for_c after
unfit_rows = refl

-- ---- many events or turns in one call

-- words that are a state's, but task 5 of two was chosen last: memory is spoilt
unfoldable pub spoilt : Machine → List ℕ
spoilt y = set (state_words y.state) 8 5

-- an insert and its first step, and a word past their outputs; in spoilt memory none of them
abbrev pub running : List ℕ → Machine → List ℕ
running w y = given (c_run w y.nodes y.buckets (1 ∷ 0 ∷ 5 ∷ 0 ∷ 0 ∷ 0 ∷ 0 ∷ 0 ∷ []) (replicate 9 9))

pub run_rows :
    running (state_words (after []).state) (after []) ∷ running (spoilt (after [])) (after []) ∷ []
    ≡ (0 ∷ 0 ∷ 32 ∷ 0 ∷ 0 ∷ 0 ∷ 33 ∷ 0 ∷ 0 ∷ 9 ∷ []) ∷ (264 ∷ replicate 9 9) ∷ []
unfolding calls_for_c after spoilt
run_rows = refl

-- two turns of task 1 have room; in spoilt memory none has its turn
abbrev pub taking_turns : List ℕ → Machine → List ℕ
taking_turns w y = given (c_turns w y.nodes y.buckets (replicate 11 9))

pub turns_rows :
    (let y = after (calling 1 Contains 5 0) in taking_turns (state_words y.state) y ∷ taking_turns (spoilt y) y ∷ [])
    ≡ (2 ∷ 1 ∷ 0 ∷ 13 ∷ 0 ∷ 0 ∷ 1 ∷ 0 ∷ 18 ∷ 0 ∷ 0 ∷ 9 ∷ []) ∷ (264 ∷ replicate 11 9) ∷ []
unfolding calls_for_c after spoilt
turns_rows = refl
