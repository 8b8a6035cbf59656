-- Paper 02, U11: "A planner also takes a list of at most 64 calls for one task in a freshly opened yard of that many records, of either
-- version and under the old rule for tag 0, and gives each call's own steps and how many bucket records it takes, without stepping; a longer
-- list gives 9, and before it another version 11." The answers are given too. No step is run: the figures follow from the head's size and its
-- predecessor's, from which of its places are filled, and from the plain set. That they are those of a run is the crate plan_laws.
-- Assumes nothing.
use Rattle.std.specs.Prelude.{ℕ, ◌+◌, ◌*◌, ◌-◌, List, [], ◌∷◌, ◌++◌, Bool, true, false, not, eqb, ltb, length, get_or, set, take, replicate, if◌then◌else◌}
use Rattle.std.specs.Prelude.{Result, Ok, Err}
use Rattle.spec.specs.declared.Answer.{Answer}
use Rattle.spec.specs.declared.Answer.TheVariants.{No, Done, Limit}
use Rattle.spec.specs.declared.Call.{Call}
use Rattle.spec.specs.declared.Call.TheVariants.{Insert, Remove, Contains, Grow, Shrink}
use Rattle.spec.specs.declared.Config.{Config}
use Rattle.spec.specs.Numbers.{call_number}
use Rattle.spec.specs.Machine.{config_of, with_version}
use Rattle.spec.specs.Sound.{version_known}
use Rattle.spec.specs.Listed.{slot}
use Rattle.spec.specs.Plain.{plain}
use Rattle.spec.specs.Lines.{at_limit, resized}
use Rattle.plans.specs.declared.Planned.{Planned}
use Rattle.plans.specs.declared.Calls.{Calls}
use Rattle.plans.specs.declared.Figures.{Figures}
use Rattle.plans.specs.declared.Refusal.{Refusal}
use Rattle.plans.specs.declared.Refusal.TheVariants.{Version, TooLong}

abbrev pub call_of : Call → ℕ → Planned
call_of call tag = record { call = call; tag = tag }

abbrev pub figures : Answer → ℕ → ℕ → Figures
figures a own buckets = record { answer = a; own = own; buckets = buckets }

-- ---- what the figures depend on, between two calls

pub record Shape : Type 0 where
  -- the size of the head's predecessor, 0 for none
  pub pred : ℕ
  -- of each of the head's places, whether it is filled
  pub filled : List Bool
  -- the plain set
  pub tags : List ℕ

abbrev pub head_size : Shape → ℕ
head_size s = length s.filled

-- "puts changeable empty bucket 0 into node 0 of size 1, makes it head"
unfoldable pub fresh : Shape
fresh = record { pred = 0; filled = true ∷ []; tags = [] }

-- ---- the lines that fill a place, 39 to 51

-- an empty one: 39, 40, 43, 44, 49, 50, 51 if the head is twice its predecessor; else 39, 40, 46, 47, 48, 52, 49, 50, 51
unfoldable pub fill_steps : Shape → ℕ
fill_steps s = if eqb (head_size s) (2 * s.pred) then 7 else 9

-- a filled one: 39, 40, 51
unfoldable pub place_steps : Shape → Bool → ℕ
place_steps s f = if f then 3 else fill_steps s

unfoldable pub places_steps : Shape → List Bool → ℕ
places_steps s [] = 0
places_steps s (f ∷ fs) = place_steps s f + places_steps s fs

-- line 49 takes one bucket for each empty place
unfoldable pub empty_places : List Bool → ℕ
empty_places [] = 0
empty_places (f ∷ fs) = (if f then 0 else 1) + empty_places fs

-- ---- a call

-- 32, 33, 36; or 32, 33, the lines that fill the tag's place, 36
unfoldable pub update_figures : Shape → ℕ → Answer → Figures
update_figures s i a = if get_or s.filled i false then figures a 3 0 else figures a (3 + fill_steps s) 1

-- 12, 13, 18; or 12, 13, 15, 16, 18
unfoldable pub contains_figures : Shape → ℕ → Answer → Figures
contains_figures s i a = figures a (if get_or s.filled i false then 3 else 5) 0

-- 20 alone; or 20, the lines of every place, 24, 27, 28
unfoldable pub resize_figures : Shape → Call → Figures
resize_figures s call =
    if at_limit (call_number call) (head_size s) then figures Limit 1 0
    else figures Done (4 + places_steps s s.filled) (empty_places s.filled)

unfoldable pub call_figures : Config → Shape → Call → ℕ → Figures
call_figures g s Insert k = update_figures s (slot g k (head_size s)) (plain s.tags Insert k).answer
call_figures g s Remove k = update_figures s (slot g k (head_size s)) (plain s.tags Remove k).answer
call_figures g s Contains k = contains_figures s (slot g k (head_size s)) (plain s.tags Contains k).answer
call_figures g s Grow k = resize_figures s Grow
call_figures g s Shrink k = resize_figures s Shrink

-- ---- what it leaves

-- the tag's place is filled, whatever is answered
unfoldable pub after_update : Config → Shape → Call → ℕ → Shape
after_update g s call k =
    record { pred = s.pred; filled = set s.filled (slot g k (head_size s)) true; tags = (plain s.tags call k).tags }

-- "a new node of twice or half the size, predecessor t, all places empty"
unfoldable pub after_resize : Shape → Call → Shape
after_resize s call =
    if at_limit (call_number call) (head_size s) then s
    else record { pred = head_size s; filled = replicate (resized (call_number call) (head_size s)) false; tags = s.tags }

-- a contains fills nothing
unfoldable pub after_call : Config → Shape → Call → ℕ → Shape
after_call g s Insert k = after_update g s Insert k
after_call g s Remove k = after_update g s Remove k
after_call g s Contains k = s
after_call g s Grow k = after_resize s Grow
after_call g s Shrink k = after_resize s Shrink

-- ---- the planner

unfoldable pub all_figures : Config → Shape → List Planned → List Figures
all_figures g s [] = []
all_figures g s (c ∷ cs) = call_figures g s c.call c.tag ∷ all_figures g (after_call g s c.call c.tag) cs

pub data PlanReply : Type 0 where
  planned : List Figures → PlanReply
  refused : ℕ → PlanReply

-- "of either version and under the old rule for tag 0": what T tasks are opened with; how many they are does not matter here
abbrev pub opened_for : ℕ → ℕ → Config
opened_for t version = with_version version (config_of t)

-- "a longer list gives 9, and before it another version 11"
unfoldable pub plan : ℕ → List Planned → PlanReply
plan version cs =
    if not (version_known (opened_for 1 version)) then refused 11
    else if ltb 64 (length cs) then refused 9
    else planned (all_figures (opened_for 1 version) fresh cs)

-- ---- the same with arrays

-- a list's calls. A count over 64 is a longer list, whatever its calls are
unfoldable pub list_of : Calls → List Planned
list_of l = if ltb 64 l.count then replicate 65 (call_of Contains 0) else take l.count l.call

-- the figures, then figures of nothing
unfoldable pub figures_array : List Figures → List Figures
figures_array fs = fs ++ replicate (64 - length fs) (figures No 0 0)

-- a refusal's number, and the refusal that has a number
abbrev pub refusal_number : Refusal → ℕ
refusal_number Version = 11
refusal_number TooLong = 9

abbrev pub refusal_of : ℕ → Refusal
refusal_of r = if eqb r 9 then TooLong else Version

unfoldable pub plan_array : PlanReply → Result (List Figures) Refusal
plan_array (planned fs) = Ok (figures_array fs)
plan_array (refused r) = Err (refusal_of r)
