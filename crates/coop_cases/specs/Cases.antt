-- Schedules computed from the definitions, every output of each given, and what the bucket has at the end: one table, one statement,
-- `table_holds`. Each row tells the figure from a way to get it wrong. Assumes nothing.
use Rattle.std.specs.Prelude.{ℕ, ◌*◌, ◌≡◌, refl, List, [], ◌∷◌, ◌++◌, map, Bool, true, false, replicate, Ok, Err}
use Rattle.coop_spec.specs.declared.Answer.TheVariants.{Yes, No, Version}
use Rattle.coop_spec.specs.declared.Call.TheVariants.{InvokeInsert, InvokeRemove, Freeze, HasMember, GetResponse}
use Rattle.coop_spec.specs.Outputs.{Output}
use Rattle.coop_spec.specs.declared.Progress.TheVariants.{At, End}
use Rattle.coop_spec.specs.Words.{current, tags_of}
use Rattle.coop_spec.specs.Entries.{opening}
use Rattle.coop_spec.specs.Schedule.{Event, starts, steps, run}
use Rattle.coop_spec.specs.Everything.{everything}
use Rattle.coop_spec.specs.Rows.{stepping, calling}
use Rattle.coop_spec.specs.declared.Refusal.TheVariants.{NoTask, NotStarted, Idle, NoVersion}

-- what a schedule answers, and the bucket's version, flag and set at its end
pub record Seen : Type 0 where
  pub outs : List Output
  pub node : ℕ
  pub flag : Bool
  pub tags : List ℕ

pub record Case : Type 0 where
  pub tasks : ℕ
  pub versions : ℕ
  pub events : List Event
  pub seen : Seen

-- the pool holds sevens before the opening
unfoldable pub observed : Case → Seen
observed c =
    let o = opening c.tasks (replicate (66 * c.versions) 7) in
    let r = run o.machine c.events in
    let y = r.machine in
    record { outs = r.outs; node = current y; flag = y.state.flag; tags = tags_of y (current y) }

-- ---- outputs

-- the task goes on at these lines
unfoldable pub at : List ℕ → List Output
at ls = map (λ l. Ok (At l)) ls

-- an invoke that nobody disturbs, up to the output of line 102, and up to that of 139
unfoldable pub invoke_to_129 : List Output
invoke_to_129 = at (95 ∷ 96 ∷ 99 ∷ 100 ∷ 101 ∷ 102 ∷ 129 ∷ [])

unfoldable pub invoke_to_140 : List Output
invoke_to_140 = invoke_to_129 ++ at (130 ∷ 138 ∷ 139 ∷ 140 ∷ [])

-- ---- the cases

unfoldable pub case : ℕ → ℕ → List Event → List Output → ℕ → Bool → List ℕ → Case
case t v es os k f ks = record { tasks = t; versions = v; events = es; seen = record { outs = os; node = k; flag = f; tags = ks } }

unfoldable pub table : List Case
table =
    -- inserts, a member test of a tag inside and of one outside, a second insert of the tag, a remove, and their responses
    case 1 3
    (calling 0 InvokeInsert 0 5 11 ++ calling 0 HasMember 0 5 2 ++ calling 0 HasMember 0 6 2 ++ calling 0 InvokeInsert 1 5 11
    ++ calling 0 GetResponse 0 0 1 ++ calling 0 GetResponse 1 0 1 ++ calling 0 InvokeRemove 2 5 11 ++ calling 0 GetResponse 2 0 1)
    (invoke_to_140 ++ Ok (End Yes 11) ∷ Ok (At 112) ∷ Ok (At 113) ∷ Ok (End Yes 2) ∷ Ok (At 112) ∷ Ok (At 113) ∷ Ok (End No 2) ∷ []
    ++ invoke_to_140 ++ Ok (End Yes 11) ∷ Ok (At 117) ∷ Ok (End Yes 1) ∷ Ok (At 117) ∷ Ok (End No 1) ∷ []
    ++ invoke_to_140 ++ Ok (End Yes 11) ∷ Ok (At 117) ∷ Ok (End Yes 1) ∷ [])
    0 false []
    -- three tasks invoke operation 0: task 0 puts it in, task 1 finishes it, task 2 finds it done; all end with yes, and one version was
    -- made
    ∷ case 4 3
    (calling 0 InvokeInsert 0 5 6 ++ calling 1 InvokeInsert 0 5 4 ++ calling 2 InvokeInsert 0 5 1 ++ stepping 1 5 ++ stepping 2 6
    ++ stepping 0 2 ++ stepping 1 2 ++ calling 3 GetResponse 0 0 1)
    (invoke_to_129 ++ at (95 ∷ 96 ∷ 99 ∷ 100 ∷ 129 ∷ 95 ∷ 96 ∷ 130 ∷ 138 ∷ 139 ∷ 140 ∷ 95 ∷ 99 ∷ 100 ∷ 101 ∷ 95 ∷ 107 ∷ [])
    ++ (Ok (End Yes 7) ∷ Ok (At 130) ∷ Ok (End Yes 8) ∷ Ok (At 107) ∷ Ok (End Yes 11) ∷ Ok (At 117) ∷ Ok (End Yes 1) ∷ []))
    1 false (5 ∷ [])
    -- task 1 passes 95, task 0's invoke of the same operation ends, and 101 sends task 1 back: the operation is not put in twice
    ∷ case 2 3
    (calling 1 InvokeInsert 0 5 1 ++ calling 0 InvokeInsert 0 5 11 ++ stepping 1 6 ++ calling 0 GetResponse 0 0 1)
    ((Ok (At 95) ∷ Ok (At 96) ∷ []) ++ invoke_to_140 ++ Ok (End Yes 11) ∷ at (99 ∷ 100 ∷ 101 ∷ 95 ∷ 107 ∷ [])
    ++ (Ok (End Yes 7) ∷ Ok (At 117) ∷ Ok (End Yes 1) ∷ []))
    1 false (5 ∷ [])
    -- two tasks finish one operation: the second finds at 140 that the bucket has another version, and takes none
    ∷ case 2 3
    (calling 0 InvokeInsert 0 5 10 ++ calling 1 InvokeInsert 1 6 8 ++ stepping 1 1 ++ stepping 0 1 ++ calling 0 GetResponse 0 0 1)
    (invoke_to_140 ++ at (95 ∷ 96 ∷ 99 ∷ 100 ∷ 129 ∷ 130 ∷ 138 ∷ 139 ∷ 140 ∷ 95 ∷ [])
    ++ (Ok (End Yes 11) ∷ Ok (At 117) ∷ Ok (End Yes 1) ∷ []))
    1 false (5 ∷ [])
    -- a member test sees an operation that was put in but not yet finished
    ∷ case 2 3
    (calling 0 InvokeInsert 0 5 6 ++ calling 1 HasMember 0 5 2 ++ calling 1 HasMember 0 6 2 ++ stepping 0 5
    ++ calling 0 InvokeRemove 1 5 6 ++ calling 1 HasMember 0 5 2)
    (invoke_to_129 ++ Ok (At 112) ∷ Ok (At 113) ∷ Ok (End Yes 2) ∷ Ok (At 112) ∷ Ok (At 113) ∷ Ok (End No 2) ∷ at (130 ∷ 138 ∷ 139 ∷ 140 ∷ [])
    ++ Ok (End Yes 11) ∷ invoke_to_129 ++ Ok (At 112) ∷ Ok (At 113) ∷ Ok (End No 2) ∷ [])
    1 false (5 ∷ [])
    -- an operation is done at 139 but its version not yet installed: another invoke of it ends with yes, its response is given, and a
    -- member test sees its tag
    ∷ case 4 3
    (calling 0 InvokeInsert 0 5 10 ++ calling 1 InvokeInsert 0 5 2 ++ calling 2 GetResponse 0 0 1 ++ calling 3 HasMember 0 5 2 ++ stepping 0 1)
    (invoke_to_140 ++ Ok (At 95) ∷ Ok (At 107) ∷ Ok (End Yes 2) ∷ Ok (At 117) ∷ Ok (End Yes 1) ∷ Ok (At 112) ∷ Ok (At 113) ∷ Ok (End Yes 2) ∷ Ok (End Yes 11) ∷ [])
    1 false (5 ∷ [])
    -- a freeze that meets an operation finishes it first; an invoke after it ends with no, one of the finished operation with yes
    ∷ case 3 3
    (calling 0 InvokeInsert 0 5 6 ++ calling 1 Freeze 0 0 14 ++ calling 2 InvokeInsert 1 6 2 ++ calling 2 InvokeInsert 0 5 2
    ++ stepping 0 2 ++ calling 1 Freeze 0 0 3 ++ calling 1 HasMember 0 5 2)
    (invoke_to_129 ++ at (109 ∷ 120 ∷ 121 ∷ 122 ∷ 129 ∷ 130 ∷ 138 ∷ 139 ∷ 140 ∷ 120 ∷ 121 ∷ 122 ∷ 123 ∷ 127 ∷ [])
    ++ (Ok (End (Version 1) 14) ∷ Ok (At 95) ∷ Ok (At 107) ∷ Ok (End No 2) ∷ Ok (At 95) ∷ Ok (At 107) ∷ Ok (End Yes 2) ∷ Ok (At 130) ∷ Ok (End Yes 8) ∷ [])
    ++ (Ok (At 109) ∷ Ok (At 120) ∷ Ok (At 127) ∷ Ok (End (Version 1) 3) ∷ Ok (At 112) ∷ Ok (At 113) ∷ Ok (End Yes 2) ∷ []))
    1 true (5 ∷ [])
    -- an invoke that finds the flag raised freezes the bucket itself and ends with no; the freeze then finds it frozen
    ∷ case 2 3
    (calling 0 Freeze 0 0 1 ++ calling 1 InvokeInsert 0 5 8 ++ stepping 0 2)
    (at (109 ∷ 120 ∷ 95 ∷ 96 ∷ 120 ∷ 121 ∷ 122 ∷ 123 ∷ 127 ∷ 107 ∷ [])
    ++ Ok (End No 8) ∷ Ok (At 127) ∷ Ok (End (Version 0) 3) ∷ [])
    0 true []
    -- a freeze that read o before task 0 put its operation in fails at 123 and goes round
    ∷ case 2 3
    (calling 0 InvokeInsert 0 5 5 ++ calling 1 Freeze 0 0 4 ++ stepping 0 1 ++ stepping 1 14 ++ stepping 0 2)
    (at (95 ∷ 96 ∷ 99 ∷ 100 ∷ 101 ∷ 102 ∷ 109 ∷ 120 ∷ 121 ∷ 122 ∷ 123 ∷ 129 ∷ 120 ∷ 121 ∷ 122 ∷ 129 ∷ 130 ∷ 138 ∷ 139 ∷ 140 ∷ [])
    ++ at (120 ∷ 121 ∷ 122 ∷ 123 ∷ 127 ∷ [])
    ++ Ok (End (Version 1) 18) ∷ Ok (At 130) ∷ Ok (End Yes 8) ∷ [])
    1 true (5 ∷ [])
    -- a freeze overtakes an invoke that stands at 102, which fails there and ends with no
    ∷ case 2 3
    (calling 0 InvokeInsert 0 5 5 ++ calling 1 Freeze 0 0 6 ++ stepping 0 3)
    (at (95 ∷ 96 ∷ 99 ∷ 100 ∷ 101 ∷ 102 ∷ 109 ∷ 120 ∷ 121 ∷ 122 ∷ 123 ∷ 127 ∷ [])
    ++ Ok (End (Version 0) 6) ∷ Ok (At 95) ∷ Ok (At 107) ∷ Ok (End No 8) ∷ [])
    0 true []
    -- two versions, and task 1's member test names one: line 140 gives 7 until the test has ended
    ∷ case 2 2
    (calling 0 InvokeInsert 0 5 11 ++ calling 1 HasMember 0 6 1 ++ calling 0 InvokeInsert 1 6 11 ++ calling 0 InvokeInsert 2 7 11
    ++ stepping 1 1 ++ stepping 0 1)
    (invoke_to_140 ++ Ok (End Yes 11) ∷ Ok (At 112) ∷ Ok (At 113) ∷ invoke_to_140 ++ Ok (End Yes 11) ∷ invoke_to_140
    ++ Err NoVersion ∷ Ok (End Yes 2) ∷ Ok (End Yes 11) ∷ [])
    1 false (5 ∷ 6 ∷ 7 ∷ [])
    -- two versions: task 1 read version 0 at 99 and stands at 129 with no o, so that line 140 may take that version again
    ∷ case 2 2
    (calling 0 InvokeInsert 0 5 6 ++ calling 1 InvokeInsert 1 6 4 ++ stepping 0 5 ++ calling 0 InvokeInsert 2 7 11)
    (invoke_to_129 ++ at (95 ∷ 96 ∷ 99 ∷ 100 ∷ 129 ∷ 130 ∷ 138 ∷ 139 ∷ 140 ∷ []) ++ Ok (End Yes 11) ∷ invoke_to_140 ++ Ok (End Yes 11) ∷ [])
    0 false (5 ∷ 7 ∷ [])
    -- one version: line 140 gives 7, again and again, and the task still stands there
    ∷ case 1 1
    (calling 0 InvokeInsert 0 5 12)
    (invoke_to_140 ++ Err NoVersion ∷ Err NoVersion ∷ [])
    0 false []
    -- no such task; an idle step; an invoke past 63, or with another tag or type; a response not allowed yet, or past 63; a second start
    ∷ case 8 2
    ((starts 8 InvokeInsert 64 5 ∷ steps 8 ∷ steps 0 ∷ starts 0 InvokeInsert 64 5 ∷ starts 0 InvokeInsert 63 5 ∷ starts 1 InvokeInsert 63 6 ∷ [])
    ++ (starts 1 InvokeRemove 63 5 ∷ starts 1 GetResponse 63 0 ∷ starts 1 GetResponse 64 0 ∷ starts 0 Freeze 0 0 ∷ [])
    ++ stepping 0 11 ++ calling 1 GetResponse 63 0 1)
    ((Err NoTask ∷ Err NoTask ∷ Err Idle ∷ Err NotStarted ∷ Ok (At 95) ∷ Err NotStarted ∷ Err NotStarted ∷ Err NotStarted ∷ Err NotStarted ∷ Err NotStarted ∷ [])
    ++ at (96 ∷ 99 ∷ 100 ∷ 101 ∷ 102 ∷ 129 ∷ 130 ∷ 138 ∷ 139 ∷ 140 ∷ [])
    ++ Ok (End Yes 11) ∷ Ok (At 117) ∷ Ok (End Yes 1) ∷ [])
    1 false (5 ∷ [])
    ∷ []

pub table_holds : map observed table ≡ map (λ c. c.seen) table
unfolding everything observed stepping calling at invoke_to_129 invoke_to_140 case table
table_holds = refl

-- ---- openings: T, the pool's words, and the refusal

pub record Sized : Type 0 where
  pub tasks : ℕ
  pub words : ℕ
  pub refusal : ℕ

abbrev pub sized : ℕ → ℕ → ℕ → Sized
sized t n r = record { tasks = t; words = n; refusal = r }

unfoldable pub refusal_of : Sized → ℕ
refusal_of s = (opening s.tasks (replicate s.words 7)).refusal

unfoldable pub openings : List Sized
openings = sized 0 66 1 ∷ sized 9 66 1 ∷ sized 8 66 0 ∷ sized 1 (66 * 1024) 0 ∷ sized 1 (66 * 1025) 3 ∷ sized 1 0 3 ∷ sized 1 65 3 ∷ sized 0 0 1 ∷ []

pub openings_hold : map refusal_of openings ≡ map (λ s. s.refusal) openings
unfolding everything refusal_of openings
openings_hold = refl
