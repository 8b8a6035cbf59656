-- "The cases marked P stand together as one table proved from the definitions by one statement": `table_holds`. What a row is made
-- of stands in spec/specs/Rows. Assumes nothing.
use Rattle.std.specs.Prelude.{◌≡◌, refl, List, [], ◌∷◌, ◌++◌, map, Ok, Err}
use Rattle.spec.specs.declared.Refusal.TheVariants.{NoTask, Running, Idle, NoRecord}
use Rattle.spec.specs.declared.Answer.TheVariants.{Yes, No, Full, Done, Limit}
use Rattle.spec.specs.declared.Call.TheVariants.{Insert, Remove, Contains, Grow, Shrink}
use Rattle.spec.specs.declared.Progress.TheVariants.{At}
use Rattle.spec.specs.Lists.{range}
use Rattle.spec.specs.Machine.{config_of}
use Rattle.spec.specs.Schedule.{starts, steps}
use Rattle.spec.specs.Everything.{everything}
use Rattle.spec.specs.Rows.{Case, expected, observed, stepping, calling, inserting, times, in_three, gaining, ended, counted, filling, first_grow}
use Rattle.spec.specs.Rows.{grow_to_24, grow_filling, waiting, waiting_outs}

unfoldable pub table : List Case
table =
    -- the whole case
    record {
      config = config_of 1;
      nodes = 3;
      buckets = 4;
      events = calling 0 Insert 17 3 ++ calling 0 Grow 0 7 ++ calling 0 Contains 17 5;
      outs =
          Ok (At 32) ∷ Ok (At 33) ∷ Ok (At 36) ∷ counted Yes 3 1
          ∷ Ok (At 20) ∷ Ok (At 39) ∷ Ok (At 40) ∷ Ok (At 51) ∷ Ok (At 24) ∷ Ok (At 27) ∷ Ok (At 28) ∷ ended Done 7
          ∷ Ok (At 12) ∷ Ok (At 13) ∷ Ok (At 15) ∷ Ok (At 16) ∷ Ok (At 18) ∷ ended Yes 5 ∷ [];
      head = 1;
      size = 2;
      tags = 17 ∷ [];
    }
    ∷
    -- "grow at 32 .. end limit, own steps 1; grow at 16 .. go to 39"
    record {
      config = config_of 1;
      nodes = 2;
      buckets = 24;
      events =
          calling 0 Grow 0 7 ++ calling 0 Grow 0 18 ++ calling 0 Grow 0 32 ++ calling 0 Grow 0 60
          ++ calling 0 Grow 0 116 ++ calling 0 Grow 0 1;
      outs =
          first_grow ++ grow_filling 1 18 ++ grow_filling 3 32 ++ grow_filling 7 60
          ++ grow_filling 15 116 ++ Ok (At 20) ∷ ended Limit 1 ∷ [];
      head = 1;
      size = 32;
      tags = [];
    }
    ∷
    -- "shrink at 1 end limit, own steps 1; .. shrink at 2 go to 39"
    record {
      config = config_of 1;
      nodes = 2;
      buckets = 1;
      events = calling 0 Shrink 0 1 ++ calling 0 Grow 0 7 ++ calling 0 Shrink 0 1;
      outs = Ok (At 20) ∷ ended Limit 1 ∷ first_grow ++ Ok (At 20) ∷ Ok (At 39) ∷ [];
      head = 1;
      size = 2;
      tags = [];
    }
    ∷
    -- "with 64 tags insert ends full; after a remove it ends yes", as paper 02, U1, changes it: of a tag that is inside it ends no
    record {
      config = config_of 1;
      nodes = 1;
      buckets = 1;
      events = inserting 1 64 ++ calling 0 Insert 65 3 ++ calling 0 Insert 1 3 ++ calling 0 Remove 1 3 ++ calling 0 Insert 65 3;
      outs = gaining 0 64 ++ in_three (counted Full 3 64) ++ in_three (counted No 3 64) ++ in_three (counted Yes 3 63) ++ in_three (counted Yes 3 64);
      head = 0;
      size = 1;
      tags = range 2 64;
    }
    ∷
    -- "one node, one task: grow stops at 27 with 7"
    record {
      config = config_of 1;
      nodes = 1;
      buckets = 1;
      events = calling 0 Grow 0 7;
      outs = Ok (At 20) ∷ Ok (At 39) ∷ Ok (At 40) ∷ Ok (At 51) ∷ Ok (At 24) ∷ Ok (At 27) ∷ Err NoRecord ∷ Err NoRecord ∷ [];
      head = 0;
      size = 1;
      tags = [];
    }
    ∷
    -- "Two nodes, three buckets: a second grow takes node 0 again."
    record {
      config = config_of 1;
      nodes = 2;
      buckets = 3;
      events = calling 0 Grow 0 7 ++ calling 0 Grow 0 18;
      outs =
          first_grow
          ++ Ok (At 20) ∷ Ok (At 39)
          ∷ Ok (At 40) ∷ Ok (At 43) ∷ Ok (At 44) ∷ Ok (At 49) ∷ Ok (At 50) ∷ Ok (At 51) ∷ Ok (At 39)
          ∷ Ok (At 40) ∷ Ok (At 43) ∷ Ok (At 44) ∷ Ok (At 49) ∷ Ok (At 50) ∷ Ok (At 51) ∷ Ok (At 24)
          ∷ Ok (At 27) ∷ Ok (At 28) ∷ ended Done 18 ∷ [];
      head = 0;
      size = 4;
      tags = [];
    }
    ∷
    -- "task 0's insert of 5 waits at 36 on bucket 0. Task 1 grows, then inserts 5: yes, own steps 10. Task 0 goes to 32 and ends no,
    -- own steps 6."
    record {
      config = config_of 2;
      nodes = 2;
      buckets = 3;
      events = waiting ++ calling 1 Insert 5 10 ++ stepping 0 4;
      outs =
          waiting_outs
          ++ Ok (At 32) ∷ Ok (At 33) ∷ Ok (At 39) ∷ Ok (At 40) ∷ Ok (At 43) ∷ Ok (At 44) ∷ Ok (At 49) ∷ Ok (At 50) ∷ Ok (At 51) ∷ Ok (At 36) ∷ counted Yes 10 1
          ∷ Ok (At 32) ∷ Ok (At 33) ∷ Ok (At 36) ∷ counted No 6 1 ∷ [];
      head = 1;
      size = 2;
      tags = 5 ∷ [];
    }
    ∷
    -- "Had task 0 stepped before line 44, it ends yes and task 1 no."
    record {
      config = config_of 2;
      nodes = 2;
      buckets = 3;
      events = waiting ++ calling 1 Insert 5 5 ++ stepping 0 1 ++ stepping 1 5;
      outs =
          waiting_outs
          ++ Ok (At 32) ∷ Ok (At 33) ∷ Ok (At 39) ∷ Ok (At 40) ∷ Ok (At 43) ∷ Ok (At 44)
          ∷ counted Yes 3 1
          ∷ Ok (At 49) ∷ Ok (At 50) ∷ Ok (At 51) ∷ Ok (At 36) ∷ counted No 10 1 ∷ [];
      head = 1;
      size = 2;
      tags = 5 ∷ [];
    }
    ∷
    -- "start twice 5; idle step 6; task 8 of 8 is 4; tags 0 and 4,294,967,295 go in"
    record {
      config = config_of 8;
      nodes = 1;
      buckets = 1;
      events =
          starts 0 Insert 0 ∷ starts 0 Insert 0 ∷ steps 1 ∷ steps 8 ∷ starts 8 Grow 0 ∷ []
          ++ stepping 0 3 ++ calling 7 Insert 4294967295 3;
      outs =
          Ok (At 32) ∷ Err Running ∷ Err Idle ∷ Err NoTask ∷ Err NoTask
          ∷ Ok (At 33) ∷ Ok (At 36) ∷ counted Yes 3 1 ∷ Ok (At 32) ∷ Ok (At 33) ∷ Ok (At 36) ∷ counted Yes 3 2 ∷ [];
      head = 0;
      size = 1;
      tags = 0 ∷ 4294967295 ∷ [];
    }
    ∷ []

pub table_holds : map observed table ≡ map expected table
unfolding everything expected observed stepping calling inserting in_three gaining times filling first_grow grow_to_24 grow_filling waiting waiting_outs table
table_holds = refl
