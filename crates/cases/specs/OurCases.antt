-- Further cases, ours and not paper 01's: bounds of the opening and the list, and schedules that tell wrong definitions from right
-- ones where the table of the P cases does not. Again every output of a row is given. Assumes nothing.
use Rattle.std.specs.Prelude.{ℕ, ◌*◌, ◌≡◌, refl, List, [], ◌∷◌, ◌++◌, map, replicate, Ok, Err}
use Rattle.spec.specs.declared.Refusal.TheVariants.{NoRecord, ShortList}
use Rattle.spec.specs.declared.Answer.TheVariants.{Yes, No, Done, Lost}
use Rattle.spec.specs.declared.Call.TheVariants.{Insert, Remove, Contains, Grow, Shrink}
use Rattle.spec.specs.Outputs.{Output, Listing}
use Rattle.spec.specs.declared.Progress.TheVariants.{At}
use Rattle.spec.specs.Machine.{config_of}
use Rattle.spec.specs.Entries.{opening, list}
use Rattle.spec.specs.Everything.{everything}
use Rattle.spec.specs.Rows.{Case, expected, observed, stepping, calling, times, in_three, gaining, ended, counted, filling, first_grow, grow_to_24}
use Rattle.spec.specs.Rows.{grow_filling}

-- ---- openings: T, the pools' words, and the refusal (the bounds of the bucket pool, 67,584 words and more, are in Bounds)

pub record Sized : Type 0 where
  pub tasks : ℕ
  pub node_words : ℕ
  pub bucket_words : ℕ
  pub refusal : ℕ

abbrev pub sized : ℕ → ℕ → ℕ → ℕ → Sized
sized t n b r = record { tasks = t; node_words = n; bucket_words = b; refusal = r }

unfoldable pub refusal_of : Sized → ℕ
refusal_of s = (opening (config_of s.tasks) (replicate s.node_words 7) (replicate s.bucket_words 7)).refusal

unfoldable pub openings : List Sized
openings =
    sized 0 34 66 1 ∷ sized 9 34 66 1 ∷ sized 8 34 66 0
    ∷ sized 1 (34 * 64) 66 0 ∷ sized 1 (34 * 65) 66 2 ∷ sized 1 0 66 2 ∷ sized 1 35 66 2
    ∷ sized 1 34 (66 * 2) 0 ∷ sized 1 34 0 3 ∷ sized 1 34 65 3 ∷ []

pub openings_hold : map refusal_of openings ≡ map (λ s. s.refusal) openings
unfolding everything refusal_of openings
openings_hold = refl

-- ---- lists of 64 and 63 words

unfoldable pub listing : ℕ → Listing
listing n = (list (opening (config_of 1) (replicate 34 7) (replicate 66 7)).machine (replicate n 7)).says

pub listings : map listing (64 ∷ 63 ∷ []) ≡ Ok 0 ∷ Err ShortList ∷ []
unfolding everything listing
listings = refl

-- ---- schedules

-- an insert of a tag whose place is empty, up to the output of line 48 (so before 49), and to its end
unfoldable pub insert_to_49 : List Output
insert_to_49 = Ok (At 32) ∷ Ok (At 33) ∷ Ok (At 39) ∷ Ok (At 40) ∷ Ok (At 43) ∷ Ok (At 44) ∷ Ok (At 49) ∷ []

unfoldable pub insert_filling : Output → List Output
insert_filling end = Ok (At 32) ∷ Ok (At 33) ∷ Ok (At 39) ∷ filling ++ Ok (At 36) ∷ end ∷ []

unfoldable pub grow_to_28 : List Output
grow_to_28 = Ok (At 20) ∷ Ok (At 39) ∷ Ok (At 40) ∷ Ok (At 51) ∷ Ok (At 24) ∷ Ok (At 27) ∷ Ok (At 28) ∷ []

unfoldable pub ours : List Case
ours =
    -- a contains at 15 whose node has lost its predecessor reads its place again at 17
    record {
      config = config_of 2;
      nodes = 2;
      buckets = 3;
      events = calling 0 Insert 5 3 ++ calling 0 Grow 0 7 ++ calling 1 Contains 5 2 ++ calling 0 Grow 0 16 ++ stepping 1 3;
      outs = in_three (counted Yes 3 1) ++ first_grow ++ Ok (At 12) ∷ Ok (At 13) ∷ Ok (At 15) ∷ grow_to_24 1 ++ Ok (At 27) ∷ Ok (At 17) ∷ Ok (At 18) ∷ ended Yes 5 ∷ [];
      head = 1;
      size = 2;
      tags = 5 ∷ [];
    }
    ∷
    -- the same after the head has moved twice: 17 reads t's place, not the head's
    record {
      config = config_of 2;
      nodes = 3;
      buckets = 3;
      events = calling 0 Insert 5 3 ++ calling 0 Grow 0 7 ++ calling 1 Contains 5 2 ++ calling 0 Grow 0 18 ++ stepping 1 3;
      outs = in_three (counted Yes 3 1) ++ first_grow ++ Ok (At 12) ∷ Ok (At 13) ∷ Ok (At 15) ∷ grow_filling 1 18 ++ Ok (At 17) ∷ Ok (At 18) ∷ ended Yes 5 ∷ [];
      head = 2;
      size = 4;
      tags = 5 ∷ [];
    }
    ∷
    -- a shrink from 2 to 1; the remove then merges the two buckets, freezing one in each step
    record {
      config = config_of 1;
      nodes = 2;
      buckets = 3;
      events = calling 0 Insert 4 3 ++ calling 0 Insert 7 3 ++ calling 0 Grow 0 7 ++ calling 0 Shrink 0 18 ++ calling 0 Remove 4 12;
      outs =
          gaining 0 2 ++ first_grow ++ grow_filling 1 18
          ++ Ok (At 32) ∷ Ok (At 33) ∷ Ok (At 39)
          ∷ Ok (At 40) ∷ Ok (At 46) ∷ Ok (At 47) ∷ Ok (At 48) ∷ Ok (At 52) ∷ Ok (At 49) ∷ Ok (At 50) ∷ Ok (At 51) ∷ Ok (At 36) ∷ counted Yes 12 1 ∷ [];
      head = 0;
      size = 1;
      tags = 7 ∷ [];
    }
    ∷
    -- between lines 48 and 52 only m is frozen: task 1's insert into n, which waited at 36, still goes in, and task 0's merge has it
    record {
      config = config_of 2;
      nodes = 3;
      buckets = 4;
      events = calling 0 Grow 0 7 ++ calling 0 Shrink 0 17 ++ calling 1 Insert 1 2 ++ stepping 0 1 ++ calling 0 Insert 2 7 ++ stepping 1 1 ++ stepping 0 5;
      outs =
          first_grow ++ grow_to_24 1 ++ Ok (At 27) ∷ Ok (At 28)
          ∷ Ok (At 32) ∷ Ok (At 33) ∷ Ok (At 36)
          ∷ ended Done 18
          ∷ Ok (At 32) ∷ Ok (At 33) ∷ Ok (At 39) ∷ Ok (At 40) ∷ Ok (At 46) ∷ Ok (At 47) ∷ Ok (At 48) ∷ Ok (At 52)
          ∷ counted Yes 3 1
          ∷ Ok (At 49) ∷ Ok (At 50) ∷ Ok (At 51) ∷ Ok (At 36) ∷ counted Yes 12 2 ∷ [];
      head = 2;
      size = 1;
      tags = 1 ∷ 2 ∷ [];
    }
    ∷
    -- and m is frozen then: task 1's insert into m, which waited at 36, goes back to 32
    record {
      config = config_of 2;
      nodes = 3;
      buckets = 4;
      events = calling 0 Grow 0 7 ++ calling 0 Shrink 0 17 ++ calling 1 Insert 2 2 ++ stepping 0 1 ++ calling 0 Insert 4 7 ++ stepping 1 1 ++ stepping 0 5
          ++ stepping 1 3;
      outs =
          first_grow ++ grow_to_24 1 ++ Ok (At 27) ∷ Ok (At 28)
          ∷ Ok (At 32) ∷ Ok (At 33) ∷ Ok (At 36)
          ∷ ended Done 18
          ∷ Ok (At 32) ∷ Ok (At 33) ∷ Ok (At 39) ∷ Ok (At 40) ∷ Ok (At 46) ∷ Ok (At 47) ∷ Ok (At 48) ∷ Ok (At 52)
          ∷ Ok (At 32)
          ∷ Ok (At 49) ∷ Ok (At 50) ∷ Ok (At 51) ∷ Ok (At 36) ∷ counted Yes 12 1
          ∷ Ok (At 33) ∷ Ok (At 36) ∷ counted Yes 6 2 ∷ [];
      head = 2;
      size = 1;
      tags = 2 ∷ 4 ∷ [];
    }
    ∷
    -- two grows: the second to come to 28 ends lost
    record {
      config = config_of 2;
      nodes = 3;
      buckets = 1;
      events = calling 0 Grow 0 6 ++ calling 1 Grow 0 6 ++ stepping 1 1 ++ stepping 0 1;
      outs = times 2 grow_to_28 ++ ended Done 7 ∷ ended Lost 7 ∷ [];
      head = 2;
      size = 2;
      tags = [];
    }
    ∷
    -- task 0 at 33 holds node 0, so a second grow finds no node
    record {
      config = config_of 2;
      nodes = 2;
      buckets = 3;
      events = calling 0 Insert 5 1 ++ calling 1 Grow 0 7 ++ calling 1 Grow 0 17 ++ stepping 0 1;
      outs = Ok (At 32) ∷ Ok (At 33) ∷ first_grow ++ grow_to_24 1 ++ Ok (At 27) ∷ Err NoRecord ∷ Ok (At 36) ∷ [];
      head = 1;
      size = 2;
      tags = [];
    }
    ∷
    -- task 0's new bucket is held before it is placed
    record {
      config = config_of 2;
      nodes = 2;
      buckets = 2;
      events = calling 0 Grow 0 7 ++ calling 0 Insert 5 6 ++ calling 1 Insert 5 6 ++ stepping 0 1 ++ stepping 1 1;
      outs = first_grow ++ times 2 insert_to_49 ++ Ok (At 50) ∷ Err NoRecord ∷ [];
      head = 1;
      size = 2;
      tags = [];
    }
    ∷
    -- the predecessor's buckets are held
    record {
      config = config_of 1;
      nodes = 2;
      buckets = 3;
      events = calling 0 Grow 0 7 ++ calling 0 Grow 0 18 ++ calling 0 Insert 0 10 ++ calling 0 Insert 1 7;
      outs = first_grow ++ grow_filling 1 18 ++ insert_filling (counted Yes 10 1) ++ insert_to_49 ++ Err NoRecord ∷ [];
      head = 0;
      size = 4;
      tags = 0 ∷ [];
    }
    ∷
    -- two tasks fill one place: the second bucket is not placed
    record {
      config = config_of 2;
      nodes = 2;
      buckets = 3;
      events = calling 0 Grow 0 7 ++ calling 0 Insert 5 7 ++ calling 1 Insert 5 7 ++ stepping 0 3 ++ stepping 1 3;
      outs =
          first_grow ++ times 2 (insert_to_49 ++ Ok (At 50) ∷ [])
          ++ Ok (At 51) ∷ Ok (At 36) ∷ counted Yes 10 1 ∷ Ok (At 51) ∷ Ok (At 36) ∷ counted No 10 1 ∷ [];
      head = 1;
      size = 2;
      tags = 5 ∷ [];
    }
    ∷
    -- the head's predecessor is held, besides task 0's node
    record {
      config = config_of 2;
      nodes = 3;
      buckets = 3;
      events = calling 0 Grow 0 5 ++ calling 1 Grow 0 7 ++ calling 1 Grow 0 18 ++ stepping 0 1;
      outs = Ok (At 20) ∷ Ok (At 39) ∷ Ok (At 40) ∷ Ok (At 51) ∷ Ok (At 24) ∷ Ok (At 27) ∷ first_grow ++ grow_filling 1 18 ++ Err NoRecord ∷ [];
      head = 2;
      size = 4;
      tags = [];
    }
    ∷
    -- node 2 was taken last and is free: node 0 is taken before it
    record {
      config = config_of 2;
      nodes = 3;
      buckets = 3;
      events = calling 0 Grow 0 6 ++ calling 1 Grow 0 6 ++ stepping 0 1 ++ stepping 1 1 ++ calling 0 Grow 0 18;
      outs = times 2 grow_to_28 ++ ended Done 7 ∷ ended Lost 7 ∷ grow_filling 1 18;
      head = 0;
      size = 4;
      tags = [];
    }
    ∷ []

pub ours_hold : map observed ours ≡ map expected ours
unfolding everything expected observed stepping calling times in_three gaining filling first_grow grow_to_24 grow_filling insert_to_49 insert_filling
    grow_to_28 ours
ours_hold = refl
