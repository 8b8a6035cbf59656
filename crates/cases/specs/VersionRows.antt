-- Rows of sets of version 2 (paper 02, U3): tags whose first digits agree share a place at every size, lines 13, 16, 17, 33, 49 and the
-- listing go by tag div 10, line 43 by the place's number; the opening's 11 comes after 3 (another version in the state: SpoiltRows). The
-- crowded set, and the rows that have a name, are in EditRows of `spec`. Assumes nothing.
use Rattle.std.specs.Prelude.{◌≡◌, refl, List, [], ◌∷◌, ◌++◌, map, Ok}
use Rattle.spec.specs.declared.Answer.TheVariants.{Yes}
use Rattle.spec.specs.declared.Call.TheVariants.{Insert, Remove, Contains, Grow}
use Rattle.spec.specs.declared.Progress.TheVariants.{At}
use Rattle.spec.specs.Machine.{config_of, with_version}
use Rattle.spec.specs.Everything.{everything}
use Rattle.spec.specs.Rows.{Case, observed, expected, stepping, calling, ended, counted, in_three, gaining, filling, first_grow}
use Rattle.spec.specs.WholeRows.{call◌tag◌line◌i◌own◌t◌s◌b◌m◌n◌new_node◌new_bucket◌, Row, told, stepped, keeps}
use Rattle.spec.specs.EditRows.{version_2, crowded, line_16_by_key, line_49_by_key, crowded_rows}
use Rattle.spec.specs.EditEntryRows.{opened}
use Rattle.cases.specs.EntryRows.{not_opened_by}

-- ---- whole schedules

unfoldable pub version_cases : List Case
version_cases =
    -- paper 01's whole case, in version 2
    record {
      config = version_2 1;
      nodes = 3;
      buckets = 4;
      events = calling 0 Insert 17 3 ++ calling 0 Grow 0 7 ++ calling 0 Contains 17 5;
      outs = in_three (counted Yes 3 1) ++ first_grow ++ Ok (At 12) ∷ Ok (At 13) ∷ Ok (At 15) ∷ Ok (At 16) ∷ Ok (At 18) ∷ ended Yes 5 ∷ [];
      head = 1;
      size = 2;
      tags = 17 ∷ [];
    }
    ∷
    -- the remove of 170 fills place 1, with 171 in it, so that 171 is found in place
    record {
      config = version_2 1;
      nodes = 2;
      buckets = 2;
      events = calling 0 Insert 170 3 ++ calling 0 Insert 171 3 ++ calling 0 Grow 0 7 ++ calling 0 Remove 170 10 ++ calling 0 Contains 171 3;
      outs =
          gaining 0 2 ++ first_grow
          ++ Ok (At 32) ∷ Ok (At 33) ∷ Ok (At 39) ∷ filling ++ Ok (At 36) ∷ counted Yes 10 1
          ∷ Ok (At 12) ∷ Ok (At 13) ∷ Ok (At 18) ∷ ended Yes 3 ∷ [];
      head = 1;
      size = 2;
      tags = 171 ∷ [];
    }
    ∷ []

pub version_cases_hold : map observed version_cases ≡ map expected version_cases
unfolding everything expected observed stepping calling in_three gaining filling first_grow version_2 version_cases
version_cases_hold = refl

-- ---- lines, in the crowded set of EditRows of `spec`

unfoldable pub version_rows : List Row
version_rows =
    -- 51 has place 1 of node 1, 30 place 1 of node 0
    keeps crowded
    (call 3 tag 51 line 13 i 0 own 1 t 2 s 0 b 0 m 0 n 0 new_node 0 new_bucket 0)
    (call 3 tag 51 line 18 i 0 own 2 t 2 s 0 b 3 m 0 n 0 new_node 0 new_bucket 0)
    ∷ line_16_by_key
    ∷ keeps crowded
    (call 3 tag 51 line 17 i 0 own 3 t 2 s 0 b 0 m 0 n 0 new_node 0 new_bucket 0)
    (call 3 tag 51 line 18 i 0 own 4 t 2 s 0 b 3 m 0 n 0 new_node 0 new_bucket 0)
    -- 50 has place 1 of node 1, which is filled, 30 place 3, which is empty
    ∷ keeps crowded
    (call 1 tag 50 line 33 i 0 own 1 t 2 s 0 b 0 m 0 n 0 new_node 0 new_bucket 0)
    (call 1 tag 50 line 36 i 0 own 2 t 2 s 0 b 3 m 0 n 0 new_node 0 new_bucket 0)
    ∷ keeps crowded
    (call 1 tag 30 line 33 i 0 own 1 t 2 s 0 b 0 m 0 n 0 new_node 0 new_bucket 0)
    (call 1 tag 30 line 39 i 3 own 2 t 2 s 0 b 0 m 0 n 0 new_node 0 new_bucket 0)
    -- line 43 takes a place's number mod 2, and no tag's
    ∷ keeps crowded
    (call 1 tag 30 line 43 i 10 own 4 t 2 s 1 b 0 m 0 n 0 new_node 0 new_bucket 0)
    (call 1 tag 30 line 44 i 10 own 5 t 2 s 1 b 0 m 1 n 0 new_node 0 new_bucket 0)
    ∷ line_49_by_key
    ∷ []

pub version_rows_hold : map stepped version_rows ≡ map told version_rows
unfolding everything crowded_rows version_rows
version_rows_hold = refl

-- ---- openings: 1, 2 and 3 come before 11

pub eleven_last :
    opened (with_version 3 (config_of 9)) 34 66 ∷ opened (with_version 3 (config_of 2)) 35 66 ∷ opened (with_version 3 (config_of 2)) 34 67
    ∷ opened (with_version 3 (config_of 2)) 34 66 ∷ []
    ≡ not_opened_by 1 34 66 ∷ not_opened_by 2 35 66 ∷ not_opened_by 3 34 67 ∷ not_opened_by 11 34 66 ∷ []
unfolding everything opened not_opened_by
eleven_last = refl

-- a state of all zeros
pub zero_version : (opened (with_version 3 (config_of 2)) 34 66).machine.state.config.version ≡ 0
unfolding everything opened
zero_version = refl
