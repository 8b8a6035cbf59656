-- A whole schedule of the cooperative bucket as words, for callers outside Rattle: which of its events are run, and what is left of every
-- slice. Assumes nothing.
use Rattle.std.specs.Prelude.{ℕ, ◌+◌, ◌/◌, min, List, eqb, length, if◌then◌else◌}
use Rattle.spec.specs.Lists.{concat_map}
use Rattle.spec.specs.Words.{overwrite}
use Rattle.coop_spec.specs.Numbers.{output_words}
use Rattle.coop_spec.specs.Machine.{Machine, machine_of}
use Rattle.coop_spec.specs.Entries.{opening}
use Rattle.coop_spec.specs.Schedule.{Event, schedule}
use Rattle.coop_words.specs.Events.{events_of}
use Rattle.coop_schedule.specs.declared.Outcome.{Outcome}

-- the events that are run: as many as there are whole events, and as have room for their outputs, four words each
unfoldable pub decoded : List ℕ → List ℕ → List Event
decoded events outs = events_of (min (length events / 4) (length outs / 4)) events

pub record Result : Type 0 where
  -- of the opening, 0 if accepted
  pub refusal : ℕ
  -- the number of events run
  pub ran : ℕ
  pub machine : Machine
  pub outs : List ℕ

-- T, and what the slices hold before: the versions, the events, the words for outputs. The outputs are written one after the other from
-- the first word on; the words after them are kept. After a refused opening no event is run.
unfoldable pub run_words : ℕ → List ℕ → List ℕ → List ℕ → Result
run_words t vs events outs =
    let r = schedule t vs (decoded events outs) in
    record {
      refusal = (opening t vs).refusal;
      ran = length r.outs;
      machine = r.machine;
      outs = overwrite outs 0 (concat_map output_words r.outs);
    }

-- the answer of the code, with what it leaves in two slices
abbrev pub result_of : Outcome → List ℕ → List ℕ → Result
result_of r vs outs = record { refusal = r.refusal; ran = r.ran; machine = machine_of r.state vs; outs = outs }

-- ---- the same for C, where the answer is one number: of the bucket's version, or 1,024 and the refusal's

pub record CResult : Type 0 where
  pub number : ℕ
  pub versions : List ℕ
  pub outs : List ℕ

abbrev pub c_result_of : Result → CResult
c_result_of r =
    record {
      number = if eqb r.refusal 0 then r.machine.state.node else 1024 + r.refusal;
      versions = r.machine.versions;
      outs = r.outs;
    }

abbrev pub c_result : ℕ → List ℕ → List ℕ → CResult
c_result n vs outs = record { number = n; versions = vs; outs = outs }
