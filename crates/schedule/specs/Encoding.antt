-- A whole schedule as words, for callers outside Rattle: which of its events are run, and what is left of every slice.
-- Assumes nothing.
use Rattle.std.specs.Prelude.{ℕ, ◌+◌, ◌/◌, ◌≡◌, refl, min, Bool, true, false, not, List, eqb, length, if◌then◌else◌, Err}
use Rattle.std.proofs.Common.{ap, ne_eqb}
use Rattle.spec.specs.Outputs.{Listing}
use Rattle.spec.specs.declared.Config.{Config}
use Rattle.spec.specs.Lists.{concat_map}
use Rattle.spec.specs.Numbers.{output_words, refusal_number, refusal_numbered}
use Rattle.spec.specs.Machine.{Machine, machine_of, config_of, with_version, with_zero_withdrawn}
use Rattle.spec.specs.Words.{overwrite}
use Rattle.spec.specs.Sound.{within, version_known}
use Rattle.spec.specs.Entries.{pool_fits, not_opened, fresh_machine, Opened, opening, Written, list}
use Rattle.spec.specs.Schedule.{Event, schedule}
use Rattle.schedule_events.specs.Events.{events_of, listing_number}
use Rattle.schedule.specs.declared.Outcome.{Outcome}

-- ---- what an opening is given: T, the version, and the rule for tag 0: 0 the old one, any other number the new one

abbrev pub c_config : ℕ → ℕ → ℕ → Config
c_config t v z = with_zero_withdrawn (not (eqb z 0)) (with_version v (config_of t))

-- ---- the events that are run

-- as many as there are whole events, and as have room for their outputs, four words each
unfoldable pub room_for : List ℕ → List ℕ → ℕ
room_for events outs = min (length events / 4) (length outs / 4)

-- the events that are run
unfoldable pub decoded : List ℕ → List ℕ → List Event
decoded events outs = events_of (room_for events outs) events

-- ---- what a run leaves

pub record Result : Type 0 where
  -- of the opening, 0 if accepted
  pub refusal : ℕ
  -- the number of events run
  pub ran : ℕ
  pub machine : Machine
  pub outs : List ℕ
  pub listing : Listing
  pub tags : List ℕ

-- a list after an accepted opening; after a refused one nothing is written, and the opening's refusal stands for the list's
unfoldable pub list_opened : ℕ → Machine → List ℕ → Written
list_opened refusal y w = if eqb refusal 0 then list y w else record { says = Err (refusal_numbered refusal); words = w }

-- what the opening is given, and what the slices hold before: both pools, the events, the words for outputs and for tags. The outputs are written one
-- after the other from the first word on; the words after them are kept.
unfoldable pub run_words : Config → List ℕ → List ℕ → List ℕ → List ℕ → List ℕ → Result
run_words g ns bs events outs tags =
    let o = opening g ns bs in
    let r = schedule g ns bs (decoded events outs) in
    let l = list_opened o.refusal r.machine tags in
    record {
      refusal = o.refusal;
      ran = length r.outs;
      machine = r.machine;
      outs = overwrite outs 0 (concat_map output_words r.outs);
      listing = l.says;
      tags = l.words;
    }

-- the answer of the code, with what it leaves in four slices
abbrev pub result_of : Outcome → List ℕ → List ℕ → List ℕ → List ℕ → Result
result_of r ns bs outs tags =
    record {
      refusal = r.refusal;
      ran = r.ran;
      machine = machine_of r.state ns bs;
      outs = outs;
      listing = r.listing;
      tags = tags;
    }

-- ---- a refused opening's refusal stands for the list's with its own number

opening_numbered : (g : Config) (ns bs : List ℕ) → ¬ ((opening g ns bs).refusal ≡ 0)
    → refusal_number (refusal_numbered (opening g ns bs).refusal) ≡ (opening g ns bs).refusal
unfolding opening not_opened refusal_numbered
opening_numbered g ns bs = go (not (within 1 8 g.tasks)) (not (pool_fits 34 64 (length ns))) (not (pool_fits 66 1024 (length bs))) (not (version_known g))
  where
    given : Opened
    given = record { refusal = 0; machine = fresh_machine g (length ns / 34) (length bs / 66) }

    Numbered : Opened → Type 0
    Numbered o = ¬ (o.refusal ≡ 0) → refusal_number (refusal_numbered o.refusal) ≡ o.refusal

    go : (a b c d : Bool)
        → Numbered (if a then not_opened 1 ns bs else if b then not_opened 2 ns bs else if c then not_opened 3 ns bs else if d then not_opened 11 ns bs else given)
    go true b c d n = refl
    go false true c d n = refl
    go false false true d n = refl
    go false false false true n = refl
    go false false false false n = absurd (n refl)

pub refusal_listed : (g : Config) (ns bs events outs tags : List ℕ) → ¬ ((opening g ns bs).refusal ≡ 0)
    → listing_number (run_words g ns bs events outs tags).listing ≡ 256 + (opening g ns bs).refusal
unfolding run_words list_opened
refusal_listed g ns bs events outs tags d = rw (ne_eqb (opening g ns bs).refusal 0 d) (ap (λ (n : ℕ). 256 + n) (opening_numbered g ns bs d))
