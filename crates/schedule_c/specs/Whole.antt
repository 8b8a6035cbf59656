-- A whole schedule in one call for C, where the answer is one number: of tags listed, or 256 and the refusal's. Assumes nothing.
use Rattle.std.specs.Prelude.{ℕ, List}
use Rattle.schedule_events.specs.Events.{listing_number}
use Rattle.schedule.specs.Encoding.{Result}

pub record CResult : Type 0 where
  pub number : ℕ
  pub nodes : List ℕ
  pub buckets : List ℕ
  pub outs : List ℕ
  pub tags : List ℕ

abbrev pub c_result_of : Result → CResult
c_result_of r =
    record {
      number = listing_number r.listing;
      nodes = r.machine.nodes;
      buckets = r.machine.buckets;
      outs = r.outs;
      tags = r.tags;
    }

abbrev pub c_result : ℕ → List ℕ → List ℕ → List ℕ → List ℕ → CResult
c_result n ns bs outs tags = record { number = n; nodes = ns; buckets = bs; outs = outs; tags = tags }
