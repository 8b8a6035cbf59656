-- The contract of `queries::list`: a count is at most 64, and so many of the words are the tags.
use Rattle.std.proofs.Common.{sym, arith, replicate}
use Rattle.std.proofs.Math.Seq.{length-take-le}
use Rattle.session_lines.proofs.Laws.{few_listed, lists_count, lists_refused}
use Rattle.session_lines.proofs.events.list_tags.Goals as goal

pub slice_bounds-w-end : goal.slice_bounds-w-end
slice_bounds-w-end c =
    let l = c.list in
    let few = few_listed _ _ c.in-Ok.n l.result l.ensures.0 c.in-Ok.is in
    omega (arith, few, l.auto.out)

pub slice_bounds-listing-end : goal.slice_bounds-listing-end
slice_bounds-listing-end c =
    let l = c.list in
    let few = few_listed _ _ c.in-Ok.n l.result l.ensures.0 c.in-Ok.is in
    sym (length-take-le c.in-Ok.n l.new.out (omega (arith, few, l.auto.out)))

pub returns-in-Ok : goal.returns-in-Ok
returns-in-Ok c =
    let p = c.args in
    let a = c.node_extent-a in
    let b = c.bucket_extent-b in
    let l = c.list in
    record {
      same = c.listing.ensures.same;
      shows = lists_count p.s p.ns.now p.bs.now a.result b.result a.ensures.0 b.ensures.0 l.result (replicate 64 0) l.new.out l.ensures.0 l.ensures.1
          c.in-Ok.n c.node_size-size.result _ _ c.in-Ok.is c.node_size-size.ensures c.listing.ensures.shows;
    }

pub returns-in-Err : goal.returns-in-Err
returns-in-Err c =
    let p = c.args in
    let a = c.node_extent-a in
    let b = c.bucket_extent-b in
    let l = c.list in
    record {
      same = c.refusal.ensures.same;
      shows = lists_refused p.s p.ns.now p.bs.now a.result b.result a.ensures.0 b.ensures.0 l.result (replicate 64 0) l.new.out l.ensures.0 l.ensures.1
          c.in-Err.why _ _ c.in-Err.is (rw (← c.number.ensures) c.refusal.ensures.shows);
    }
