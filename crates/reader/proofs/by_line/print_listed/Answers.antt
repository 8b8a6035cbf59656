-- `reader::by_line::print_listed` meets its contract. The contract of `queries::list`: a count is at most 64, and so many of the words are the tags;
-- and the line at the place. Assumes nothing.
use Rattle.std.proofs.Common.{refl, sym, arith, length-take-le}
use Rattle.session_lines.proofs.Laws.{few_listed}
use Rattle.reader.proofs.Places.{prints_counted, prints_refused, prints_none}
use Rattle.reader.proofs.by_line.print_listed.Goals as goal

pub slice_bounds-w-end : goal.slice_bounds-w-end
slice_bounds-w-end c =
    let l = c.list-listed in
    omega (arith, few_listed _ _ c.in-Ok.n l.result l.ensures.0 c.in-Ok.is, l.auto.out)

pub slice_bounds-print_listed-end : goal.slice_bounds-print_listed-end
slice_bounds-print_listed-end c =
    let l = c.list-listed in
    let n = c.in-Ok.n in
    let few = few_listed _ _ n l.result l.ensures.0 c.in-Ok.is in
    sym (length-take-le n l.new.out (omega (arith, few, l.auto.out)))

pub returns-then-k-eq0 : goal.returns-then-k-eq0
returns-then-k-eq0 c =
    let a = c.args in
    let nodes = c.node_extent-a in
    let buckets = c.bucket_extent-b in
    let l = c.list-listed in
    record {
      same = c.refusal.ensures.same;
      shows = prints_refused a.r a.ns.now a.bs.now nodes.result buckets.result nodes.ensures.0 buckets.ensures.0 l.result l.ensures.0
          c.in-Err.why a.k _ _ c.in-Err.is c.if-k-eq0.true (rw (← c.number.ensures) c.refusal.ensures.shows);
    }

pub returns-in-Ok : goal.returns-in-Ok
returns-in-Ok c =
    let a = c.args in
    let nodes = c.node_extent-a in
    let buckets = c.bucket_extent-b in
    let l = c.list-listed in
    record {
      same = c.print_listed.ensures.same;
      shows = prints_counted a.r a.ns.now a.bs.now nodes.result buckets.result nodes.ensures.0 buckets.ensures.0 l.result l.ensures.0
          l.new.out l.ensures.1 c.in-Ok.n a.k c.node_size-size.result _ _ c.in-Ok.is c.node_size-size.ensures c.print_listed.ensures.shows;
    }

pub returns-else-k-eq0 : goal.returns-else-k-eq0
returns-else-k-eq0 c =
    let a = c.args in
    let nodes = c.node_extent-a in
    let buckets = c.bucket_extent-b in
    let l = c.list-listed in
    record {
      same = refl;
      shows = prints_none a.r a.ns.now a.bs.now nodes.result buckets.result nodes.ensures.0 buckets.ensures.0 l.result l.ensures.0
          c.in-Err.why a.k _ c.in-Err.is c.if-k-eq0.false;
    }
