-- `merge::merge` meets its contract: the search begins with two lists that fit and an empty set, and what it gives is what is said.
-- Assumes nothing.
use Rattle.std.proofs.lemmas.Result.{err_from_is_err_and}
use Rattle.merge.proofs.MergeLaws.{refused_first, refused_second, begins, says}
use Rattle.merge.proofs.merge.Goals as goal

pub returns-in_err-a : goal.returns-in_err-a
returns-in_err-a c =
    let p = err_from_is_err_and c.from_residual.result c.from_residual.ensures.1 in
    let e = c.in_err-a.ensures in
    rw (p.1, p.2, e.0) (refused_first _ _ e.1)

pub returns-in_err-b : goal.returns-in_err-b
returns-in_err-b c =
    let p = err_from_is_err_and c.from_residual-in_err-b.result c.from_residual-in_err-b.ensures.1 in
    let e = c.in_err-b.ensures in
    rw (p.1, p.2, e.0) (refused_second _ _ e.1)

pub search-requires : goal.search-requires
search-requires c =
    let a = c.in_ok-a.ensures in
    let b = c.in_ok-b.ensures in
    rw (a.0, b.0) (begins _ _ a.1 b.1)

pub returns : goal.returns
returns c =
    let a = c.in_ok-a.ensures in
    let b = c.in_ok-b.ensures in
    says _ _ a.1 b.1 _ (rw (a.0, b.0) at c.search.ensures)
