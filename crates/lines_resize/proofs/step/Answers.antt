use Rattle.std.proofs.Common.{◌≡◌, arith}
use Rattle.spec.specs.Lists.{member}
use Rattle.lines.proofs.Running.{numbers}
use Rattle.lines_resize.proofs.step.Goals as goal

pub line20-requires : goal.line20-requires
line20-requires c = let n = numbers c.requires.1 in (n.number, c.in-20.is, n.head)

pub line24-requires : goal.line24-requires
line24-requires c = let n = numbers c.requires.1 in (n.number, c.in-24.is)

pub line27-requires : goal.line27-requires
line27-requires c = let n = numbers c.requires.1 in (n.number, c.in-27.is, n.head, n.nodes, n.last_node, n.nodes_length)

-- the last is line 28, since no other of the procedure is left
pub line28-requires : goal.line28-requires
unfolding member
line28-requires c =
    let n = numbers c.requires.1 in
    let at : c.args.c.line ≡ 28 = grind (arith, c.requires.1.at_line) in
    (n.number, at, n.head)
