-- `reader_state::comparing::print_listed` meets its contract: past the listing's end nothing is printed. Assumes nothing.
use Rattle.std.proofs.Common.{◌≡◌, ◌≢◌, ◌-◌, false, ltb, length, sym, refl, ne_eqb, arith}
use Rattle.session.specs.Buffer.{append}
use Rattle.reader_state.specs.ListedLines.{listed_line}
use Rattle.reader_state.proofs.comparing.print_listed.Goals as goal

pub returns-in_default-get : goal.returns-in_default-get
unfolding listed_line append
returns-in_default-get c =
    let past : ltb (c.args.k - 2) (length c.args.ts.now) ≡ false = sym c.in_default-get.ensures.lookup.0 in
    let z : c.args.k ≢ 0 = omega (arith, c.in_default) in
    let o : c.args.k ≢ 1 = omega (arith, c.in_default) in
    rw (ne_eqb c.args.k 0 z, ne_eqb c.args.k 1 o, past) (record { same = refl; shows = refl })
