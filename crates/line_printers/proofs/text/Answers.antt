-- `line_printers::text` meets its contract: the input is read, and its end printed. Assumes nothing.
use native.Mathlib.Omega.{arith}
use Rattle.session.specs.BufferLaws.{append_within}
use Rattle.session_lines.specs.BufferParts.{rest_length}
use Rattle.stdio.specs.Streams.{stream_ends}
use Rattle.line_printers.proofs.Laws.{ended}
use Rattle.line_printers.proofs.text.Goals as goal

pub read-k-requires : goal.read-k-requires
read-k-requires g c = record { known = c.requires.known; room = c.requires.room }

pub overflow_add-result : goal.overflow_add-result
overflow_add-result g c =
    let k = c.read-k in
    let fits = k.ensures.streamed.fits.holds in
    omega (arith, append_within _ _ _ _ c.finish-n.ensures, rest_length k.new.out k.result.due, fits)

pub returns : goal.returns
returns g c =
    let a = c.args in
    let k = c.read-k in
    let f = c.finish-n in
    let R = g.R.LinePrinter in
    let fits = k.ensures.streamed.fits.holds in
    let e =
    ended k.result.due k.new.out _ _ f.result f.ensures (omega (arith, fits, g.met.R.LinePrinter.ends _ k.result.input k.ensures.known.0)) in record {
      prints =
          stream_ends R.prints_on R.next R.prints g.met.R.LinePrinter.lines R.each R.last a.reads a.room.now _ g.met.R.LinePrinter.outside
          _ _ _ _ _ _ k.ensures.streamed k.ensures.known.2 k.ensures.known.1 _ _ e.0;
      len_in_bounds = omega (arith, e.1, k.auto.out);
    }
