-- `reader::program::text` meets its contract. The page has room for the whole text. Assumes nothing.
use Rattle.std.proofs.Common.{◌≤◌, length, rules}
use native.Mathlib.Omega.{arith}
use Rattle.session.specs.BufferLaws.{append_written, written_whole}
use Rattle.session_bytes.proofs.Laws.{ends_within}
use Rattle.reader.specs.Verifies.{verdict_text}
use Rattle.reader.proofs.Programs.{text_fits, prints_verdict}
use Rattle.reader.proofs.program.text.Goals as goal

pub returns : goal.returns
returns g c =
    let a = c.answer-a in
    let text = verdict_text a.result.verdict in
    let before = c.args.out.now in
    let fits : length text ≤ length before = omega (arith, text_fits a.result.verdict, c.requires.2) in record {
      prints = prints_verdict _ _ a.result _ a.ensures (written_whole text before _ _ (append_written text before _ _ (search rules)) fits).1;
      len_in_bounds = ends_within text before _ _ (search rules);
    }
