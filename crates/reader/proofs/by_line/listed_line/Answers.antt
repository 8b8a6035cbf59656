-- `reader::by_line::listed_line` meets its contract. The page has room for the whole line that is printed. Assumes nothing.
use Rattle.std.proofs.Common.{◌≡◌, ℕ, List, drop, replicate, ap, ◌∙◌, rules}
use Rattle.session.specs.Grammar.{equals}
use Rattle.session.specs.Buffer.{buffer, append}
use Rattle.session.specs.BufferLaws.{append_written, written_whole}
use Rattle.recording.specs.declared.ReaderPhase.TheVariants.{Listed}
use Rattle.recording.specs.Recording.{close, listing}
use Rattle.recording.specs.Reader.{read_listed}
use Rattle.reader_state.specs.ListedLines.{first_bytes}
use Rattle.reader_state.specs.Standing.{next_place, with_part, after_comparing}
use Rattle.reader.proofs.Parts.{read_as}
use Rattle.reader.proofs.Places.{place_in, short_place, listed_back}
use Rattle.reader.proofs.by_line.listed_line.Goals as goal

pub returns : goal.returns
unfolding read_listed
returns c =
    let a = c.args in
    let page = c.print_listed.new.page in
    let part = (with_part a.r a.ns.now a.bs.now).machine in
    let place = place_in part a.k in
    let wrote : buffer page.out.now page.printed ≡ append (first_bytes (drop a.k (listing part))) (buffer (replicate 73 0) 0) = search rules in
    let whole = (written_whole _ _ _ _ (append_written _ _ _ _ wrote) (short_place place)).1 in
    read_as _ _ _ _ _
    (c.compare_listed.ensures
    ∙ ap (λ (w : List ℕ). after_comparing (equals w (close a.line.now)) (Listed (next_place a.k)) a.r) (c.text.ensures ∙ whole))
    (listed_back a.r a.ns.now a.bs.now (search rules) a.k (drop a.k (listing part)) a.line.now place)
