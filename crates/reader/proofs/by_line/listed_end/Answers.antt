-- `reader::by_line::listed_end` meets its contract. A line of the listing is not empty, so as many bytes are printed as there is a line. Assumes nothing.
use Rattle.std.proofs.Common.{◌≡◌, drop, replicate, rules, sym, ◌∙◌}
use Rattle.session.specs.Buffer.{buffer, append}
use Rattle.session.specs.BufferLaws.{append_written, written_whole}
use Rattle.recording.specs.Recording.{listing}
use Rattle.reader_state.specs.ListedLines.{first_bytes}
use Rattle.reader_state.specs.Standing.{with_part}
use Rattle.reader.proofs.Places.{place_in, short_place, ends_listed, misses_listed}
use Rattle.reader.proofs.by_line.listed_end.Goals as goal

pub returns-then-printed-eq0 : goal.returns-then-printed-eq0
returns-then-printed-eq0 c =
    let a = c.args in
    let page = c.print_listed.new.page in
    let part = (with_part a.r a.ns.now a.bs.now).machine in
    let wrote : buffer page.out.now page.printed ≡ append (first_bytes (drop a.k (listing part))) (buffer (replicate 73 0) 0) = search rules in
    let whole = written_whole _ _ _ _ (append_written _ _ _ _ wrote) (short_place (place_in part a.k)) in
    ends_listed (place_in part a.k) (sym whole.0 ∙ sym c.printed.ensures ∙ c.if-printed-eq0.true)

pub returns-else-printed-eq0 : goal.returns-else-printed-eq0
returns-else-printed-eq0 c =
    let a = c.args in
    let page = c.print_listed.new.page in
    let part = (with_part a.r a.ns.now a.bs.now).machine in
    let wrote : buffer page.out.now page.printed ≡ append (first_bytes (drop a.k (listing part))) (buffer (replicate 73 0) 0) = search rules in
    let whole = written_whole _ _ _ _ (append_written _ _ _ _ wrote) (short_place (place_in part a.k)) in
    misses_listed (place_in part a.k) (λ e. c.if-printed-eq0.false (c.printed.ensures ∙ whole.0 ∙ e))
