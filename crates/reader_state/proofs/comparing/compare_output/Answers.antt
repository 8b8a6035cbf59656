-- `reader_state::comparing::compare_output` meets its contract. The page has room for the whole line that is printed. Assumes nothing.
use Rattle.std.proofs.Common.{◌≡◌, ℕ, List, Bool, ap, ◌∙◌, rules, replicate}
use Rattle.session.specs.Grammar.{equals}
use Rattle.session.specs.Print.{output_line}
use Rattle.session.specs.OutputLengths.{output_length}
use Rattle.session.specs.Buffer.{buffer, append}
use Rattle.session.specs.BufferLaws.{append_written, written_whole}
use Rattle.recording.specs.declared.ReaderPhase.TheVariants.{Event}
use Rattle.recording.specs.Recording.{close}
use Rattle.reader_state.specs.Standing.{after_comparing}
use Rattle.reader_state.proofs.comparing.compare_output.Goals as goal

pub returns : goal.returns
returns c =
    let a = c.args in
    let page = c.output.new.page in
    let wrote : buffer page.out.now page.printed ≡ append (output_line a.k a.o) (buffer (replicate 73 0) 0) = search rules in
    let whole = (written_whole _ _ _ _ (append_written _ _ _ _ wrote) (output_length a.k a.o)).1 in
    c.after_comparing.ensures
    ∙ ap (λ (b : Bool). after_comparing b Event a.r) c.same_line.ensures
    ∙ ap (λ (w : List ℕ). after_comparing (equals w (close a.line.now)) Event a.r) (c.text.ensures ∙ whole)
