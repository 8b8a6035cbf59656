-- `same_without` runs the events but for event k, and compares the words of the calls that ended. Assumes nothing.
use Rattle.std.proofs.Common.{ℕ, List, ap, ◌∙◌}
use Rattle.session.specs.Grammar.{equals}
use Rattle.mattered_run.proofs.Compared.{words_equal}
use Rattle.mattered_run.proofs.Verdicts.{words_read}
use Rattle.mattered_run.proofs.same_without.Goals as goal

pub returns : goal.returns
returns c =
    let r = c.run_without-m in
    c.eq.ensures
    ∙ words_equal _ c.args.noted.now
    ∙ ap (λ (l : List ℕ). equals c.args.noted.now l) (words_read _ _ _ r.result r.ensures.count r.ensures.words)
