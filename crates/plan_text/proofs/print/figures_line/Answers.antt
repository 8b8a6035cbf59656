-- `plan_text::print::figures_line` meets its contract. Four parts appended one after the other. Assumes nothing.
use Rattle.std.proofs.Common.{rules, [], ◌∷◌, ◌++◌}
use Rattle.session.specs.Print.{decimal, answer_word, key_line}
use Rattle.session_bytes.proofs.Laws.{append_2, append_3}
use Rattle.plan_text.specs.Text.{plan_key, figures_line}
use Rattle.plan_text.proofs.print.figures_line.Goals as goal

pub returns : goal.returns
unfolding figures_line key_line
returns c =
    let f = c.args.f in
    let word = answer_word f.answer in
    let own = (44 ∷ []) ++ decimal f.own ++ (44 ∷ []) in
    record {
      same = search rules;
      shows = append_2 (plan_key ++ word ++ own) (decimal f.buckets ++ (10 ∷ [])) _ _ _
          (append_3 plan_key word own _ _ _ _ c.bytes.ensures.shows c.answer.ensures.shows (rw c.from.ensures at c.keyed.ensures.shows))
          (rw c.from-2.ensures at c.key_line.ensures.shows);
    }
