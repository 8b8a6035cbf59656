-- A test at each number below 8.
use Rattle.std.proofs.Common.{rules, refl, ◌∙◌}
use Rattle.std.proofs.lemmas.Iterator.{YieldsList-from_range}
use Rattle.std.proofs.lemmas.Iterator.Search.{all_from_yields_List}
use Rattle.coop_state_words.specs.StateWords.{task_fits, task_place, tasks_fit}
use Rattle.yard_words.proofs.Made.{every_is}
use Rattle.coop_c_words.proofs.tasks_fit.Goals as goal

pub returns : goal.returns
unfolding tasks_fit
returns c =
    let ran = c.all.ensures.ran in
    all_from_yields_List (λ k. task_fits c.args.w.now (task_place k)) _ _ c.all.result ran (YieldsList-from_range 0 8 8 refl refl) (λ x b q call. search rules)
    ∙ every_is _ 0 8
