-- Rows of sets in which tag 0 is withdrawn (paper 02, U9): only an insert of tag 0 is refused, with 14, after 8, 4 and 5; a remove and a
-- contains of it go on, a set that holds it lists it until it leaves, and the state keeps the rule. Assumes nothing.
use Rattle.std.specs.Prelude.{ℕ, ◌≡◌, refl, [], ◌∷◌, map, true, false, Some, Ok, Err}
use Rattle.spec.specs.declared.Refusal.TheVariants.{NoTask, Running, Spoilt, Withdrawn}
use Rattle.spec.specs.declared.Answer.TheVariants.{Yes}
use Rattle.spec.specs.declared.Call.TheVariants.{Insert, Remove, Contains, Grow, Shrink}
use Rattle.spec.specs.declared.Progress.TheVariants.{At, End}
use Rattle.spec.specs.declared.Task.{Task}
use Rattle.spec.specs.Entries.{start, step}
use Rattle.spec.specs.Everything.{everything}
use Rattle.spec.specs.WholeRows.{call◌tag◌line◌i◌own◌t◌s◌b◌m◌n◌new_node◌new_bucket◌}
use Rattle.spec.specs.WholeRows.{whole_rows}
use Rattle.spec.specs.EditEntryRows.{opened, insert_at_33, worn, replies, ruled, yard_under, with_zero, fresh}
use Rattle.cases.specs.EntryRows.{not_opened_by}

-- ---- starts of task 0 with tag 0: each call, and then an insert of tag 1

pub starts_withdrawn :
    start (with_zero []) 0 Insert 0 ∷ start (with_zero []) 0 Remove 0 ∷ start (with_zero []) 0 Contains 0
    ∷ start (with_zero []) 0 Grow 0 ∷ start (with_zero []) 0 Shrink 0 ∷ start (with_zero []) 0 Insert 1 ∷ []
    ≡ replies (Err Withdrawn) (with_zero []) ∷ replies (Ok (At 32)) (with_zero (fresh 2 0 32 ∷ [])) ∷ replies (Ok (At 12)) (with_zero (fresh 3 0 12 ∷ []))
    ∷ replies (Ok (At 20)) (with_zero (fresh 4 0 20 ∷ [])) ∷ replies (Ok (At 20)) (with_zero (fresh 5 0 20 ∷ []))
    ∷ replies (Ok (At 32)) (with_zero (fresh 1 1 32 ∷ [])) ∷ []
unfolding everything whole_rows replies ruled yard_under with_zero fresh
starts_withdrawn = refl

-- under the old rule
pub start_of_zero : start (yard_under false [] []) 0 Insert 0 ≡ replies (Ok (At 32)) (yard_under false [] (fresh 1 0 32 ∷ []))
unfolding everything whole_rows replies ruled yard_under fresh
start_of_zero = refl

-- "14, .. after 5": and after 8 and 4
pub fourteen_last :
    start (with_zero (worn ∷ [])) 1 Insert 0 ∷ start (with_zero []) 2 Insert 0 ∷ start (with_zero (insert_at_33 ∷ [])) 0 Insert 0 ∷ []
    ≡ replies (Err Spoilt) (with_zero (worn ∷ [])) ∷ replies (Err NoTask) (with_zero []) ∷ replies (Err Running) (with_zero (insert_at_33 ∷ [])) ∷ []
unfolding everything whole_rows insert_at_33 worn replies ruled yard_under with_zero
fourteen_last = refl

-- ---- "The state keeps whether its yard was opened under the new rule": after an opening, and after steps. The remove of tag 0 takes it out

pub opened_withdrawn :
    map (λ w. (opened (ruled w) 34 66).machine.state.config.zero_withdrawn) (true ∷ false ∷ []) ≡ true ∷ false ∷ []
unfolding everything opened ruled
opened_withdrawn = refl

-- a refused opening gives zeros, the old rule
pub refused_withdrawn : opened (ruled true) 35 66 ≡ not_opened_by 2 35 66
unfolding everything opened not_opened_by ruled
refused_withdrawn = refl

unfoldable pub remove_of_zero : ℕ → ℕ → ℕ → ℕ → Task
remove_of_zero l o t' b' = call 2 tag 0 line l i 0 own o t t' s 0 b b' m 0 n 0 new_node 0 new_bucket 0

pub steps_withdrawn :
    step (with_zero (remove_of_zero 32 0 0 0 ∷ [])) 0 ∷ step (with_zero (remove_of_zero 36 2 1 1 ∷ [])) 0 ∷ []
    ≡ replies (Ok (At 33)) (with_zero (remove_of_zero 33 1 1 0 ∷ [])) ∷ replies (Ok (End Yes 3 (Some 1))) (yard_under true (7 ∷ []) []) ∷ []
unfolding everything whole_rows replies ruled yard_under with_zero remove_of_zero
steps_withdrawn = refl
