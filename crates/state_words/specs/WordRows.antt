-- Rows that another order of the words breaks: the worked example of docs/FITTERS.md, and a state of which no two numbers are the same. Then words that
-- no state has. An order that is wrong in one direction alone is refused by RoundTrip. Assumes nothing.
use Rattle.std.specs.Prelude.{◌≡◌, refl, Bool, true, false, [], ◌∷◌, ◌++◌, ℕ, replicate}
use Rattle.spec.specs.declared.State.{State}
use Rattle.spec.specs.Lists.{concat_map, every, range}
use Rattle.spec.specs.Machine.{idle, config_of, with_version, with_zero_withdrawn}
use Rattle.spec.specs.WholeRows.{call◌tag◌line◌i◌own◌t◌s◌b◌m◌n◌new_node◌new_bucket◌, stopped, config◌H◌B◌head◌last_node◌last_bucket◌tasks◌}
use Rattle.state_words.specs.StateWords.{state_words, bit_fits, own_fits, task_fits, state_fits}

-- the example of docs/FITTERS.md: task 0's insert of 21 stands at line 50
abbrev example : State
example =
    config (config_of 2) H 3 B 4 head 1 last_node 1 last_bucket 1 tasks (call 1 tag 21 line 50 i 1 own 7 t 2 s 1 b 0 m 1 n 0 new_node 0 new_bucket 2 ∷ [])

pub example_words : state_words example
    ≡ 2 ∷ 1 ∷ 0 ∷ 3 ∷ 4 ∷ 1 ∷ 1 ∷ 1 ∷ 1 ∷ 1 ∷ 1 ∷ 21 ∷ 50 ∷ 1 ∷ 7 ∷ 2 ∷ 1 ∷ 0 ∷ 1 ∷ 0 ∷ 0 ∷ 2 ∷ replicate 91 0
unfolding state_words idle concat_map range
example_words = refl

-- no two numbers the same: in the first words, in task 0, which runs, and in task 7. The task chosen last is T − 1
abbrev different : State
different =
    config (with_zero_withdrawn true (with_version 11 (config_of 19))) H 12 B 13 head 14 last_node 15 last_bucket 16 tasks
    (call 20 tag 21 line 22 i 23 own 24 t 25 s 26 b 27 m 28 n 29 new_node 30 new_bucket 31
    ∷ (replicate 6 idle ++ (stopped (call 40 tag 41 line 42 i 43 own 44 t 45 s 46 b 47 m 48 n 49 new_node 50 new_bucket 51) ∷ [])))

pub different_words : state_words different
    ≡ 19 ∷ 11 ∷ 1 ∷ 12 ∷ 13 ∷ 14 ∷ 15 ∷ 16 ∷ 18 ∷ 1 ∷ 20 ∷ 21 ∷ 22 ∷ 23 ∷ 24 ∷ 25 ∷ 26 ∷ 27 ∷ 28 ∷ 29 ∷ 30 ∷ 31
    ∷ (replicate 78 0 ++ (0 ∷ 40 ∷ 41 ∷ 42 ∷ 43 ∷ 44 ∷ 45 ∷ 46 ∷ 47 ∷ 48 ∷ 49 ∷ 50 ∷ 51 ∷ []))
unfolding state_words idle concat_map range
different_words = refl

-- zeros but for these: the rule's word, task 7's first word and its own steps; and so many words after them
abbrev fit : ℕ → ℕ → ℕ → ℕ → Bool
fit rule runs steps more = state_fits (0 ∷ 0 ∷ rule ∷ (replicate 97 0 ++ (runs ∷ 0 ∷ 0 ∷ 0 ∷ 0 ∷ steps ∷ replicate more 0)))

-- the most that a state has; then a truth value over 1, twice, own steps over 65,535, a word too few and one too many
pub fits_rows : fit 1 1 65535 7 ∷ fit 2 1 0 7 ∷ fit 0 2 0 7 ∷ fit 0 1 65536 7 ∷ fit 0 0 0 6 ∷ fit 0 0 0 8 ∷ []
    ≡ true ∷ false ∷ false ∷ false ∷ false ∷ false ∷ []
unfolding state_fits task_fits bit_fits own_fits every range
fits_rows = refl
