use Rattle.std.proofs.Common.{◌≡◌, ◌&&◌, drop}
use Rattle.spec.specs.Machine.{Machine}
use Rattle.spec.specs.Sound.{sound_tasks}
use Rattle.state_words.specs.StateWords.{tasks_of_words}
use Rattle.sound_words.proofs.tasks_ok.Given as goal

-- what is left to test is `sound_tasks` of the tasks from k on
abbrev pub invariant-loop-k : goal.invariant-loop-k
invariant-loop-k l =
    (y : Machine) → y.nodes ≡ l.ns → y.state.config.tasks ≡ l.t → y.state.nodes ≡ l.h → y.state.buckets ≡ l.b
    → sound_tasks y 0 (tasks_of_words l.w) ≡ sound_tasks y l.k (drop l.k (tasks_of_words l.w))

-- from T on those passed and those to come are joined
abbrev pub invariant-loop-k-2 : goal.invariant-loop-k-2
invariant-loop-k-2 l =
    (y : Machine) → y.nodes ≡ l.ns → y.state.config.tasks ≡ l.t → y.state.nodes ≡ l.h → y.state.buckets ≡ l.b
    → (l.all && sound_tasks y l.k (drop l.k (tasks_of_words l.w))) ≡ sound_tasks y 0 (tasks_of_words l.w)
