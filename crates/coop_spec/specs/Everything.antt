-- One name that opens every definition of the machine and of its history: `unfolding everything` lets antt compute a whole run. Assumes
-- nothing.
use Rattle.std.specs.Prelude.{ℕ}
use Rattle.spec.specs.Lists.{member, every, concat_map, range, ascending, add_tag, remove_tag}
use Rattle.spec.specs.Words.{count, tags, overwrite, bucket_of}
use Rattle.spec.specs.Sound.{zeros}
use Rattle.spec.specs.Held.{cyclic_order, first_free}
use Rattle.spec.specs.Entries.{pool_fits}
use Rattle.coop_spec.specs.Machine.{with_state, with_versions, with_node, with_flag, with_operations, with_task, never_invoked}
use Rattle.coop_spec.specs.Machine.{with_type, with_resp, as_done, as_returned, operation_of, set_operation, idle, fresh_task}
use Rattle.coop_spec.specs.Machine.{with_own, to_line, to_line_with, to_help, to_finish, state_of, task_of, set_task}
use Rattle.coop_spec.specs.Words.{op_word, tags_of, response, applied, apply, apply_all}
use Rattle.coop_spec.specs.Sound.{sound_numbers, was_invoked, sound_operation, sound_op_word, sound_tags, sound_version}
use Rattle.coop_spec.specs.Sound.{sound_versions, invoke_lines, member_lines, freeze_lines, help_lines, lines_of, back_of_line}
use Rattle.coop_spec.specs.Sound.{operation_of_call, sound_running, zero_task, sound_task, sound_tasks, sound}
use Rattle.coop_spec.specs.Held.{task_versions, held_versions, free_version}
use Rattle.coop_spec.specs.Lines.{line_95, line_96, line_99, line_100, line_101, line_102, line_107, line_109, line_112, line_113}
use Rattle.coop_spec.specs.Lines.{line_117, line_120, line_121, line_122, line_123, line_127, returns, line_129, line_130, line_138}
use Rattle.coop_spec.specs.Lines.{line_139, line_140, all_lines, find_line, effect}
use Rattle.coop_spec.specs.StepRefusals.{through_empty, needs_65th_tag, unsound_step, all_held}
use Rattle.coop_spec.specs.Entries.{not_opened, fresh_machine, opening, refuse, fits_type, may_start, started, fixing, start, finish}
use Rattle.coop_spec.specs.Entries.{accept, step_running, step}
use Rattle.coop_spec.specs.Schedule.{event, run, run_opened, schedule}
use Rattle.coop_spec.specs.Atomic.{changed, response_to, set_after, invoked}
use Rattle.coop_spec.specs.History.{atomic_call, result_of, operations, note, tell, claims, installs, extended, history_from, history}

unfoldable pub everything : ℕ
unfolding member every concat_map range ascending add_tag remove_tag count tags overwrite bucket_of zeros cyclic_order first_free
    pool_fits with_state with_versions with_node with_flag with_operations with_task never_invoked with_type with_resp as_done as_returned
    operation_of set_operation idle fresh_task with_own to_line to_line_with to_help to_finish state_of task_of set_task op_word tags_of
    response applied apply apply_all sound_numbers was_invoked sound_operation sound_op_word sound_tags sound_version sound_versions
    invoke_lines member_lines freeze_lines help_lines lines_of back_of_line operation_of_call sound_running zero_task sound_task sound_tasks
    sound task_versions held_versions free_version line_95 line_96 line_99 line_100 line_101 line_102 line_107 line_109 line_112 line_113
    line_117 line_120 line_121 line_122 line_123 line_127 returns line_129 line_130 line_138 line_139 line_140 all_lines find_line effect
    through_empty needs_65th_tag unsound_step all_held not_opened fresh_machine opening refuse fits_type may_start started fixing start
    finish accept step_running step event run run_opened schedule changed response_to set_after invoked atomic_call result_of operations
    note tell claims installs extended history_from history
everything = 0
