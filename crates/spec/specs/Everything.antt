-- One name that opens every definition of the machine: `unfolding everything` lets antt compute a whole run. Assumes nothing.
use Rattle.std.specs.Prelude.{ℕ}
use Rattle.spec.specs.Lists.{member, all_true, every, filter, concat_map, range, ascending, add_tag, remove_tag, union}
use Rattle.spec.specs.Machine.{state_head, state_last_node, state_last_bucket, state_chosen, state_task, with_state, with_nodes, with_buckets}
use Rattle.spec.specs.Machine.{with_head, with_last_node, with_last_bucket, with_chosen, with_task, idle, fresh_task, with_line, with_own, with_i}
use Rattle.spec.specs.Machine.{with_t, with_s, with_b, with_m, with_n, with_new_node, with_new_bucket, without_places, state_of, task_of, set_task}
use Rattle.spec.specs.Words.{size, pred, place, places, changeable, count, tags, overwrite, node_of, bucket_of, apply}
use Rattle.spec.specs.Sound.{listed_size, zeros, config_sound, sound_numbers, node_link, bucket_link, sound_node, sound_nodes, sound_bucket}
use Rattle.spec.specs.Sound.{sound_buckets, fill_lines, lines_of, sound_running, zero_task, sound_task, sound_tasks, sound}
use Rattle.spec.specs.Held.{chain, task_nodes, held_nodes, task_buckets, held_buckets, cyclic_order, first_free, free_node, free_bucket}
use Rattle.spec.specs.Listed.{size_of, pred_of, place_of, key, slot, place_for, tags_of, head_of, in_bucket, in_set, placed_tags, node_tags, listed}
use Rattle.spec.specs.Plain.{insert_answer, inserted, plain_insert, plain_remove, plain_contains, plain}
use Rattle.spec.specs.Lines.{line_12, line_13, line_15, line_16, line_17, line_18, at_limit, resized, line_20, line_24, line_27, line_28, line_32}
use Rattle.spec.specs.Lines.{line_33, insert_write, answer_36, insert_36, remove_36, line_36, line_39, after_40, line_40, line_43, line_44, line_46}
use Rattle.spec.specs.Lines.{line_47, line_48, line_52, gathered, line_49, line_50, line_51, all_lines, find_line, effect}
use Rattle.spec.specs.StepRefusals.{through_empty, past_size, overfull_36, overfull_49, overfull, unlisted_size, unsound_step, all_held}
use Rattle.spec.specs.Entries.{pool_fits, not_opened, fresh_machine, opening, refuse, started, withdrawn, start, occupancy, finish, accept}
use Rattle.spec.specs.Entries.{step_running, step, list, show}
use Rattle.spec.specs.Schedule.{event, run, run_opened, schedule}

unfoldable pub everything : ℕ
unfolding member all_true every filter concat_map range ascending add_tag remove_tag union state_head state_last_node state_last_bucket state_chosen
    state_task with_state with_nodes with_buckets with_head with_last_node with_last_bucket with_chosen with_task idle fresh_task with_line with_own with_i
    with_t with_s with_b with_m with_n with_new_node with_new_bucket without_places state_of task_of set_task size pred place places changeable count tags
    overwrite node_of bucket_of apply listed_size zeros config_sound sound_numbers node_link bucket_link sound_node sound_nodes sound_bucket sound_buckets
    fill_lines lines_of sound_running zero_task sound_task sound_tasks sound chain task_nodes held_nodes task_buckets held_buckets cyclic_order first_free
    free_node free_bucket size_of pred_of place_of key slot place_for tags_of head_of in_bucket in_set placed_tags node_tags listed insert_answer inserted
    plain_insert plain_remove plain_contains plain line_12 line_13 line_15 line_16 line_17 line_18 at_limit resized line_20 line_24 line_27 line_28 line_32
    line_33 insert_write answer_36 insert_36 remove_36 line_36 line_39 after_40 line_40 line_43 line_44 line_46 line_47 line_48 line_52 gathered line_49
    line_50 line_51 all_lines find_line effect through_empty past_size overfull_36 overfull_49 overfull unlisted_size unsound_step all_held pool_fits
    not_opened fresh_machine opening refuse started withdrawn start occupancy finish accept step_running step list show event run run_opened schedule
everything = 0
