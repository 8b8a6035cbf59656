-- One name that opens every definition of a session: `unfolding everything session_definitions` lets antt compute a transcript.
-- Assumes nothing.
use Rattle.std.specs.Prelude.{ℕ}
use Rattle.session.specs.Grammar.{starts_with, equals, comma_position, parse_digits, parse_number, parse_keyed_number, tagged_start, parse_call}
use Rattle.session.specs.Grammar.{call_of_task, parse_start, step_event, parse_event, split_lines, input_lines, admissible, parse_header_line}
use Rattle.session.specs.Grammar.{parse_fixed_line, parse_event_line}
use Rattle.session.specs.Header.{empty_header, line_number, with_number, optional, number_step, other_step, header_step, after_step, read_from}
use Rattle.session.specs.Header.{read_header}
use Rattle.session.specs.Print.{decimal_digits, decimal, key_line, answer_word, occupancy_field, refusal_line, output_line, tag_lines, listing_lines}
use Rattle.session.specs.Transcript.{add_event, events, is_event, all_events, task_in, output_lines, final_listing, end_lines, ran_lines, event_lines}
use Rattle.session.specs.Transcript.{pool_words, session_opening, opened_lines, header_lines, lines_transcript, transcript}

unfoldable pub session_definitions : ℕ
unfolding starts_with equals comma_position parse_digits parse_number parse_keyed_number tagged_start parse_call call_of_task parse_start step_event
    parse_event split_lines input_lines admissible parse_header_line parse_fixed_line parse_event_line empty_header line_number with_number optional
    number_step other_step header_step after_step read_from read_header decimal_digits decimal key_line answer_word occupancy_field refusal_line output_line
    tag_lines listing_lines add_event events is_event all_events task_in output_lines final_listing end_lines ran_lines event_lines pool_words
    session_opening opened_lines header_lines lines_transcript transcript
session_definitions = 0
