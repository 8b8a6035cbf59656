-- One name that opens every definition of recordings: `unfolding everything session_definitions recording_definitions` lets antt
-- compute a recording and a verdict, whole or line by line. Assumes nothing.
use Rattle.std.specs.Prelude.{ℕ}
use Rattle.recording.specs.Header.{with_line, after_step, take_from, take_header}
use Rattle.recording.specs.Recording.{input_again, bytes_of, event_pairs, tag_listing, listing_of, listing, ran_recording, recorded_events}
use Rattle.recording.specs.Recording.{opened_recording, header_recording, recorded_lines, lines_of, recording}
use Rattle.recording.specs.Verdict.{compare_line, past_listing, event_turn, turn, printed_for, then_rest, listing_verdict, turn_verdict}
use Rattle.recording.specs.Verdict.{events_verdict, output_verdict, opened_verdict, header_verdict, lines_verdict, verdict}
use Rattle.recording.specs.Reader.{no_machine, new_reader, moved, decided, after_comparing, compare_listed, read_listed, run_event, read_turn}
use Rattle.recording.specs.Reader.{read_opened, read_header_line, read_phase, read_line, listing_end, opened_end, read_phase_end, read_end, read_lines}
use Rattle.recording.specs.Recorder.{new_recorder, record_last, write_listing, write_pair, record_event, after_kept, record_opened}
use Rattle.recording.specs.Recorder.{record_header_line, record_phase, record_line, record_phase_end, record_end, record_lines}
use Rattle.recording.specs.Recorder.{recorded_or, recorder_output}

unfoldable pub recording_definitions : ℕ
unfolding with_line after_step take_from take_header input_again bytes_of event_pairs tag_listing listing_of listing ran_recording recorded_events
    opened_recording header_recording recorded_lines lines_of recording compare_line past_listing event_turn turn printed_for then_rest listing_verdict
    turn_verdict events_verdict output_verdict opened_verdict header_verdict lines_verdict verdict no_machine new_reader moved decided after_comparing
    compare_listed read_listed run_event read_turn read_opened read_header_line read_phase read_line listing_end opened_end read_phase_end read_end read_lines
    new_recorder record_last write_listing write_pair record_event after_kept record_opened record_header_line record_phase record_line record_phase_end
    record_end record_lines recorded_or recorder_output
recording_definitions = 0
