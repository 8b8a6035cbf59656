-- The header's lines, closed, that are kept until the opening is accepted: a buffer of `longest_header` bytes, room for four lines of the
-- grammar, to which they are appended. Assumes nothing.
use Rattle.std.specs.Prelude.{ℕ, List, take, replicate}
use Rattle.session.specs.Buffer.{Buffer, buffer, append}
use Rattle.session_state.specs.declared.Phase.{Phase}
use Rattle.session_state.specs.declared.Phase.TheVariants.{Due, Events, Stopped}
use Rattle.recording.specs.Recording.{close}
use Rattle.recording.specs.Recorder.{longest_header}
use Rattle.recorder_lines.specs.declared.KeptLines.{KeptLines}

abbrev pub kept_lines : List ℕ → ℕ → KeptLines
kept_lines bytes len = record { bytes = bytes; len = len }

unfoldable pub no_lines : KeptLines
no_lines = kept_lines (replicate longest_header 0) 0

-- the lines' bytes so far
abbrev pub kept_bytes : KeptLines → List ℕ
kept_bytes k = take k.len k.bytes

abbrev pub kept_in : Buffer → KeptLines
kept_in t = kept_lines t.bytes t.at

-- one line more, closed
unfoldable pub keep_line : KeptLines → List ℕ → KeptLines
keep_line k line = kept_in (append (close line) (buffer k.bytes k.len))

-- after a line: where a header line is due the line is kept too, of no use once the opening is made
unfoldable pub kept_after : Phase → KeptLines → List ℕ → KeptLines
kept_after (Due due) k line = keep_line k line
kept_after Events k line = k
kept_after Stopped k line = k
