-- Any bytes at all are answered: what a session prints is never empty, `answered`. Assumes nothing.
use Rattle.std.specs.Prelude.{List, Bool, true, false, ℕ, ◌≤◌, eqb, length, replicate, if◌then◌else◌, Ok, Err}
use Rattle.std.proofs.Common.{arith, length-append}
use Rattle.spec.specs.Numbers.{refusal_number}
use Rattle.spec.specs.Outputs.{Listing}
use Rattle.spec.specs.Machine.{Machine}
use Rattle.spec.specs.Listed.{head_of, size_of}
use Rattle.spec.specs.Entries.{Opened, list}
use Rattle.spec.specs.Schedule.{run}
use Rattle.session.specs.Grammar.{InputLine, input_lines}
use Rattle.session.specs.Header.{HeaderRead, complete, incomplete, read_header}
use Rattle.session.specs.Keys.{size_key}
use Rattle.session.specs.Print.{key_line, refusal_line, listing_lines}
use Rattle.session.specs.Transcript.{events, all_events, final_listing, end_lines, ran_lines, event_lines, session_opening, opened_lines}
use Rattle.session.specs.Transcript.{header_lines, lines_transcript, transcript}

key_some : (key : List ℕ) (n : ℕ) → 1 ≤ length (key_line key n)
unfolding key_line
key_some key n = simp length-append (omega arith)

refusal_some : (r : ℕ) → 1 ≤ length (refusal_line r)
unfolding refusal_line
refusal_some r = key_some _ r

listing_some : (y : Machine) (l : Listing) → 1 ≤ length (final_listing y l)
unfolding final_listing listing_lines
listing_some y (Ok n) = simp length-append (omega (arith, key_some size_key (size_of y (head_of y))))
listing_some y (Err r) = refusal_some (refusal_number r)

end_some : (b : Bool) (y : Machine) → 1 ≤ length (end_lines b y)
unfolding end_lines
end_some true y = listing_some y (list y (replicate 64 0)).says
end_some false y = refusal_some 10

events_some : (y : Machine) (ls : List InputLine) → 1 ≤ length (event_lines y ls)
unfolding event_lines ran_lines
events_some y ls = simp length-append (omega (arith, end_some (all_events ls) (run y (events ls)).machine))

opened_some : (o : Opened) (ls : List InputLine) → 1 ≤ length (opened_lines o ls)
unfolding opened_lines
opened_some o ls = go (eqb o.refusal 0)
  where
    go : (b : Bool) → 1 ≤ length (if b then event_lines o.machine ls else refusal_line o.refusal)
    go true = events_some o.machine ls
    go false = refusal_some o.refusal

header_some : (r : HeaderRead) → 1 ≤ length (header_lines r)
unfolding header_lines
header_some (complete h ls) = opened_some (session_opening h) ls
header_some incomplete = refusal_some 10

pub answered : (input : List ℕ) → 1 ≤ length (transcript input)
unfolding transcript lines_transcript
answered input = header_some (read_header (input_lines input))
