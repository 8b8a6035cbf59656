-- What is printed on a page stays within its buffer: after a print, after two calls, and where nothing is printed. Assumes nothing.
use Rattle.std.specs.Prelude.{ℕ, ◌≡◌, refl, List, length}
use Rattle.std.proofs.Common.{ap, ◌∙◌, arith}
use Rattle.session.specs.Buffer.{Buffer}
use Rattle.session.specs.BufferLaws.{append_length, append_on_within}
use Rattle.session_bytes.specs.declared.Page.{Page}
use Rattle.session_bytes.specs.Pages.{shown, Appends}
use Rattle.dump_text.specs.Within.{Within}

pub appends_within : (bs : List ℕ) (before after : Page) → Appends bs before after → Within before after
appends_within bs before after a =
    let l : length after.out.now ≡ length before.out.now = ap (λ (t : Buffer). length t.bytes) a.shows ∙ append_length bs (shown before) in
    record {
      same = a.same;
      same_length = l;
      printed = λ h. omega (arith, append_on_within bs before.out.now after.out.now before.printed after.printed h a.shows, l);
    }

pub within_then : (a b c : Page) → Within b c → Within a b → Within a c
within_then a b c q p = record {
  same = q.same ∙ p.same;
  same_length = q.same_length ∙ p.same_length;
  printed = λ h. q.printed (p.printed h);
}

pub within_prints : (bs : List ℕ) (a b c : Page) → Appends bs b c → Within a b → Within a c
within_prints bs a b c q p = within_then a b c (appends_within bs b c q) p

pub within_same : (a : Page) → Within a a
within_same a = record { same = refl; same_length = refl; printed = λ h. h }

-- what the functions that print use
pub ruleset printing = (within_same, within_prints, within_then)
