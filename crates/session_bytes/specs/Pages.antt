-- What is printed on a page: its bytes follow those printed before, in the same lent buffer. Assumes nothing.
use Rattle.std.specs.Prelude.{ℕ, ◌≡◌, List}
use Rattle.session.specs.Buffer.{Buffer, buffer, append}
use Rattle.session_bytes.specs.declared.Page.{Page}

-- a page's bytes, and the next place
abbrev pub shown : Page → Buffer
shown p = buffer p.out.now p.printed

-- `bs` printed on a page, which stays the page of the same buffer
pub record Appends (bs : List ℕ) (before after : Page) : Type 0 where
  pub same : after.out.ghost_name ≡ before.out.ghost_name
  pub shows : shown after ≡ append bs (shown before)
