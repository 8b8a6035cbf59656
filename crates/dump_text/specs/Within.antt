-- What a function that prints on a page keeps: what is printed stays within the lent buffer. Assumes nothing.
use Rattle.std.specs.Prelude.{◌≡◌, ◌≤◌, length}
use Rattle.session_bytes.specs.declared.Page.{Page}

-- the page stays the page of the same buffer, of the same length; if the bytes printed before lay within it, those printed after do
pub record Within (before after : Page) : Type 0 where
  pub same : after.out.ghost_name ≡ before.out.ghost_name
  pub same_length : length after.out.now ≡ length before.out.now
  pub printed : before.printed ≤ length before.out.now → after.printed ≤ length after.out.now
