-- Bytes appended to a lent buffer, one after the other; those that find no room are left out. `written` says what that leaves
-- of a buffer that is written from its first byte on. Assumes nothing.
use Rattle.std.specs.Prelude.{ℕ, ◌+◌, min, ◌≡◌, List, [], ◌∷◌, ◌++◌, ltb, length, take, drop, set, if◌then◌else◌}

-- a buffer's bytes, and the next place
pub record Buffer : Type 0 where
  pub bytes : List ℕ
  pub at : ℕ

abbrev pub buffer : List ℕ → ℕ → Buffer
buffer bytes at = record { bytes = bytes; at = at }

unfoldable pub append_byte : ℕ → Buffer → Buffer
append_byte b t = if ltb t.at (length t.bytes) then buffer (set t.bytes t.at b) (t.at + 1) else t

unfoldable pub append : List ℕ → Buffer → Buffer
append [] t = t
append (b ∷ bs) t = append bs (append_byte b t)

-- `bs` written to a buffer that held `before`: it holds `after`, and `count` bytes were written, all of them or as many as it has
-- room for; the bytes after them are kept
pub record Written (bs before after : List ℕ) (count : ℕ) : Type 0 where
  pub counted : count ≡ min (length bs) (length before)
  pub holds : after ≡ take count bs ++ drop count before
