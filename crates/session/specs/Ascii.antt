-- The bytes of a text in ASCII, so that keys and sessions can be written as the paper writes them. Assumes nothing.
use Rattle.std.specs.Prelude.{ℕ, zero, suc, List, [], ◌∷◌}
use Prim.Native.Char.{code}
use Prim.Native.String.{String, len, char_at}

-- n bytes from place i on
unfoldable pub codes : String → ℕ → ℕ → List ℕ
codes s i zero = []
codes s i (suc n) = code (char_at s i) ∷ codes s (suc i) n

unfoldable pub ascii : String → List ℕ
ascii s = codes s 0 (len s)
