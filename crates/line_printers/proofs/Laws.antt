-- What a program prints in the part of the buffer that is lent to it stands behind what was there: for a line that a call gave (`took_line`, `took_none`),
-- and at the end (`ended`). What is known of it stays known, and what it prints fits (`known_given`, `spent_by`). Assumes nothing.
use Rattle.std.specs.Prelude.{if◌then◌else◌}
use Prim.Native.Nat.{ℕ, ◌+◌, ◌-◌, ◌≤◌}
use mathlib.Core.Path.{◌≡◌, sym, ap, ◌∙◌}
use mathlib.Core.List.{List, [], ◌++◌, append-nil}
use mathlib.Core.Bool.{Bool, true, false}
use native.Mathlib.Omega.{arith}
use lib.ListN.{length, take, drop}
use Rattle.session.specs.Buffer.{buffer, append}
use Rattle.session.specs.Grammar.{InputLine}
use Rattle.partial_line.specs.PartialLines.{line_bytes}
use Rattle.session_lines.specs.BufferParts.{part_holds}
use Rattle.stdio.specs.declared.input.Input.{Input}
use Rattle.stdio.specs.Inputs.{is_line}
use Rattle.stdio.specs.Readers.{after_call}
use Rattle.stdio.specs.Streams.{Took, printed_by}

module _ (due : ℕ) (out : List ℕ) where
  abbrev pub lent : List ℕ
  lent = take (length out - due) (drop due out)

  abbrev pub put_back : List ℕ → List ℕ
  put_back w = take due out ++ (w ++ drop (length out - due) (drop due out))

  pub ended : (xs w : List ℕ) (n : ℕ) → buffer w n ≡ append xs (buffer lent 0) → due + length xs ≤ length out
      → (take (due + n) (put_back w) ≡ take due out ++ xs) × (due + n ≤ length out)
  ended xs w n wrote fits = let h = part_holds xs out w due n (omega arith) wrote fits in (h.1, omega (arith, h.0))

module _ {S : Type 0} (rest : S → List InputLine → List ℕ) (next : S → List ℕ → S) (prints : S → List ℕ → List ℕ) (s : S) (q : Input) where
  module _ (due : ℕ) (out : List ℕ) where
    pub took_line : is_line q.given ≡ true → (l : List ℕ) → l ≡ line_bytes q.line → (s' : S) → s' ≡ next s l → (w : List ℕ) (n : ℕ)
        → buffer w n ≡ append (prints s l) (buffer (lent due out) 0) → due + length (printed_by rest next prints s q) ≤ length out
        → Took rest next prints s due q out s' (due + n) (put_back due out w)
    unfolding after_call printed_by
    took_line e l same s' stands w n wrote fits =
        let within : due + length (prints s l) ≤ length out = rw same (rw e at fits) in
        let h = part_holds (prints s l) out w due n (omega arith) wrote within in
        record {
          stands = rw e (stands ∙ ap (next s) same);
          counted = rw e (ap (λ (k : ℕ). due + k) (h.0 ∙ ap (λ (x : List ℕ). length (prints s x)) same));
          wrote = rw e (h.1 ∙ ap (λ (x : List ℕ). take due out ++ prints s x) same);
        }

    pub took_none : is_line q.given ≡ false → Took rest next prints s due q out s due out
    unfolding after_call printed_by
    took_none e = record { stands = rw e; counted = rw e (omega arith); wrote = rw e (sym (append-nil (take due out))) }

  -- after a call: what is known of it, and what is still to be printed once
  module _ (knows : S → Type 0) (k : knows s) where
    pub known_given : ((x : S) (l : List ℕ) → knows x → knows (next x l)) → knows (after_call next s q)
    unfolding after_call
    known_given known = go (is_line q.given)
      where
        go : (b : Bool) → knows (if b then next s (line_bytes q.line) else s)
        go true = known s (line_bytes q.line) k
        go false = k

    pub spent_by : (each : ℕ) (once : S → ℕ) → ((x : S) (l : List ℕ) → knows x → length (prints x l) + once (next x l) ≤ once x + each)
        → length (printed_by rest next prints s q) + once (after_call next s q) ≤ once s + (if is_line q.given then each else 0)
    unfolding after_call printed_by
    spent_by each once spends = go (is_line q.given)
      where
        go : (b : Bool) → length (if b then prints s (line_bytes q.line) else []) + once (if b then next s (line_bytes q.line) else s)
            ≤ once s + (if b then each else 0)
        go true = spends s (line_bytes q.line) k
        go false = omega arith
