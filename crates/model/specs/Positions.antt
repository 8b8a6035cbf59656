-- Where a task stands in its call: the line, and the nodes that later lines use. Assumes nothing.
use Rattle.std.specs.Prelude.{Bool, ℕ}

-- filling place i of t; s is t's predecessor
pub data Fill : Type 0 where
  at_39 : Fill
  at_40 : Bool → Fill
  at_43 at_44 at_46 at_47 at_48 at_52 at_49 at_50 : (s : ℕ) → Fill
  at_51 : Fill

pub data Lookup : Type 0 where
  at_12 : Lookup
  at_13 at_15 at_16 at_17 at_18 : ℕ → Lookup

pub data Update : Type 0 where
  at_32 : Update
  at_33 at_36 : ℕ → Update
  filling : (t i : ℕ) → Fill → Update

pub data Resize : Type 0 where
  at_20 : Resize
  at_24 at_27 : ℕ → Resize
  at_28 : (t n : ℕ) → Resize
  filling : (t i : ℕ) → Fill → Resize

pub data Position : Type 0 where
  no_call : Position
  lookup : (k : ℕ) → Lookup → Position
  -- true: insert, false: remove
  update : Bool → (k : ℕ) → Update → Position
  -- true: grow, false: shrink
  resize : Bool → Resize → Position
