-- Each line of a grow or a shrink is not refused with 8, and does in the words what it does in the model. Assumes nothing.
use Rattle.std.specs.Prelude.{◌≡◌, Bool, ℕ, ◌*◌}
use Rattle.std.proofs.Math.Path.{refl}
use Rattle.std.proofs.Math.Bool.{true, false}
use Rattle.spec.specs.declared.Task.{Task}
use Rattle.spec.specs.Machine.{Machine}
use Rattle.spec.specs.Sound.{listed_size}
use Rattle.spec.specs.Lines.{Effect, resized}
use Rattle.laws.specs.Sizes.{ListedSize, size_1, size_2, size_4, size_8, size_16, size_32, is_listed}
use Rattle.model.specs.Heap.{Heap}
use Rattle.model.specs.Positions.{Fill, at_50, Resize, resize}
use Rattle.model.specs.Lines.{resize_fills}
use Rattle.linear.specs.Represents.{Represents, Records}
use Rattle.linear.specs.EffectOf.{EffectOf, moves_to, freezes, fills, takes_bucket}
use Rattle.linear.specs.FillEffects.{FillEffectOf, fill_moves, fill_freezes, fill_fills, fill_takes_bucket}
use Rattle.linear.specs.Matches.{resize_call, MayResize}

pub fill_in_resize : {y : Machine} {h : Heap} {K : ℕ → Type 0} {R : Records} {rep : Represents y h K R} (b : Bool) {t i : ℕ} {c : Task} {l : Fill} {e : Effect}
    → MayResize b (h.size t)
    → FillEffectOf rep (resize_call b) 0 t i c l e → EffectOf rep c (resize b (Resize.filling t i l)) e
fill_in_resize b {t} {i} u (fill_moves l' st names m n) = moves_to (resize b (Resize.filling t i l')) (resize_fills st) names (m, u) n
fill_in_resize b {t} {i} u (fill_freezes l' x j kx bx px st names m n) =
    freezes (resize b (Resize.filling t i l')) x j kx bx px (resize_fills st) names (m, u) n
fill_in_resize b {t} {i} u (fill_fills l' s r q q' bi e z nb new st names m n) =
    fills (resize b (Resize.filling t i l')) t s i r q q' bi e z nb new (resize_fills st) names (m, u) n
fill_in_resize b {t} {i} u (fill_takes_bucket s r ks st names m nb lt free few own foreign) =
    takes_bucket (resize b (Resize.filling t i (at_50 s))) s t i r ks (resize_fills st) names (m, u) nb lt free few own foreign refl

-- the size that line 27 makes
abbrev pub Sizes : Bool → ℕ → ℕ → Type 0
Sizes true n m = m ≡ 2 * n
Sizes false n m = n ≡ 2 * m

pub new_size : (b : Bool) (n : ℕ) → ListedSize n → MayResize b n → (m : ℕ) × (resized (resize_call b) n ≡ m) × (listed_size m ≡ true) × Sizes b n m
unfolding resized
new_size true n (size_1 e) l = (2, rw e, is_listed (size_2 refl), rw e)
new_size true n (size_2 e) l = (4, rw e, is_listed (size_4 refl), rw e)
new_size true n (size_4 e) l = (8, rw e, is_listed (size_8 refl), rw e)
new_size true n (size_8 e) l = (16, rw e, is_listed (size_16 refl), rw e)
new_size true n (size_16 e) l = (32, rw e, is_listed (size_32 refl), rw e)
new_size true n (size_32 e) l = absurd (l e)
new_size false n (size_1 e) l = absurd (l e)
new_size false n (size_2 e) l = (1, rw e, is_listed (size_1 refl), rw e)
new_size false n (size_4 e) l = (2, rw e, is_listed (size_2 refl), rw e)
new_size false n (size_8 e) l = (4, rw e, is_listed (size_4 refl), rw e)
new_size false n (size_16 e) l = (8, rw e, is_listed (size_8 refl), rw e)
new_size false n (size_32 e) l = (16, rw e, is_listed (size_16 refl), rw e)
