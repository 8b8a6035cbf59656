-- "66 × 1,024 pass, 66 × 1,025 give 3": openings with the largest bucket pool and with one bucket more. Assumes nothing.
use Rattle.std.specs.Prelude.{◌*◌, ◌≡◌, refl, [], ◌∷◌, map}
use Rattle.spec.specs.Everything.{everything}
use Rattle.cases.specs.OurCases.{sized, refusal_of}

pub bucket_bounds : map refusal_of (sized 1 34 (66 * 1024) 0 ∷ sized 1 34 (66 * 1025) 3 ∷ []) ≡ 0 ∷ 3 ∷ []
unfolding everything refusal_of
bucket_bounds = refl
