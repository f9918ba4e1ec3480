-- A number that is none of the table's names no ellipsoid. Assumes nothing.
use mathlib.Core.Path.{◌≡◌, refl}
use Prim.Native.Nat.{ℕ, zero, suc}
use Rattle.ellipsoid.specs.Figure.{no_axes, axes_of}

pub no_row : (n : ℕ) → (n ≡ 1 → ⊥) → (n ≡ 2 → ⊥) → (n ≡ 3 → ⊥) → (n ≡ 4 → ⊥) → (n ≡ 5 → ⊥) → axes_of n ≡ no_axes
no_row zero h1 h2 h3 h4 h5 = refl
no_row (suc zero) h1 h2 h3 h4 h5 = absurd (h1 refl)
no_row (suc (suc zero)) h1 h2 h3 h4 h5 = absurd (h2 refl)
no_row (suc (suc (suc zero))) h1 h2 h3 h4 h5 = absurd (h3 refl)
no_row (suc (suc (suc (suc zero)))) h1 h2 h3 h4 h5 = absurd (h4 refl)
no_row (suc (suc (suc (suc (suc zero))))) h1 h2 h3 h4 h5 = absurd (h5 refl)
no_row (suc (suc (suc (suc (suc (suc n)))))) h1 h2 h3 h4 h5 = refl
