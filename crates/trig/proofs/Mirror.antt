-- Rows from the first half of the circle: the sine is odd and the cosine even, so that row i is
-- that of the step as far from 0, its sine turned where i is past the half.
-- The checker computes each of the 64. Assumes nothing.
use Prim.Native.Nat.{ℕ, zero, suc, ◌+◌, ◌*◌, ◌/◌, ◌<◌}
use native.Mathlib.Nat.{not-suc-le-zero, le_of_suc-le-suc, eq-or-lt_of_le}
use mathlib.Core.Path.{◌≡◌, refl, sym, subst}
use mathlib.Core.Logic.{◌⊎◌, inl, inr}
use lib.Ieee.{Float, of_bits, neg, mul, round, size}
use Rattle.floats.specs.Binary64.{◌⊗◌, bits}
use Rattle.trig.specs.declared.Row.{Row}
use Rattle.trig.specs.Table.{row_at, aside_of, half_of}

-- a property of each number below n
AllBelow : ℕ → (ℕ → Type 0) → Type 0
AllBelow zero P = Unit
AllBelow (suc n) P = AllBelow n P × P n

below : (P : ℕ → Type 0) (n : ℕ) → AllBelow n P → (i : ℕ) → i < n → P i
unfolding AllBelow
below P zero all i h = absurd (not-suc-le-zero h)
below P (suc n) all i h = at-or-below (eq-or-lt_of_le (le_of_suc-le-suc h)) (λ k. below P n all.0 i k)
  where
    at-or-below : (i ≡ n) ⊎ (i < n) → (i < n → P i) → P i
    at-or-below (inl e) before = subst P (sym e) all.1
    at-or-below (inr k) before = before k

-- 1, and -1 past the half
abbrev pub turn_at : ℕ → Float
turn_at i = bits (0x3ff0_0000_0000_0000 + (i + 31) / 64 * 0x8000_0000_0000_0000)

abbrev pub mirrored : ℕ → Row
mirrored i =
    record { 0 = turn_at i ⊗ (half_of (aside_of i)).0; 1 = turn_at i ⊗ (half_of (aside_of i)).1; 2 = (half_of (aside_of i)).2; 3 = (half_of (aside_of i)).3 }

each : AllBelow 64 (λ (i : ℕ). mirrored i ≡ row_at i)
unfolding AllBelow aside_of half_of of_bits neg mul round size
each = (
  (
    (
      (
        (
          (
            (
              (
                (
                  (
                    (
                      (
                        (
                          (
                            (
                              (
                                (
                                  (
                                    (
                                      (
                                        (
                                          (
                                            (
                                              (
                                                (
                                                  (
                                                    (
                                                      (
                                                        (
                                                          (
                                                            (
                                                              (
                                                                (
                                                                  (
                                                                    (
                                                                      (
                                                                        (
                                                                          (
                                                                            (
                                                                              (
                                                                                (
                                                                                  (
                                                                                    (
                                                                                      (
                                                                                        (
                                                                                          (
                                                                                            (
                                                                                              (
                                                                                                ((((((((((((((((tt, refl), refl), refl), refl), refl), refl), refl), refl), refl), refl), refl), refl), refl), refl), refl), refl),
                                                                                                refl,
                                                                                              ),
                                                                                              refl,
                                                                                            ),
                                                                                            refl,
                                                                                          ),
                                                                                          refl,
                                                                                        ),
                                                                                        refl,
                                                                                      ),
                                                                                      refl,
                                                                                    ),
                                                                                    refl,
                                                                                  ),
                                                                                  refl,
                                                                                ),
                                                                                refl,
                                                                              ),
                                                                              refl,
                                                                            ),
                                                                            refl,
                                                                          ),
                                                                          refl,
                                                                        ),
                                                                        refl,
                                                                      ),
                                                                      refl,
                                                                    ),
                                                                    refl,
                                                                  ),
                                                                  refl,
                                                                ),
                                                                refl,
                                                              ),
                                                              refl,
                                                            ),
                                                            refl,
                                                          ),
                                                          refl,
                                                        ),
                                                        refl,
                                                      ),
                                                      refl,
                                                    ),
                                                    refl,
                                                  ),
                                                  refl,
                                                ),
                                                refl,
                                              ),
                                              refl,
                                            ),
                                            refl,
                                          ),
                                          refl,
                                        ),
                                        refl,
                                      ),
                                      refl,
                                    ),
                                    refl,
                                  ),
                                  refl,
                                ),
                                refl,
                              ),
                              refl,
                            ),
                            refl,
                          ),
                          refl,
                        ),
                        refl,
                      ),
                      refl,
                    ),
                    refl,
                  ),
                  refl,
                ),
                refl,
              ),
              refl,
            ),
            refl,
          ),
          refl,
        ),
        refl,
      ),
      refl,
    ),
    refl,
  ),
  refl,
)

pub row_is_mirrored : (i : ℕ) → i < 64 → mirrored i ≡ row_at i
row_is_mirrored = below (λ (i : ℕ). mirrored i ≡ row_at i) 64 each
