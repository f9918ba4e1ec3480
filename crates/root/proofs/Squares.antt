-- Squares and powers of two of whole numbers: what `omega` takes as facts in the proofs of the
-- functions. Assumes nothing.
use Rattle.std.proofs.Common.{◌≡◌, ℕ, zero, suc, ◌+◌, ◌-◌, ◌*◌, ◌/◌, ◌%◌, ◌^◌, ◌<◌, ◌≤◌, ◌⊎◌, sym, refl, ap, ◌∙◌, subst, inl, inr, add_assoc, mul_assoc, mul_comm, add-mul, mul-le-mul, lt_of_not-le, div-add-mod', mul-add, mul_left_comm, arith, pow_mono, pow-add}
use native.Mathlib.Decide.{dec_le}
use Rattle.root.specs.Whole.{NearestRoot}

pub sq_mono : {x y : ℕ} → x ≤ y → x * x ≤ y * y
sq_mono h = mul-le-mul h h

-- (x + y)²
sq-add : (x y : ℕ) → (x + y) * (x + y) ≡ x * x + (x * y + (x * y + y * y))
sq-add x y = simp (mul-add, add-mul, mul_comm, add_assoc) refl

pub sq_one : (x : ℕ) → (x + 1) * (x + 1) ≡ x * x + (x + x + 1)
sq_one x = omega (arith, sq-add x 1)

pub sq_double : (x : ℕ) → (2 * x) * (2 * x) ≡ 4 * (x * x)
sq_double x = simp (mul_assoc, mul_comm, mul_left_comm) (omega arith)

pub sq_double' : (x : ℕ) → (x * 2) * (x * 2) ≡ 4 * (x * x)
sq_double' x = simp (mul_assoc, mul_comm, mul_left_comm) (omega arith)

-- (2 r - 1)², for r above 0
sq-odd : (r : ℕ) → 1 ≤ r → (2 * r - 1) * (2 * r - 1) + 4 * r ≡ 4 * (r * r) + 1
sq-odd r h =
    let k : ℕ = 2 * r - 1 in
    let e : k + 1 ≡ 2 * r = omega arith in
    let f : (k + 1) * (k + 1) ≡ (2 * r) * (2 * r) = ap (λ (z : ℕ). z * z) e in
    omega (arith, sq_one k, sq_double r)

-- n above r² - r and up to r² + r has r as its nearest root
pub nearest_root_lem : (n r : ℕ) → 1 ≤ r → r * r < n + r → n ≤ r * r + r → NearestRoot n r
nearest_root_lem n r p h k = record {
  above = omega (arith, sq-odd r p);
  below = omega (arith, sq_one (2 * r), sq_double r);
}

pub sq-lt : (x y : ℕ) → x * x < y * y → x < y
sq-lt x y h = go (dec_le y x)
  where
    go : Dec (y ≤ x) → x < y
    go (yes k) = let m : y * y ≤ x * x = sq_mono k in omega arith
    go (no f) = lt_of_not-le f

-- one binary digit more
pub pow_one : (i : ℕ) → 2 ^ (i + 1) ≡ 2 * 2 ^ i
pow_one i = rw pow-add (omega arith)

pub pow_step : (a i : ℕ) → a * (2 ^ (i + 1) * 2 ^ (i + 1)) ≡ 4 * (a * (2 ^ i * 2 ^ i))
pow_step a i =
    let P : ℕ = 2 ^ i in
    let e : a * (2 ^ (i + 1) * 2 ^ (i + 1)) ≡ a * (2 * P * (2 * P)) = ap (λ (z : ℕ). a * (z * z)) (pow_one i) in
    let f : a * (2 * P * (2 * P)) ≡ a * (4 * (P * P)) = ap (λ (z : ℕ). a * z) (sq_double P) in
    let g : a * (4 * (P * P)) ≡ 4 * (a * (P * P)) = mul_left_comm a 4 (P * P) in
    e ∙ f ∙ g

-- ---- the guess g, cut into h and l at 26 bits

cut : (h l : ℕ) → (h * 67108864 + l) * (h * 67108864 + l) ≡ h * h * 4503599627370496 + (h * l * 134217728 + l * l)
cut h l =
    let s = sq-add (h * 67108864) l in
    let p : h * 67108864 * (h * 67108864) ≡ h * h * 4503599627370496 = simp (mul_assoc, mul_comm, mul_left_comm) (omega arith) in
    let q : h * 67108864 * l ≡ h * l * 67108864 = simp (mul_assoc, mul_comm, mul_left_comm) refl in
    omega arith

-- the residual a * 2 ^ 52 - g² is v - 2 g, where d, w and v are what is left, step by step
pub balance : (a g d w v : ℕ) → d + g / 67108864 * (g / 67108864) ≡ a
    → w + 2 * (g / 67108864) * (g % 67108864) ≡ d * 67108864 + 17179869184
    → v + (g % 67108864 * (g % 67108864) + 1152921504606846976) ≡ w * 67108864 + 2 * g
    → a * 4503599627370496 + 2 * g ≡ g * g + v
balance a g d w v i j k =
    let h : ℕ = g / 67108864 in
    let l : ℕ = g % 67108864 in
    let e : h * 67108864 + l ≡ g = div-add-mod' g 67108864 in
    let f : (h * 67108864 + l) * (h * 67108864 + l) ≡ g * g = ap (λ (z : ℕ). z * z) e in
    let c = cut h l in
    let m = mul_assoc 2 h l in
    omega arith

-- the guess moved by at most one
pub pick : (n g v u d : ℕ) → 3 ≤ g → n + 2 * g ≡ g * g + v → v < 4 * g
    → ((u ≡ 1) × (3 * g < v)) ⊎ ((u ≡ 0) × (v ≤ 3 * g)) → ((d ≡ 1) × (v ≤ g)) ⊎ ((d ≡ 0) × (g < v)) → NearestRoot n (g + u - d)
pick n g v u d three e lt (inl p) (inl q) = absurd (omega arith)
pick n g v u d three e lt (inl p) (inr q) =
    let r : g + 1 ≡ g + u - d = omega arith in
    let f = sq_one g in
    subst (NearestRoot n) r (nearest_root_lem n (g + 1) (omega arith) (omega arith) (omega arith))
pick n g v u d three e lt (inr p) (inl q) =
    let r : g - 1 ≡ g + u - d = omega arith in
    let k : g - 1 + 1 ≡ g = omega arith in
    let o : (g - 1 + 1) * (g - 1 + 1) ≡ g * g = ap (λ (z : ℕ). z * z) k in
    let f = sq_one (g - 1) in
    subst (NearestRoot n) r (nearest_root_lem n (g - 1) (omega arith) (omega arith) (omega arith))
pick n g v u d three e lt (inr p) (inr q) =
    let r : g ≡ g + u - d = omega arith in
    subst (NearestRoot n) r (nearest_root_lem n g (omega arith) (omega arith) (omega arith))

-- ---- scaled by a power of two
pub sq_scale : (x y : ℕ) → (x * y) * (x * y) ≡ x * x * (y * y)
sq_scale x y = simp (mul_assoc, mul_comm, mul_left_comm) refl

pow_bit : (o : ℕ) → o < 2 → 2 ^ o ≡ o + 1
pow_bit zero h = refl
pow_bit (suc zero) h = refl
pow_bit (suc (suc o)) h = absurd (omega arith)

-- p is 52, a bit and an even number
spread : (m p : ℕ) → 52 ≤ p → m * 2 ^ p ≡ m * (p % 2 + 1) * 4503599627370496 * (2 ^ ((p - 52) / 2) * 2 ^ ((p - 52) / 2))
spread m p h =
    let o : ℕ = p % 2 in
    let k : ℕ = (p - 52) / 2 in
    let d : p ≡ 52 + (o + (k + k)) = omega arith in
    let e : 2 ^ (52 + (o + (k + k))) ≡ 2 ^ 52 * (2 ^ o * (2 ^ k * 2 ^ k)) = pow-add 2 52 (o + (k + k)) ∙ ap (λ (z : ℕ). 2 ^ 52 * z) (pow-add 2 o (k + k) ∙ ap (λ (z : ℕ). 2 ^ o * z) (pow-add 2 k k)) in
    ap (λ (z : ℕ). m * 2 ^ z) d ∙ ap (λ (z : ℕ). m * z) e ∙ ap (λ (z : ℕ). m * (2 ^ 52 * (z * (2 ^ k * 2 ^ k)))) (pow_bit o (omega arith)) ∙ regroup m 4503599627370496 (o + 1) (2 ^ k * 2 ^ k)
  where
    regroup : (m c o s : ℕ) → m * (c * (o * s)) ≡ m * o * c * s
    regroup m c o s = simp (mul_assoc, mul_comm, mul_left_comm) refl

-- so m * 2 ^ p is a * 2 ^ 52 * 4 ^ k, where a is m or its double
pub split : (m p a k : ℕ) → 52 ≤ p → k ≡ (p - 52) / 2 → a ≡ m * (p % 2 + 1) → a * 4503599627370496 * (2 ^ k * 2 ^ k) ≡ m * 2 ^ p
split m p a k h e f =
    ap (λ (z : ℕ). z * 4503599627370496 * (2 ^ k * 2 ^ k)) f
    ∙ ap (λ (z : ℕ). m * (p % 2 + 1) * 4503599627370496 * (2 ^ z * 2 ^ z)) e
    ∙ sym (spread m p h)

-- ---- a significand brought up to 53 digits
pub halve : (m p : ℕ) → 1 ≤ p → m * 2 * 2 ^ (p - 1) ≡ m * 2 ^ p
halve m p h =
    let e : p - 1 + 1 ≡ p = omega arith in
    mul_assoc m 2 (2 ^ (p - 1)) ∙ ap (λ (z : ℕ). m * z) (sym (pow_one (p - 1)) ∙ ap (λ (z : ℕ). 2 ^ z) e)

pub double_pow : (p : ℕ) → 1 ≤ p → p ≤ 1074 → 2 ^ (1074 - (p - 1)) ≡ 2 * 2 ^ (1074 - p)
double_pow p h k =
    let e : 1074 - (p - 1) ≡ 1074 - p + 1 = omega arith in
    ap (λ (z : ℕ). 2 ^ z) e ∙ pow_one (1074 - p)

pub few : (j m i : ℕ) → 2 ^ j ≤ m → m < 2 ^ i → j < i
few j m i h k = go (dec_le i j)
  where
    go : Dec (i ≤ j) → j < i
    go (yes l) = let e : 2 ^ i ≤ 2 ^ j = pow_mono l in absurd (omega arith)
    go (no f) = lt_of_not-le f
