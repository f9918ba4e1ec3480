-- What a digit is worth, and how many digits a number has. Assumes nothing.
use mathlib.Core.Path.{◌≡◌, refl, ap, ◌∙◌}
use Prim.Native.Nat.{ℕ, zero, suc, ◌+◌, ◌-◌, ◌*◌, ◌/◌, ◌%◌, ◌^◌, ◌<◌, ◌≤◌}
use mathlib.Core.Bool.{Bool, true, false}
use mathlib.Core.List.{[], ◌∷◌, ◌++◌}
use native.Mathlib.Omega.{arith}
use native.Mathlib.Nat.{pow-suc, mul-div_cancel, one-le-pow, mul-le-mul_right}
use native.Mathlib.Numerals.{add-one, unary_clauses}
use lib.Dec.{leb}
use borrow.Author.Tests.{le-leb, lt-leb, leb-true, leb-false}
use Rattle.text.specs.Digits.{digit, digits_of, places_of}

pub below : (base k : ℕ) → 0 < base → base ^ suc k / base ≡ base ^ k
below base k h = ap (λ (n : ℕ). n / base) (pow-suc base k) ∙ mul-div_cancel (base ^ k) h

-- a digit is worth something
pub worth_something : (base k : ℕ) → 0 < base → 0 < base ^ k
worth_something base k h = one-le-pow k base h

-- a higher digit is worth no less
pub worth_more : (base i j : ℕ) → 0 < base → i ≤ j → base ^ i ≤ base ^ j
worth_more base zero j h l = simp unary_clauses (one-le-pow j base h)
worth_more base (suc i) zero h l = absurd (omega arith)
worth_more base (suc i) (suc j) h l = rw (pow-suc, pow-suc) (mul-le-mul_right base (worth_more base i j h (omega arith)))

-- the next digit is worth the base'th part
pub next_worth : (base k : ℕ) → 0 < base → 0 < k - 1 → base ^ (k - 1) / base ≡ base ^ (k - 1 - 1)
next_worth base zero h p = absurd (omega arith)
next_worth base (suc zero) h p = absurd (omega arith)
next_worth base (suc (suc k)) h p =
    let o : suc (suc k) - 1 ≡ suc k = omega arith in
    let o' : suc k - 1 ≡ k = omega arith in
    rw (o, o') (below base k h)

-- the highest of k digits, then the others
pub highest_first : (base k n : ℕ) → 0 < k → digits_of base k n ≡ (digit (n / base ^ (k - 1) % base) ∷ []) ++ digits_of base (k - 1) n
unfolding digits_of
highest_first base zero n h = absurd (omega arith)
highest_first base (suc k) n h = let o : suc k - 1 ≡ k = omega arith in rw o

pub no_digits : (base k n : ℕ) → k ≤ 0 → digits_of base k n ≡ []
unfolding digits_of
no_digits base zero n h = refl
no_digits base (suc k) n h = absurd (omega arith)

-- ---- how many digits

-- a number from 10^m to below 10^(m + 1) has m + 1 digits
pub places_from : (m k n : ℕ) → 10 ^ m ≤ n → n < 10 * 10 ^ m → m ≤ k → m + 1 ≡ places_of k n
unfolding places_of
places_from m zero n low high h = let z : m ≡ 0 = omega arith in rw z
places_from m (suc k) n low high h = by (leb (suc k) m) refl (places_from m k n low high)
  where
    by : (b : Bool) → leb (suc k) m ≡ b → (m ≤ k → m + 1 ≡ places_of k n) → m + 1 ≡ places_of (suc k) n
    by true e rest =
        let t = leb-true (suc k) m e in
        let z : m ≡ suc k = omega arith in
        rw (z, add-one, le-leb (10 ^ suc k) n (rw z at low))
    by false e rest =
        let t = leb-false (suc k) m e in
        let w = worth_more 10 (suc m) (suc k) (omega arith) (omega arith) in
        let p = pow-suc 10 m in
        rw (lt-leb (10 ^ suc k) n (omega arith)) (rest (omega arith))
