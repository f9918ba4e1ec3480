-- The decimal that is found has the fewest places of all that read back, and every decimal of up to
-- 15 digits and 22 places is found. Idea: let a be D / 10^j, rounded once, with D below 2^50. Both
-- roundings, to a and of a·10^j, are within 2^-53, so the product lies within 3/8 of D; the whole
-- number closest to it is D, which reads back, and the test passes at j (`passes_if_few`). Where
-- the test passes at k the product with 10^k is below 2^52, so that a decimal of fewer places that
-- reads back has digits below 2^50, and the search would have stopped there. Magnitudes are counted
-- in units of 2^-1074. 4503599627370496 is 2^52, 9007199254740992 is 2^53 and 1125899906842624 is
-- 2^50. Assumes nothing.
use mathlib.Core.Path.{◌≡◌, refl, sym, ap, ◌∙◌, subst}
use Prim.Native.Nat.{ℕ, zero, suc, ◌+◌, ◌*◌, ◌^◌, ◌≤◌, ◌<◌}
use native.Mathlib.Omega.{arith}
use native.Mathlib.Nat.{zero-mul, one-mul, mul-one, mul_comm, mul_assoc, add-mul, mul_right_comm, mul-le-mul_left, mul-le-mul_right, le_of_mul-le-mul_right, lt_of_mul-lt-mul_right, one-le-pow, pow-suc, pow-le-pow_right, le_of_suc-le-suc, le_of_lt, le_trans, lt_of_le_of_lt, lt_of_lt_of_le}
use native.Mathlib.Bridge.{le_by_compare, IsLe}
use mathlib.Core.Bool.{Bool, true, false, cond, true≢false}
use lib.Dec.{T, eqb, ltb}
use lib.IntN.{pos}
use borrow.Author.Tests.{ltb-true, ltb-false, le-ltb}
use lib.Pow.{pow_pos, pow_mono}
use lib.Ieee.{Float, nan, inf, fin, binary64, to_bits, of_bits, of_int, add, mul, div, lt, sum, round, size, units}
use lib.Ieee.Bits.{is_true}
use lib.Ieee.Fits.{round_is}
use lib.Ieee.Exact.{HasValue}
use lib.Ieee.Scale.{grid, overflow, round_same, round_val}
use lib.Ieee.Positive.{positive_of_value, first_pos, mul_at}
use Rattle.floats.specs.Binary64.{◌⊗◌}
use Rattle.floats.specs.Number.{abs_of, same_of}
use Rattle.floats.proofs.Laws.{equal_are_same}
use Rattle.std.specs.declared.option.Option.TheVariants.{None}
use Rattle.decimal.specs.Places.{ten_to, two_to52, whole_of, digits_of, read_of, passes_of, decimal_of, found}
use Rattle.decimal.proofs.Tens.{each, there, ten_is_exact}
use Rattle.decimal.proofs.Near.{Close, rounds_close}
use Rattle.decimal.proofs.ClosestWhole.{Within, whole_is, below_when}
use Rattle.decimal.proofs.Laws.{its_places_pass, fewest_that_pass, none_passes, read_is_rounded_once}

-- ---- a number of n units times 10^k

cancelled : (p x u : ℕ) → 0 < u → p * (u * 1) * 9007199254740992 ≤ x * u * 9007199254740992 + x * u → x * u * 9007199254740992 ≤ p * (u * 1) * 9007199254740992 + x * u
    → (p * 9007199254740992 ≤ x * 9007199254740992 + x) × (x * 9007199254740992 ≤ p * 9007199254740992 + x)
cancelled p x u U a b =
    let one = mul-one u in
    let e = mul_right_comm p 9007199254740992 u in
    let f = mul_right_comm x 9007199254740992 u in
    let g = add-mul (x * 9007199254740992) x u in
    let h = add-mul (p * 9007199254740992) x u in
    let a' : p * u * 9007199254740992 ≤ x * u * 9007199254740992 + x * u = rw one at a in
    let b' : x * u * 9007199254740992 ≤ p * u * 9007199254740992 + x * u = rw one at b in (
      le_of_mul-le-mul_right {k = u} (omega arith) U,
      le_of_mul-le-mul_right {k = u} (omega arith) U,
    )

module _ (a : Float) (n k : ℕ) (value : HasValue a false n (2 ^ 1074)) (some : 0 < n) (places : k < 23) (normal : 4503599627370496 ≤ n * 10 ^ k) where
  product-rounds : a ⊗ ten_to k ≡ round binary64 false (n * 10 ^ k) (2 ^ 1074 * 1)
  product-rounds =
      let ten = ten_is_exact k places in
      mul_at binary64 a (ten_to k) n (2 ^ 1074) (10 ^ k) 1 (positive_of_value a n (2 ^ 1074) value some) (positive_of_value (ten_to k) (10 ^ k) 1 ten (one-le-pow k 10 (omega arith)))
      (pow_pos 1074) (omega arith) value ten

  abbrev product : ℕ
  product = grid binary64 (n * 10 ^ k) (2 ^ 1074 * 1)

  product-close : (product * 9007199254740992 ≤ n * 10 ^ k * 9007199254740992 + n * 10 ^ k) × (n * 10 ^ k * 9007199254740992 ≤ product * 9007199254740992 + n * 10 ^ k)
  product-close =
      let close =
      rounds_close (n * 10 ^ k) (2 ^ 1074 * 1) (pow_pos 1074) (mul-le-mul_right (2 ^ 1074) normal) in
      cancelled product (n * 10 ^ k) (2 ^ 1074) (pow_pos 1074) close.above close.below

-- ---- D / 10^j, rounded once

-- 10^j for j up to 22 is far below 2^1022
ten_is_small : (j : ℕ) → j < 23 → 10 ^ j ≤ 10000000000000000000000
ten_is_small j h = pow-le-pow_right {n = 10} (omega arith) (le_of_suc-le-suc h)

in_reach : 2 * (1125899906842624 * 2 ^ 1074) < overflow binary64
unfolding IsLe
in_reach = le_by_compare (suc (2 * (1125899906842624 * 2 ^ 1074))) (overflow binary64) tt

large : 4503599627370496 * 10000000000000000000000 ≤ 2 ^ 1074
unfolding IsLe
large = le_by_compare (4503599627370496 * 10000000000000000000000) (2 ^ 1074) tt

within_range : (d t u : ℕ) → 0 < d → t ≤ 10000000000000000000000 → 4503599627370496 * 10000000000000000000000 ≤ u → 4503599627370496 * t ≤ d * u
within_range d t u D T U = let m : 1 * u ≤ d * u = mul-le-mul_right u D in let e = one-mul u in omega arith

-- y is the decimal in units, x its rounding times 10^j, which is p after rounding again
not_small : (y x u : ℕ) → u ≤ y → 9007199254740992 ≤ u → y * 9007199254740992 ≤ x * 9007199254740992 + y → 4503599627370496 ≤ x
not_small y x u h k b = omega arith

at_most_twice : (y x : ℕ) → x * 9007199254740992 ≤ y * 9007199254740992 + y → x ≤ 2 * y
at_most_twice y x a = omega arith

near_after_two : (y x yc xc pc : ℕ) → x ≤ 2 * y → xc ≤ yc + y → yc ≤ xc + y → pc ≤ xc + x → xc ≤ pc + x → (pc ≤ yc + 3 * y) × (yc ≤ pc + 3 * y)
near_after_two y x yc xc pc t a b c e = (omega arith, omega arith)

in_eighths : (y p u : ℕ) → y ≤ 1125899906842624 * u → p * 9007199254740992 ≤ y * 9007199254740992 + 3 * y → y * 9007199254740992 ≤ p * 9007199254740992 + 3 * y
    → (p * 8 ≤ y * 8 + 3 * u) × (y * 8 ≤ p * 8 + 3 * u)
in_eighths y p u h a b = (omega arith, omega arith)

under_52 : (y p u : ℕ) → 0 < u → y ≤ 1125899906842624 * u → p * 8 ≤ y * 8 + 3 * u → p < 4503599627370496 * u
under_52 y p u U h a = omega arith

module _ (d j : ℕ) (some : 0 < d) (places : j < 23) where
  abbrev units_of : ℕ
  units_of = grid binary64 d (10 ^ j)

  ten-pos : 0 < 10 ^ j
  ten-pos = one-le-pow j 10 (omega arith)

  decimal-close : Close d (10 ^ j) units_of
  decimal-close = rounds_close d (10 ^ j) ten-pos (within_range d (10 ^ j) (2 ^ 1074) some (ten_is_small j places) large)

  one-at-least : 2 ^ 1074 ≤ d * 2 ^ 1074
  one-at-least = rw one-mul at (mul-le-mul_right (2 ^ 1074) some)

  decimal-normal : 4503599627370496 ≤ units_of * 10 ^ j
  decimal-normal = not_small (d * 2 ^ 1074) (units_of * 10 ^ j) (2 ^ 1074) one-at-least (pow_mono {i = 53} {j = 1074} (omega arith)) decimal-close.below

  units-some : 0 < units_of
  units-some = first_pos units_of (10 ^ j) (lt_of_lt_of_le (omega arith) decimal-normal)

  decimal-twice : units_of * 10 ^ j ≤ 2 * (d * 2 ^ 1074)
  decimal-twice = at_most_twice (d * 2 ^ 1074) (units_of * 10 ^ j) decimal-close.above

-- ---- the test passes at the places of a decimal with digits below 2^50

module _ (d j : ℕ) (some : 0 < d) (few : d < 1125899906842624) (places : j < 23) where
  abbrev a : Float
  a = round binary64 false d (10 ^ j)

  abbrev n : ℕ
  n = grid binary64 d (10 ^ j)

  abbrev p : ℕ
  p = grid binary64 (n * 10 ^ j) (2 ^ 1074 * 1)

  few-units : d * 2 ^ 1074 ≤ 1125899906842624 * 2 ^ 1074
  few-units = mul-le-mul_right (2 ^ 1074) (le_of_lt few)

  finite : n < overflow binary64
  finite =
      lt_of_le_of_lt (le_trans (rw mul-one at (mul-le-mul_left n (ten-pos d j some places))) (le_trans (decimal-twice d j some places) (mul-le-mul_left 2 few-units)))
      in_reach

  value : HasValue a false n (2 ^ 1074)
  value = round_val binary64 d (10 ^ j) finite

  near : Within p d
  near =
      let x = n * 10 ^ j in
      let y = d * 2 ^ 1074 in
      let close = decimal-close d j some places in
      let after = product-close a n j value (units-some d j some places) places (decimal-normal d j some places) in
      let three =
      near_after_two y x (y * 9007199254740992) (x * 9007199254740992) (p * 9007199254740992) (decimal-twice d j some places) close.above close.below after.0 after.1 in
      let eighths = in_eighths y p (2 ^ 1074) few-units three.0 three.1 in
      record { above = eighths.0; below = eighths.1 }

  under : p < 4503599627370496 * 2 ^ 1074
  under = under_52 (d * 2 ^ 1074) p (2 ^ 1074) (pow_pos 1074) few-units near.above

  product_value : HasValue (a ⊗ ten_to j) false p (2 ^ 1074)
  product_value =
      rw (product-rounds a n j value (units-some d j some places) places (decimal-normal d j some places))
      (round_val binary64 (n * 10 ^ j) (2 ^ 1074 * 1) (lt_of_lt_of_le under (pow_mono {i = 1126} {j = 2098} (omega arith))))

  digits-back : digits_of a j ≡ d
  unfolding digits_of
  digits-back = whole_is (a ⊗ ten_to j) p d product_value few near

  passes-there : passes_of a j ≡ true
  unfolding passes_of
  passes-there =
      rw ((below_when (a ⊗ ten_to j) p product_value).1 under, digits-back, read_is_rounded_once d j (omega arith) places) (equal_are_same a)

-- of no digits too
none_is_zero : (j : ℕ) → round binary64 false 0 (10 ^ j) ≡ fin false 0 (pos 0)
unfolding round size
none_is_zero j = round_same binary64 false 0 (10 ^ j) 0 1 (one-le-pow j 10 (omega arith)) (omega arith) (rw (zero-mul 1, zero-mul (10 ^ j)))

zero_passes : T (each (passes_of (fin false 0 (pos 0))) 23)
unfolding each passes_of digits_of whole_of read_of ten_to same_of to_bits of_bits of_int add sum mul div lt round size
zero_passes = tt

passes_if_few : (d j : ℕ) → d < 1125899906842624 → j < 23 → passes_of (round binary64 false d (10 ^ j)) j ≡ true
passes_if_few zero j few places = rw (none_is_zero j) (is_true _ (there (passes_of (fin false 0 (pos 0))) 23 zero_passes j places))
passes_if_few (suc d) j few places = passes-there (suc d) j (omega arith) few places

-- ---- where the test passes at k, a decimal of fewer places that reads back has few digits

-- a fraction of 2^1024 or more rounds to infinity
rounds_over : (a c : ℕ) → overflow binary64 ≤ grid binary64 a c → round binary64 false a c ≡ inf false
unfolding units
rounds_over a c h = round_is binary64 false a c ∙ rw (le-ltb _ _ h)

infinite-times : (y : Float) (n : ℕ) → HasValue y false n 1 → lt (inf false ⊗ y) two_to52 ≡ false
unfolding mul lt of_bits
infinite-times nan n h = absurd h
infinite-times (inf s) n h = absurd h
infinite-times (fin true m e) n h = absurd (true≢false h.0)
infinite-times (fin false m e) n h = by (eqb m 0)
  where
    by : (b : Bool) → lt (cond b nan (inf false)) two_to52 ≡ false
    by true = refl
    by false = refl

infinite_is_not_below : lt (inf false) two_to52 ≡ false
unfolding lt of_bits
infinite_is_not_below = refl

ten_is_more : (n : ℕ) → n ≤ 10 * n
ten_is_more n = omega arith

ten-times : (n j k : ℕ) → j < k → 10 * (n * 10 ^ j) ≤ n * 10 ^ k
ten-times n j k less =
    subst (λ (m : ℕ). m ≤ n * 10 ^ k) (ap (λ (m : ℕ). n * m) (pow-suc 10 j) ∙ sym (mul_assoc n (10 ^ j) 10) ∙ mul_comm (n * 10 ^ j) 10)
    (mul-le-mul_left n (pow-le-pow_right {n = 10} (omega arith) less))

first_of : (p q : Bool) → cond p q false ≡ true → p ≡ true
first_of true q e = refl
first_of false q e = e

nine_tenths : (x p : ℕ) → x * 9007199254740992 ≤ p * 9007199254740992 + x → 9 * x ≤ 10 * p
nine_tenths x p h = omega arith

fewer-units : (y x xk pk u : ℕ) → 9 * y ≤ 10 * x → 10 * x ≤ xk → 9 * xk ≤ 10 * pk → pk < 4503599627370496 * u → y < 1125899906842624 * u
fewer-units y x xk pk u a b c e = omega arith

module _ (d j k : ℕ) (some : 0 < d) (less : j < k) (places : k < 23) (below : lt (round binary64 false d (10 ^ j) ⊗ ten_to k) two_to52 ≡ true) where
  abbrev number : Float
  number = round binary64 false d (10 ^ j)

  abbrev units-there : ℕ
  units-there = grid binary64 d (10 ^ j)

  abbrev pk : ℕ
  pk = grid binary64 (units-there * 10 ^ k) (2 ^ 1074 * 1)

  places-j : j < 23
  places-j = omega arith

  normal-k : 4503599627370496 ≤ units-there * 10 ^ k
  normal-k = le_trans (decimal-normal d j some places-j) (le_trans (ten_is_more (units-there * 10 ^ j)) (ten-times units-there j k less))

  finite_number : units-there < overflow binary64
  finite_number = by (ltb units-there (overflow binary64)) refl
    where
      by : (b : Bool) → ltb units-there (overflow binary64) ≡ b → units-there < overflow binary64
      by true e = ltb-true _ _ e
      by false e =
          absurd (true≢false (sym below ∙ ap (λ (y : Float). lt (y ⊗ ten_to k) two_to52) (rounds_over d (10 ^ j) (ltb-false _ _ e)) ∙ infinite-times (ten_to k) (10 ^ k) (ten_is_exact k places)))

  value-of-it : HasValue number false units-there (2 ^ 1074)
  value-of-it = round_val binary64 d (10 ^ j) finite_number

  product_is : number ⊗ ten_to k ≡ round binary64 false (units-there * 10 ^ k) (2 ^ 1074 * 1)
  product_is = product-rounds number units-there k value-of-it (units-some d j some places-j) places normal-k

  finite-product : pk < overflow binary64
  unfolding lt
  finite-product = by (ltb pk (overflow binary64)) refl
    where
      by : (b : Bool) → ltb pk (overflow binary64) ≡ b → pk < overflow binary64
      by true e = ltb-true _ _ e
      by false e = absurd (true≢false (sym below ∙ ap (λ (y : Float). lt y two_to52) (product_is ∙ rounds_over (units-there * 10 ^ k) (2 ^ 1074 * 1) (ltb-false _ _ e)) ∙ infinite_is_not_below))

  product-below : pk < 4503599627370496 * 2 ^ 1074
  product-below =
      (below_when (number ⊗ ten_to k) pk (rw product_is (round_val binary64 (units-there * 10 ^ k) (2 ^ 1074 * 1) finite-product))).0 below

  digits-few : d < 1125899906842624
  digits-few =
      let close = decimal-close d j some places-j in
      let after = product-close number units-there k value-of-it (units-some d j some places-j) places normal-k in
      lt_of_mul-lt-mul_right (2 ^ 1074)
      (fewer-units (d * 2 ^ 1074) (units-there * 10 ^ j) (units-there * 10 ^ k) pk (2 ^ 1074) (nine_tenths (d * 2 ^ 1074) (units-there * 10 ^ j) close.below) (ten-times units-there j k less) (nine_tenths (units-there * 10 ^ k) pk after.1) product-below)

-- ---- the promises

-- No decimal of fewer places, whatever its digits, is read as the number's magnitude by a reader
-- that rounds once.
pub fewest_places : (x : Float) (s : Bool) (d k : ℕ) → decimal_of x ≡ found s d k → (digits places : ℕ) → places < k
    → round binary64 false digits (10 ^ places) ≡ abs_of x → ⊥
unfolding passes_of
fewest_places x s d k e zero j less reads =
    let fewest = fewest_that_pass x s d k e in
    true≢false (sym (passes_if_few zero j (omega arith) (omega (arith, fewest.0))) ∙ ap (λ (y : Float). passes_of y j) reads ∙ fewest.1 j less)
fewest_places x s d k e (suc n) j less reads =
    let fewest = fewest_that_pass x s d k e in
    let few = digits-few (suc n) j k (omega arith) less fewest.0 (rw reads (first_of _ _ (its_places_pass x s d k e))) in
    true≢false (sym (passes_if_few (suc n) j few (omega (arith, fewest.0))) ∙ ap (λ (y : Float). passes_of y j) reads ∙ fewest.1 j less)

-- A number that a decimal is read as is found, where the digits are below 2^50, as up to 15 digits
-- are, and the places up to 22.
pub short_decimals_are_found : (x : Float) (digits places : ℕ) → digits < 2 ^ 50 → places < 23 → round binary64 false digits (10 ^ places) ≡ abs_of x
    → decimal_of x ≡ None → ⊥
short_decimals_are_found x d j few places reads none =
    true≢false (sym (passes_if_few d j few places) ∙ ap (λ (y : Float). passes_of y j) reads ∙ none_passes x none j places)
