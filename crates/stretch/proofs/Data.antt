-- Sameness as data is equality: the test says yes exactly where two numbers, and two tuples, are
-- equal. Assumes nothing.
use mathlib.Core.Path.{◌≡◌, refl, sym, ap, subst}
use mathlib.Core.Bool.{Bool, true, false, ◌&&◌, beq}
use lib.Dec.{T, eqb}
use lib.IntN.{ℤ, pos, negsuc}
use lib.Ieee.{Float, nan, inf, fin, fits, binary64}
use borrow.Author.Tests.{eqb-true, eq-eqb}
use Rattle.floats.specs.Number.{same_of}
use Rattle.floats.proofs.Laws.{same_are_equal, equal_are_same}
use Rattle.tuple.specs.declared.Tuple.{Tuple}
use Rattle.lists.specs.Flat.{four_of}
use Rattle.stretch.specs.Same.{alike_exponent_of, alike_number_of, alike_of}

pub and_true : (p q : Bool) → p && q ≡ true → (p ≡ true) × (q ≡ true)
and_true true true e = (refl, refl)
and_true true false e = (refl, e)
and_true false q e = (e, absurd (subst T (sym e) tt))

beq_true : (s t : Bool) → beq s t ≡ true → s ≡ t
beq_true true true e = refl
beq_true true false e = absurd (subst T (sym e) tt)
beq_true false true e = absurd (subst T (sym e) tt)
beq_true false false e = refl

beq_refl : (s : Bool) → beq s s ≡ true
beq_refl true = refl
beq_refl false = refl

exponent_true : (x y : ℤ) → alike_exponent_of x y ≡ true → x ≡ y
exponent_true (pos m) (pos n) e = ap pos (eqb-true m n e)
exponent_true (pos m) (negsuc n) e = absurd (subst T (sym e) tt)
exponent_true (negsuc m) (pos n) e = absurd (subst T (sym e) tt)
exponent_true (negsuc m) (negsuc n) e = ap negsuc (eqb-true m n e)

exponent_refl : (x : ℤ) → alike_exponent_of x x ≡ true
exponent_refl (pos m) = eq-eqb m m refl
exponent_refl (negsuc m) = eq-eqb m m refl

-- ---- numbers

pub alike_numbers_are_equal : (x y : Float) → alike_number_of x y ≡ true → x ≡ y
unfolding alike_number_of
alike_numbers_are_equal nan nan e = refl
alike_numbers_are_equal nan (inf t) e = absurd (subst T (sym e) tt)
alike_numbers_are_equal nan (fin t n d) e = absurd (subst T (sym e) tt)
alike_numbers_are_equal (inf s) nan e = absurd (subst T (sym e) tt)
alike_numbers_are_equal (inf s) (inf t) e = ap inf (beq_true s t e)
alike_numbers_are_equal (inf s) (fin t n d) e = absurd (subst T (sym e) tt)
alike_numbers_are_equal (fin s m b) nan e = absurd (subst T (sym e) tt)
alike_numbers_are_equal (fin s m b) (inf t) e = absurd (subst T (sym e) tt)
alike_numbers_are_equal (fin s m b) (fin t n d) e =
    let h = and_true (beq s t) _ e in
    let k = and_true (eqb m n) _ h.1 in
    let es : s ≡ t = beq_true s t h.0 in
    let em : m ≡ n = eqb-true m n k.0 in
    let eb : b ≡ d = exponent_true b d k.1 in
    cc

pub equal_numbers_are_alike : (x : Float) → alike_number_of x x ≡ true
unfolding alike_number_of
equal_numbers_are_alike nan = refl
equal_numbers_are_alike (inf s) = beq_refl s
equal_numbers_are_alike (fin s m e) = simp (beq_refl, eq-eqb m m refl, exponent_refl)

pub both : (p q : Bool) → (p ≡ true → q ≡ true) → (q ≡ true → p ≡ true) → p ≡ q
both true q f g = sym (f refl)
both false true f g = g refl
both false false f g = refl

-- of binary64 numbers it is the same 64 bits
pub same_bits_are_alike : (x y : Float) → fits binary64 x ≡ true → fits binary64 y ≡ true → same_of x y ≡ alike_number_of x y
same_bits_are_alike x y fx fy =
    both _ _
    (λ e. rw (same_are_equal x y (subst T (sym fx) tt) (subst T (sym fy) tt) e) (equal_numbers_are_alike y))
    (λ e. rw (alike_numbers_are_equal x y e) (equal_are_same y))

-- ---- tuples

pub alike_are_equal : (v w : Tuple) → alike_of v w ≡ true → v ≡ w
unfolding alike_of
alike_are_equal v w e =
    let h = and_true (alike_number_of v.x w.x) _ e in
    let i = and_true (alike_number_of v.y w.y) _ h.1 in
    let j = and_true (alike_number_of v.z w.z) _ i.1 in
    let ex : v.x ≡ w.x = alike_numbers_are_equal _ _ h.0 in
    let ey : v.y ≡ w.y = alike_numbers_are_equal _ _ i.0 in
    let ez : v.z ≡ w.z = alike_numbers_are_equal _ _ j.0 in
    let et : v.t ≡ w.t = alike_numbers_are_equal _ _ j.1 in
    let r : four_of v.x v.y v.z v.t ≡ four_of w.x w.y w.z w.t = rw (ex, ey, ez, et) in
    r

pub equal_are_alike : (v : Tuple) → alike_of v v ≡ true
unfolding alike_of
equal_are_alike v = simp equal_numbers_are_alike
