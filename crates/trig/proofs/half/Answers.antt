-- Arm d has row d, which the checker sees by computing it, and the arm for the rest is met from 32
-- on. Assumes nothing.
use mathlib.Core.Path.{◌≡◌, refl}
use native.Mathlib.Omega.{arith}
use Prim.Native.Nat.{ℕ, zero, suc, ◌≤◌}
use borrow.Author.Tests.{le-ltb}
use Rattle.trig.specs.Table.{half_of}
use Rattle.trig.proofs.half.Goals as goal

-- i is none of the numbers below n
Apart : ℕ → ℕ → Type 0
Apart zero i = Unit
Apart (suc n) i = Apart n i × (i ≡ n → ⊥)

apart : (n i : ℕ) → Apart n i → n ≤ i
unfolding Apart
apart zero i h = omega arith
apart (suc n) i h = omega (arith, apart n i h.0, h.1)

at : {m i : ℕ} → m ≡ i → half_of i ≡ half_of m
at h = rw h refl

last : (d : ℕ) → Apart 32 d → half_of 32 ≡ half_of d
unfolding half_of
last d h = rw (le-ltb d 32 (apart 32 d h))

pub returns-in-0 : goal.returns-in-0
unfolding half_of
returns-in-0 c = at c.in-0.is

pub returns-in-1 : goal.returns-in-1
unfolding half_of
returns-in-1 c = at c.in-1.is

pub returns-in-2 : goal.returns-in-2
unfolding half_of
returns-in-2 c = at c.in-2.is

pub returns-in-3 : goal.returns-in-3
unfolding half_of
returns-in-3 c = at c.in-3.is

pub returns-in-4 : goal.returns-in-4
unfolding half_of
returns-in-4 c = at c.in-4.is

pub returns-in-5 : goal.returns-in-5
unfolding half_of
returns-in-5 c = at c.in-5.is

pub returns-in-6 : goal.returns-in-6
unfolding half_of
returns-in-6 c = at c.in-6.is

pub returns-in-7 : goal.returns-in-7
unfolding half_of
returns-in-7 c = at c.in-7.is

pub returns-in-8 : goal.returns-in-8
unfolding half_of
returns-in-8 c = at c.in-8.is

pub returns-in-9 : goal.returns-in-9
unfolding half_of
returns-in-9 c = at c.in-9.is

pub returns-in-10 : goal.returns-in-10
unfolding half_of
returns-in-10 c = at c.in-10.is

pub returns-in-11 : goal.returns-in-11
unfolding half_of
returns-in-11 c = at c.in-11.is

pub returns-in-12 : goal.returns-in-12
unfolding half_of
returns-in-12 c = at c.in-12.is

pub returns-in-13 : goal.returns-in-13
unfolding half_of
returns-in-13 c = at c.in-13.is

pub returns-in-14 : goal.returns-in-14
unfolding half_of
returns-in-14 c = at c.in-14.is

pub returns-in-15 : goal.returns-in-15
unfolding half_of
returns-in-15 c = at c.in-15.is

pub returns-in-16 : goal.returns-in-16
unfolding half_of
returns-in-16 c = at c.in-16.is

pub returns-in-17 : goal.returns-in-17
unfolding half_of
returns-in-17 c = at c.in-17.is

pub returns-in-18 : goal.returns-in-18
unfolding half_of
returns-in-18 c = at c.in-18.is

pub returns-in-19 : goal.returns-in-19
unfolding half_of
returns-in-19 c = at c.in-19.is

pub returns-in-20 : goal.returns-in-20
unfolding half_of
returns-in-20 c = at c.in-20.is

pub returns-in-21 : goal.returns-in-21
unfolding half_of
returns-in-21 c = at c.in-21.is

pub returns-in-22 : goal.returns-in-22
unfolding half_of
returns-in-22 c = at c.in-22.is

pub returns-in-23 : goal.returns-in-23
unfolding half_of
returns-in-23 c = at c.in-23.is

pub returns-in-24 : goal.returns-in-24
unfolding half_of
returns-in-24 c = at c.in-24.is

pub returns-in-25 : goal.returns-in-25
unfolding half_of
returns-in-25 c = at c.in-25.is

pub returns-in-26 : goal.returns-in-26
unfolding half_of
returns-in-26 c = at c.in-26.is

pub returns-in-27 : goal.returns-in-27
unfolding half_of
returns-in-27 c = at c.in-27.is

pub returns-in-28 : goal.returns-in-28
unfolding half_of
returns-in-28 c = at c.in-28.is

pub returns-in-29 : goal.returns-in-29
unfolding half_of
returns-in-29 c = at c.in-29.is

pub returns-in-30 : goal.returns-in-30
unfolding half_of
returns-in-30 c = at c.in-30.is

pub returns-in-31 : goal.returns-in-31
unfolding half_of
returns-in-31 c = at c.in-31.is

pub returns-in_default : goal.returns-in_default
unfolding half_of Apart
returns-in_default c = last _ c.in_default.in_default-own.rest
