-- Which step a body of each kind holds: the record that its kind's reader gives. Assumes nothing.
use Prim.Native.Nat.{ℕ, suc}
use native.Mathlib.Omega.{arith}
use mathlib.Core.Path.{◌≡◌, refl}
use mathlib.Core.Bool.{Bool, true, false, cond}
use mathlib.Core.List.{List}
use lib.Dec.{eqb}
use lib.ListN.{length}
use borrow.Author.Tests.{ne_eqb, eqb-true}
use Rattle.cart.specs.Record.{blank_of}
use Rattle.bodies.specs.declared.Step.TheVariants.{Cart, Permtide, Deformation, Molodensky, Badekas, Helmert}
use Rattle.bodies.specs.Kinds.{length_of}
use Rattle.bodies.specs.Read.{cart_of, helmert_in, cart_in, molodensky_in, permtide_in, deformation_in, badekas_in, blank_step, step_of}
use Rattle.plans.specs.Plans.{held_kind_of}

-- ---- a kind that is held is the body's own, and the body is as long as it asks

held_when : (t : Bool) (kind n k : ℕ) → eqb n (length_of kind) ≡ t → cond t kind 0 ≡ suc k → (kind ≡ suc k) × (n ≡ length_of kind)
held_when true kind n k e h = (h, eqb-true n (length_of kind) e)
held_when false kind n k e h = absurd (omega (arith, h))

module _ (kind : ℕ) (b : List ℕ) where
  held : (k : ℕ) → held_kind_of kind (length b) ≡ suc k → (kind ≡ suc k) × (length b ≡ length_of kind)
  held k h = held_when (eqb (length b) (length_of kind)) kind (length b) k refl h

  pub holds-helmert : held_kind_of kind (length b) ≡ 1 → step_of kind b ≡ Helmert (helmert_in b)
  unfolding step_of length_of helmert_in
  holds-helmert h = let f = held 0 h in let n : length b ≡ 248 = rw f.0 at f.1 in rw (f.0, n)

  pub holds-molodensky : held_kind_of kind (length b) ≡ 3 → step_of kind b ≡ Molodensky (molodensky_in b)
  unfolding step_of length_of molodensky_in
  holds-molodensky h = let f = held 2 h in let n : length b ≡ 56 = rw f.0 at f.1 in rw (f.0, n)

  pub holds-permtide : held_kind_of kind (length b) ≡ 4 → step_of kind b ≡ Permtide (permtide_in b)
  unfolding step_of length_of permtide_in
  holds-permtide h = let f = held 3 h in let n : length b ≡ 24 = rw f.0 at f.1 in rw (f.0, n)

  pub holds-deformation : held_kind_of kind (length b) ≡ 5 → step_of kind b ≡ Deformation (deformation_in b)
  unfolding step_of length_of deformation_in
  holds-deformation h = let f = held 4 h in let n : length b ≡ 24 = rw f.0 at f.1 in rw (f.0, n)

  pub holds-badekas : held_kind_of kind (length b) ≡ 6 → step_of kind b ≡ Badekas (badekas_in b)
  unfolding step_of length_of badekas_in
  holds-badekas h = let f = held 5 h in let n : length b ≡ 88 = rw f.0 at f.1 in rw (f.0, n)

-- ---- any other is a cart step, blank where no kind is held

cart_or_blank : (two : Bool) (kind : ℕ) (b : List ℕ) → eqb kind 2 ≡ two → length b ≡ length_of kind
    → cond two (Cart (cart_of b)) blank_step ≡ Cart (cond two (cart_in b) blank_of)
unfolding cart_in length_of
cart_or_blank true kind b e n = let k : kind ≡ 2 = eqb-true kind 2 e in let m : length b ≡ 8 = rw k at n in rw m
cart_or_blank false kind b e n = refl

cart_when : (t : Bool) (kind : ℕ) (b : List ℕ) → eqb (length b) (length_of kind) ≡ t
    → (cond t kind 0 ≡ 1 → ⊥) → (cond t kind 0 ≡ 3 → ⊥) → (cond t kind 0 ≡ 4 → ⊥) → (cond t kind 0 ≡ 5 → ⊥) → (cond t kind 0 ≡ 6 → ⊥)
    → step_of kind b ≡ Cart (cond (eqb (cond t kind 0) 2) (cart_in b) blank_of)
unfolding step_of
cart_when true kind b e one three four five six =
    rw (e, ne_eqb kind 1 one, ne_eqb kind 3 three, ne_eqb kind 4 four, ne_eqb kind 5 five, ne_eqb kind 6 six) (cart_or_blank (eqb kind 2) kind b refl (eqb-true (length b) (length_of kind) e))
cart_when false kind b e one three four five six = rw e

pub holds-cart : (kind : ℕ) (b : List ℕ)
    → (held_kind_of kind (length b) ≡ 1 → ⊥) → (held_kind_of kind (length b) ≡ 3 → ⊥) → (held_kind_of kind (length b) ≡ 4 → ⊥) → (held_kind_of kind (length b) ≡ 5 → ⊥)
    → (held_kind_of kind (length b) ≡ 6 → ⊥)
    → step_of kind b ≡ Cart (cond (eqb (held_kind_of kind (length b)) 2) (cart_in b) blank_of)
holds-cart kind b one three four five six = cart_when (eqb (length b) (length_of kind)) kind b refl one three four five six
