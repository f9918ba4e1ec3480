-- An array of plans has sixteen steps at most: the bound, and where it changes nothing; and how an
-- array is filled, step after step (`Ready`). Assumes nothing.
use Prim.Native.Nat.{ℕ, zero, suc, ◌+◌, ◌≤◌, ◌<◌}
use native.Mathlib.Omega.{arith}
use mathlib.Core.Path.{◌≡◌, refl, ◌∙◌}
use mathlib.Core.List.{List}
use mathlib.Core.Bool.{Bool, true, false, cond}
use borrow.Author.Tests.{ltb-true, ltb-false}
use lib.Dec.{ltb}
use lib.ListN.{length, set, replicate}
use lib.Seq.{get_or-set_same, get_or-set_other}
use Rattle.std.specs.Prelude.{min}
use Rattle.std.proofs.Math.Nat.{min-eq_left, min-eq_right}
use Rattle.plans.specs.declared.Plan.{Plan}
use Rattle.plans.specs.Plans.{plan_in, at_most_sixteen, Ready}

most : (below : Bool) (n : ℕ) → ltb n 16 ≡ below → cond below n 16 ≤ 16
most true n e = omega (arith, ltb-true n 16 e)
most false n e = omega arith

pub at_most_sixteen_lem : (n : ℕ) → at_most_sixteen n ≤ 16
unfolding at_most_sixteen
at_most_sixteen_lem n = most (ltb n 16) n refl

same : (below : Bool) (n : ℕ) → ltb n 16 ≡ below → n ≤ 16 → cond below n 16 ≡ n
same true n e h = refl
same false n e h = omega (arith, h, ltb-false n 16 e)

pub sixteen_or_fewer : (n : ℕ) → n ≤ 16 → at_most_sixteen n ≡ n
unfolding at_most_sixteen
sixteen_or_fewer n h = same (ltb n 16) n refl h

-- ---- the smaller of a number and sixteen is what the definition's test picks

smaller : (below : Bool) (n : ℕ) → ltb n 16 ≡ below → min n 16 ≡ cond below n 16
smaller true n e = min-eq_left (omega (arith, ltb-true n 16 e))
smaller false n e = min-eq_right (omega (arith, ltb-false n 16 e))

pub the_smaller : (n : ℕ) → min n 16 ≡ at_most_sixteen n
unfolding at_most_sixteen
the_smaller n = smaller (ltb n 16) n refl

-- ---- filled from the front

pub ready_first : (plan : ℕ → Plan) {p : Plan} → p ≡ plan 0 → Ready plan 1 (replicate 16 p)
ready_first plan e zero h = e
ready_first plan e (suc i) h = absurd (omega (arith, h))

module _ (plan : ℕ → Plan) (plans : List Plan) {p : Plan} (i : ℕ) (long : length plans ≡ 16) (below : i < 16) (e : p ≡ plan i) where
  put : (j : ℕ) → j < i + 1 → Ready plan i plans → (before : Bool) → ltb j i ≡ before → plan_in (set plans i p) j ≡ plan j
  put j h now true b = get_or-set_other plans i j p _ (λ s. absurd (omega (arith, ltb-true j i b, s))) ∙ now j (ltb-true j i b)
  put j h now false b =
      let s : j ≡ i = omega (arith, h, ltb-false j i b) in
      rw s (get_or-set_same plans i p _ (omega (arith, long, below)) ∙ e)

  pub ready-again : Ready plan i plans → Ready plan (i + 1) (set plans i p)
  ready-again now j h = put j h now (ltb j i) refl
