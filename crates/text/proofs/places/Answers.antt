-- One case for each answer of the logarithm (`places_from`). Assumes nothing.
use native.Mathlib.Omega.{arith}
use Rattle.text.proofs.Powers.{places_from}
use Rattle.text.specs.Digits.{places_of}
use Rattle.text.proofs.places.Goals as goal

pub returns-in-Some : goal.returns-in-Some
returns-in-Some c =
    let e = c.in-Some.ensures in
    (places_from _ _ _ e.power_le e.next_power_gt (omega (arith, e.bound)), omega (arith, e.bound))

pub returns-in-None : goal.returns-in-None
unfolding places_of
returns-in-None c = (rw (c.in-None.ensures.none), omega arith)
