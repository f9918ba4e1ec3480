-- Invariant: left is n over ten to the number of turns so far, of which there are at most k. A turn
-- divides by ten once more, and two divisions are one by the product (`div-div-eq-div-mul`). After k
-- turns left is n / 10^k. Assumes nothing.
use mathlib.Core.Path.{◌≡◌}
use Prim.Native.Nat.{◌/◌, ◌^◌, ◌≤◌}
use Rattle.figures.proofs.over.Given as goal

abbrev pub invariant-loop : goal.invariant-loop
invariant-loop l = (l.counter ≤ l.k) × (l.left ≡ l.n / 10 ^ l.counter)
