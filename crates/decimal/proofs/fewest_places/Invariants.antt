-- Invariant: ten is 10^k as a binary64 number (`ten_to`), k is at most 23, and the search from no
-- place on has the outcome of the search from k places on (`first_from`). If the digits at k places
-- pass, they are the outcome (`stops`); if not, the search goes on at k + 1 places (`goes_on`),
-- with ten times 10.0 for the next power (`next_ten`). After 22 places without a pass there is no
-- such decimal (`ends`). Assumes nothing.
use mathlib.Core.Path.{◌≡◌}
use Prim.Native.Nat.{◌-◌, ◌≤◌}
use Rattle.floats.specs.Number.{sign_of}
use Rattle.decimal.specs.Places.{ten_to, passes_of, first_from}
use Rattle.decimal.proofs.fewest_places.Given as goal

abbrev pub invariant-loop-k : goal.invariant-loop-k
invariant-loop-k l =
    (l.k ≤ 23) × (l.ten ≡ ten_to l.k) × (first_from 23 (passes_of l.a 0) (sign_of l.x) l.a 0 ≡ first_from (23 - l.k) (passes_of l.a l.k) (sign_of l.x) l.a l.k)
