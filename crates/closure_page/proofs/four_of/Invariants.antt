-- Invariant: ten is 10^k (`ten_to`), and the search from no place on ends where the search from k on
-- does (`places_from`). Four digits end it (`places-found`), fewer go on (`places-on`) with the next
-- power (`next_ten`), and 22 places are the last (`places-end`). Assumes nothing.
use mathlib.Core.Path.{◌≡◌}
use Prim.Native.Nat.{◌-◌, ◌≤◌}
use Rattle.decimal.specs.Places.{ten_to}
use Rattle.closure_page.specs.Page.{places_from}
use Rattle.closure_page.proofs.four_of.Given as goal

abbrev pub invariant-loop-k : goal.invariant-loop-k
invariant-loop-k l = (l.k ≤ 22) × (l.ten ≡ ten_to l.k) × (places_from 22 0 l.x ≡ places_from (22 - l.k) l.k l.x)
