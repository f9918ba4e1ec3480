-- Invariant: the word of all numbers is the word of those that are left, begun at c (`check_from`). A
-- turn takes in one number, in two halves (`check_on`); past the last the word is there
-- (`check_end`). Assumes nothing.
use mathlib.Core.Path.{◌≡◌}
use Prim.Native.Nat.{◌<◌, ◌≤◌}
use lib.ListN.{length, drop}
use Rattle.closure_page.specs.Page.{check_from}
use Rattle.closure_page.proofs.check_word.Given as goal

abbrev pub invariant-loop-n : goal.invariant-loop-n
invariant-loop-n l = (l.n-index ≤ length l.numbers) × (l.c < 99999989) × (check_from 0 l.numbers ≡ check_from l.c (drop l.n-index l.numbers))
