-- Invariant: the list is the one at the start with the changes of the first i words put at its
-- start (`changes_in`, `list_of`), and as long as that; `at` is where they end. A turn lists the word at
-- 4 i (`listed_next`), for which there is room because the changes of all n words fit
-- (`within_all`). At i = n all are listed. Assumes nothing.
use mathlib.Core.Path.{◌≡◌}
use Prim.Native.Nat.{◌≤◌}
use lib.ListN.{length}
use Rattle.words.specs.Words.{put}
use Rattle.rescue.specs.Changes.{changes_in, list_of}
use Rattle.rescue.proofs.list_changes.Given as goal

abbrev pub invariant-loop-i : goal.invariant-loop-i
invariant-loop-i l = (l.i ≤ l.n) × ((l.at ≡ length (list_of (changes_in l.s l.r l.i))) × ((length l.list ≡ length l.initial.list) × (l.list ≡ put l.initial.list 0 (list_of (changes_in l.s l.r l.i)))))
