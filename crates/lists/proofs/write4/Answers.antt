-- One case for each return. Each by `four-set` and `put_none`. Assumes nothing.
use borrow.Author.Rules.{rules}
use native.Mathlib.Omega.{arith}
use mathlib.Core.Path.{sym}
use lib.ListN.{length-set}
use Rattle.lists.proofs.Places.{four-set, put_none}
use Rattle.lists.proofs.write4.Goals as goal

pub returns-then-saturating_sub-lt4 : goal.returns-then-saturating_sub-lt4
returns-then-saturating_sub-lt4 c = sym (put_none _ _ _ (search rules))

pub bounds-list-at-2 : goal.bounds-list-at-2
bounds-list-at-2 c = simp length-set (omega arith)

pub bounds-list-at-3 : goal.bounds-list-at-3
bounds-list-at-3 c = simp length-set (omega arith)

pub bounds-list-at-4 : goal.bounds-list-at-4
bounds-list-at-4 c = simp length-set (omega arith)

pub returns : goal.returns
returns c = four-set _ _ _ (search rules)
