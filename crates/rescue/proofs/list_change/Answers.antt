-- By `listed_one` and `listed_none`. Assumes nothing.
use native.Mathlib.Omega.{arith}
use mathlib.Core.Path.{sym, ap, ◌∙◌}
use Prim.Native.Nat.{◌+◌, ◌≤◌}
use native.Mathlib.Nat.{add-zero}
use lib.ListN.{length, length-set}
use Rattle.words.specs.Words.{put}
use Rattle.words.proofs.Laws.{put_none}
use Rattle.rescue.proofs.Listing.{listed_none, listed_one}
use Rattle.rescue.proofs.Rebuilding.{three-set}
use Rattle.rescue.proofs.list_change.Goals as goal

pub bounds-list-at : goal.bounds-list-at
bounds-list-at c =
    let a = c.args in
    let one = ap length (listed_one a.place a.old a.new c.if-old-new.true) in
    omega (arith, one, c.requires)

pub bounds-list-at-then-old-new : goal.bounds-list-at-then-old-new
bounds-list-at-then-old-new c =
    let a = c.args in
    let one = ap length (listed_one a.place a.old a.new c.if-old-new.true) in
    simp length-set (omega (arith, one, c.requires))

pub bounds-list-at-then-old-new-2 : goal.bounds-list-at-then-old-new-2
bounds-list-at-then-old-new-2 c =
    let a = c.args in
    let one = ap length (listed_one a.place a.old a.new c.if-old-new.true) in
    simp length-set (omega (arith, one, c.requires))

pub returns-then-old-new : goal.returns-then-old-new
returns-then-old-new c =
    let a = c.args in
    let one = listed_one a.place a.old a.new c.if-old-new.true in
    let room : a.at + 3 ≤ length a.list.now = omega (arith, ap length one, c.requires) in
    (three-set a.list.now a.at a.place a.old a.new room ∙ ap (put a.list.now a.at) (sym one), rw one)

pub returns : goal.returns
returns c =
    let a = c.args in
    let none = listed_none a.place a.old a.new c.if-old-new.false in
    (sym (put_none a.list.now a.at) ∙ ap (put a.list.now a.at) (sym none), rw none (sym (add-zero a.at)))
