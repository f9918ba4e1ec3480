use borrow.Author.Rules.{rules}
use Prim.Native.Nat.{ℕ, ◌+◌, ◌≤◌, ◌<◌}
use mathlib.Core.Path.{refl, ap}
use mathlib.Core.List.{List}
use lib.ListN.{length, replicate}
use lib.Ieee.{Float}
use Rattle.floats.specs.Binary64.{bits, ◌⊘◌}
use Rattle.floats.proofs.Nan.{zero_over_zero}
use Rattle.tuple.specs.declared.Tuple.{Tuple}
use Rattle.blocks.specs.Each.{Each}
use Rattle.blocks.proofs.Laws.{none_filled, one_more, all_filled}
use Rattle.lists.specs.Sixteen.{row_at}
use Rattle.lists.proofs.Sixteen.{none-there-block, row_read}
use Rattle.lists.proofs.read_block.Goals as goal

none_there : (l : List Float) (i : ℕ) → length l < i + 64
    → Each (replicate 16 (bits 0 ⊘ bits 0)) (λ (j : ℕ). (row_at l i j).x) × Each (replicate 16 (bits 0 ⊘ bits 0)) (λ (j : ℕ). (row_at l i j).y) × Each (replicate 16 (bits 0 ⊘ bits 0)) (λ (j : ℕ). (row_at l i j).z) × Each (replicate 16 (bits 0 ⊘ bits 0)) (λ (j : ℕ). (row_at l i j).t)
none_there l i h =
    (none-there-block l i zero_over_zero h (λ (v : Tuple). v.x) refl, none-there-block l i zero_over_zero h (λ (v : Tuple). v.y) refl, none-there-block l i zero_over_zero h (λ (v : Tuple). v.z) refl, none-there-block l i zero_over_zero h (λ (v : Tuple). v.t) refl)

pub returns-then-saturating_sub-lt64 : goal.returns-then-saturating_sub-lt64
returns-then-saturating_sub-lt64 c = none_there _ _ (search rules)

pub loop-i-init : goal.loop-i-init
loop-i-init c = (none_filled (search rules), none_filled (search rules), none_filled (search rules), none_filled (search rules))

pub loop-i-preserved : goal.loop-i-preserved
loop-i-preserved c =
    let a = c.args in
    let fits : a.at + 64 ≤ length a.list.now = search rules in
    let e = row_read a.list.now a.at c.loop-i.i fits (search rules) in
    let u = c.loop-i.invariant in
    (one_more (search rules) (ap (λ (v : Tuple). v.x) e) u.0, one_more (search rules) (ap (λ (v : Tuple). v.y) e) u.1, one_more (search rules) (ap (λ (v : Tuple). v.z) e) u.2, one_more (search rules) (ap (λ (v : Tuple). v.t) e) u.3)

pub returns : goal.returns
returns c = let u = c.loop-i.invariant in (all_filled (search rules) u.0, all_filled (search rules) u.1, all_filled (search rules) u.2, all_filled (search rules) u.3)
