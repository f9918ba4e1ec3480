use borrow.Author.Rules.{rules}
use Prim.Native.Nat.{◌+◌, ◌*◌, ◌<◌}
use mathlib.Core.Path.{◌≡◌, refl, sym, ap, ◌∙◌}
use Rattle.tuple.specs.Columns.{row_of}
use Rattle.lists.specs.Sixteen.{put_rows}
use Rattle.lists.proofs.Sixteen.{put-rows}
use Rattle.columns.specs.Columns.{flat_of}
use Rattle.column_blocks.proofs.Blocks.{still_level, block_room, block-set}
use Rattle.column_blocks.proofs.store_there.Goals as goal

pub loop-j-init : goal.loop-j-init
loop-j-init c = (c.requires.0, refl, search rules, refl)

pub loop-j-preserved : goal.loop-j-preserved
loop-j-preserved c =
    let l = c.loop-j in
    let a = c.args in
    let few : l.j < 16 = search rules in
    let rows = row_of a.bx.now a.by.now a.bz.now a.bt.now in
    (still_level l.x l.y l.z l.t l.invariant.0 (a.i + l.j) (rows l.j), search (rules, l.invariant.1), search rules, block-set _ _ _ _ c.requires.0 a.i c.requires.1 _ _ _ _ a.bx.now a.by.now a.bz.now a.bt.now l.invariant.0 l.invariant.1 l.j few l.invariant.3)

pub returns : goal.returns
returns c =
    let l = c.loop-j in
    let a = c.args in
    let all : l.j ≡ 16 = search rules in
    let l₀ = flat_of a.x.now a.y.now a.z.now a.t.now in
    l.invariant.3
    ∙ ap (put_rows l₀ (4 * a.i) (row_of a.bx.now a.by.now a.bz.now a.bt.now)) all
    ∙ sym (put-rows l₀ (4 * a.i) _ _ _ _ (block_room _ _ _ _ c.requires.0 a.i c.requires.1))
