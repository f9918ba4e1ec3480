use mathlib.Core.Path.{sym, ap, ◌∙◌}
use mathlib.Core.List.{◌∷◌}
use Prim.Native.Nat.{ℕ}
use native.Mathlib.Numerals.{add-one}
use lib.ListN.{get_or, drop_of_length-le}
use borrow.Author.Rules.{rules}
use lib.ListN.{drop}
use lib.Seq.{drop-cons}
use Rattle.text.proofs.Laws.{going_starts, going_on, going_ends}
use Rattle.text.proofs.put_bytes.Goals as goal

pub loop-b-init : goal.loop-b-init
loop-b-init c = (search rules, rw c.min-place.ensures (going_starts _ _ _))

pub loop-b-preserved : goal.loop-b-preserved
loop-b-preserved c =
    let inv = c.loop-b.invariant in (
      search rules,
      going_on _ _ inv.1 c.put_byte-place.ensures
          (drop-cons c.args.bytes.now c.loop-b.b-index 0 (search rules) ∙ ap (λ (n : ℕ). get_or c.args.bytes.now c.loop-b.b-index 0 ∷ drop n c.args.bytes.now) (sym (add-one c.loop-b.b-index))),
    )

pub shape_of-room : goal.shape_of-room
shape_of-room c = c.loop-b.invariant.1.as_long

pub returns : goal.returns
returns c = going_ends c.loop-b.invariant.1 (drop_of_length-le _ {i = c.loop-b.b-index} (search rules))
