use native.Mathlib.Omega.{arith}
use native.Mathlib.Nat.{mod-lt}
use borrow.Author.Rules.{rules}
use Prim.Native.Nat.{◌-◌, ◌/◌}
use Rattle.text.proofs.Powers.{highest_first, next_worth, no_digits, worth_something}
use Rattle.text.proofs.Laws.{going_starts, going_on, going_ends}
use Rattle.text.proofs.put_digits.Goals as goal

pub loop-left-init : goal.loop-left-init
loop-left-init c = (λ h. rw c.saturating_sub.ensures at c.pow-worth.ensures, rw c.min-place.ensures (going_starts _ _ _))

pub nonzero_div-n : goal.nonzero_div-n
nonzero_div-n c = let w = worth_something c.args.base (c.loop-left.left - 1) (search rules) in rw (c.loop-left.invariant.0 (search rules)) w

pub digit-requires : goal.digit-requires
digit-requires c = let m = mod-lt (c.args.n / c.loop-left.worth) {m = c.args.base} (search rules) in omega arith

pub loop-left-preserved : goal.loop-left-preserved
loop-left-preserved c =
    let inv = c.loop-left.invariant in (
      λ h. rw (inv.0 (search rules)) (next_worth c.args.base c.loop-left.left (search rules) h),
      going_on _ _ inv.1 c.put_byte-place.ensures (rw (c.digit.ensures, inv.0 (search rules)) (highest_first _ _ _ (search rules))),
    )

pub shape_of-room : goal.shape_of-room
shape_of-room c = c.loop-left.invariant.1.as_long

pub returns : goal.returns
returns c = going_ends c.loop-left.invariant.1 (no_digits _ _ _ (search rules))
