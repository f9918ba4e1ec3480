use native.Mathlib.Omega.{arith}
use mathlib.Core.Path.{◌≡◌, sym}
use Rattle.sheet.specs.Layout.{entries_from, record_of}
use Rattle.sheet.proofs.Entries.{filled_next, filled_all}
use Rattle.sheet.proofs.record.Goals as goal

pub loop-i-init : goal.loop-i-init
unfolding entries_from
loop-i-init c = (omega arith, rw c.blank-blank.ensures)

pub loop-i-preserved : goal.loop-i-preserved
loop-i-preserved c = (omega arith, rw (c.loop-i.invariant.1, c.entry_at.ensures) (filled_next _ _ (omega arith)))

pub returns : goal.returns
unfolding record_of
returns c = let all : c.loop-i.i ≡ c.args.n = omega arith in
    rw (c.read32.ensures, c.loop-i.invariant.1, all, ← filled_all c.args.s.now c.args.n c.requires.0 (sym c.requires.1))
