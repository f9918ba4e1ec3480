-- Calls are replaced by what they ensure; the definition is left. Assumes nothing.
use native.Mathlib.Omega.{arith}
use mathlib.Core.Path.{ap}
use lib.ListN.{length-take}
use lib.Seq.{take_all}
use Rattle.bodies.specs.Read.{molodensky_of}
use Rattle.bodies.proofs.MolodenskyBody.fields.Goals as goal

pub slice_bounds-body-end : goal.slice_bounds-body-end
slice_bounds-body-end c = simp length-take (omega arith)

pub returns : goal.returns
unfolding molodensky_of
returns c =
    rw (
      c.read32.ensures,
      c.read32-2.ensures,
      c.read32-3.ensures,
      c.number.ensures,
      c.number-2.ensures,
      c.number-3.ensures,
      c.number-4.ensures,
      c.number-5.ensures,
    )
    (ap molodensky_of (take_all 56 c.args.b.now (omega (arith, c.requires))))
