-- Calls are replaced by what they ensure; the definition is left. Assumes nothing.
use native.Mathlib.Omega.{arith}
use mathlib.Core.Path.{ap}
use lib.ListN.{length-take}
use lib.Seq.{take_all}
use Rattle.bodies.specs.Read.{badekas_of}
use Rattle.bodies.proofs.BadekasBody.fields.Goals as goal

pub slice_bounds-body-end : goal.slice_bounds-body-end
slice_bounds-body-end c = simp length-take (omega arith)

pub read_vec3-requires : goal.read_vec3-requires
read_vec3-requires c = simp length-take (omega (arith, c.requires))

pub read_vec3-requires-2 : goal.read_vec3-requires-2
read_vec3-requires-2 c = simp length-take (omega (arith, c.requires))

pub read_vec3-requires-3 : goal.read_vec3-requires-3
read_vec3-requires-3 c = simp length-take (omega (arith, c.requires))

pub returns : goal.returns
unfolding badekas_of
returns c =
    rw (
      c.read32.ensures,
      c.read32-2.ensures,
      c.read_vec3.ensures,
      c.read_vec3-2.ensures,
      c.number.ensures,
      c.read_vec3-3.ensures,
    )
    (ap badekas_of (take_all 88 c.args.b.now (omega (arith, c.requires))))
