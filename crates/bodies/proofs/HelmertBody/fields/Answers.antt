-- Calls are replaced by what they ensure; the definition is left. Assumes nothing.
use native.Mathlib.Omega.{arith}
use mathlib.Core.Path.{ap}
use lib.ListN.{length-take}
use lib.Seq.{take_all}
use Rattle.bodies.specs.Read.{helmert_of}
use Rattle.bodies.proofs.HelmertBody.fields.Goals as goal

pub slice_bounds-body-end : goal.slice_bounds-body-end
slice_bounds-body-end c = simp length-take (omega arith)

pub read_vec3-requires : goal.read_vec3-requires
read_vec3-requires c = simp length-take (omega (arith, c.requires))

pub read_vec3-requires-2 : goal.read_vec3-requires-2
read_vec3-requires-2 c = simp length-take (omega (arith, c.requires))

pub read_vec3-requires-3 : goal.read_vec3-requires-3
read_vec3-requires-3 c = simp length-take (omega (arith, c.requires))

pub read_vec3-requires-4 : goal.read_vec3-requires-4
read_vec3-requires-4 c = simp length-take (omega (arith, c.requires))

pub read_vec3-requires-5 : goal.read_vec3-requires-5
read_vec3-requires-5 c = simp length-take (omega (arith, c.requires))

pub read_vec3-requires-6 : goal.read_vec3-requires-6
read_vec3-requires-6 c = simp length-take (omega (arith, c.requires))

pub read_vec3-requires-7 : goal.read_vec3-requires-7
read_vec3-requires-7 c = simp length-take (omega (arith, c.requires))

pub read_vec3-requires-8 : goal.read_vec3-requires-8
read_vec3-requires-8 c = simp length-take (omega (arith, c.requires))

pub returns : goal.returns
unfolding helmert_of
returns c =
    rw (
      c.read32.ensures,
      c.read32-2.ensures,
      c.read_vec3.ensures,
      c.read_vec3-2.ensures,
      c.read_vec3-3.ensures,
      c.read_vec3-4.ensures,
      c.read_vec3-5.ensures,
      c.read_vec3-6.ensures,
      c.read_vec3-7.ensures,
      c.read_vec3-8.ensures,
      c.number.ensures,
      c.number-2.ensures,
      c.number-3.ensures,
      c.number-4.ensures,
      c.number-5.ensures,
      c.number-6.ensures,
    )
    (ap helmert_of (take_all 248 c.args.b.now (omega (arith, c.requires))))
