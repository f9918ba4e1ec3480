-- By `number_in_part`, from what the calls ensure. Assumes nothing.
use mathlib.Core.Path.{◌≡◌}
use Prim.Native.Nat.{◌+◌, ◌-◌}
use native.Mathlib.Nat.{add-zero}
use Rattle.words.proofs.Laws.{number_in_part}
use Rattle.bodies.specs.Read.{vec3_at}
use native.Mathlib.Omega.{arith}
use Rattle.bodies.proofs.read_vec3.Goals as goal

pub returns : goal.returns
unfolding vec3_at
returns c =
    let s = c.args.b.now in
    let at = c.args.at in
    let n : c.args.at + 24 - c.args.at ≡ 24 = omega arith in
    rw (
      c.number.ensures,
      c.number-2.ensures,
      c.number-3.ensures,
      n,
      number_in_part s at 0 24 (omega arith),
      number_in_part s at 8 24 (omega arith),
      number_in_part s at 16 24 (omega arith),
      add-zero at,
    )
