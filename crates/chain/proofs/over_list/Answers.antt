-- One case for each way through the tests: a short list, a sheet of one step, and any other, each from
-- what the call ensures. Assumes nothing.
use native.Mathlib.Omega.{arith}
use mathlib.Core.Path.{◌≡◌}
use Rattle.chain.proofs.over_list.Goals as goal

pub short-requires : goal.short-requires
short-requires c = let p = c.requires in (p.0, p.1, p.2, c.if-list-le64.true)

pub returns-then-list-le64 : goal.returns-then-list-le64
returns-then-list-le64 c = c.short.ensures

pub alone-requires : goal.alone-requires
alone-requires c = omega (arith, c.if-n-eq1.true, c.requires.1)

pub returns-then-n-eq1 : goal.returns-then-n-eq1
returns-then-n-eq1 c =
    let one : c.args.n ≡ 1 = omega (arith, c.if-n-eq1.true) in
    rw one c.alone.ensures

pub returns : goal.returns
returns c = c.planned.ensures
