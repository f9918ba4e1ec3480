-- By `run_fills`, `run_number`, `run_starts` and `run_word`, from what the calls ensure.
-- Assumes nothing.
use native.Mathlib.Omega.{arith}
use Rattle.words.proofs.Laws.{run_fills, run_number, run_starts, run_word}
use Rattle.body_writer.specs.Write.{deformation_bytes}
use Rattle.body_writer.proofs.put_deformation.Goals as goal

pub returns : goal.returns
unfolding deformation_bytes
returns c =
    let a = c.args in
    let r0 = run_starts a.body.now 0 24 (omega arith) in
    let r1 = run_word a.r.flags r0 tt c.put32.ensures in
    let r2 = run_word a.r.ellipsoid r1 tt c.put32-2.ensures in
    let r3 = run_number a.r.dt r2 tt c.put_number.ensures in
    let r4 = run_number a.r.epoch r3 tt c.put_number-2.ensures in
    run_fills r4 c.requires
