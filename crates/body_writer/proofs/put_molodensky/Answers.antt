-- By `run_fills`, `run_number`, `run_starts` and `run_word`, from what the calls ensure.
-- Assumes nothing.
use native.Mathlib.Omega.{arith}
use Rattle.words.proofs.Laws.{run_fills, run_number, run_starts, run_word}
use Rattle.body_writer.specs.Write.{molodensky_bytes}
use Rattle.body_writer.proofs.put_molodensky.Goals as goal

pub returns : goal.returns
unfolding molodensky_bytes
returns c =
    let a = c.args in
    let r0 = run_starts a.body.now 0 56 (omega arith) in
    let r1 = run_word a.r.flags r0 tt c.put32.ensures in
    let r2 = run_word a.r.first r1 tt c.put32-2.ensures in
    let r3 = run_word a.r.second r2 tt c.put32-3.ensures in
    let r4 = run_word 0 r3 tt c.put32-4.ensures in
    let r5 = run_number a.r.dx r4 tt c.put_number.ensures in
    let r6 = run_number a.r.dy r5 tt c.put_number-2.ensures in
    let r7 = run_number a.r.dz r6 tt c.put_number-3.ensures in
    let r8 = run_number a.r.da r7 tt c.put_number-4.ensures in
    let r9 = run_number a.r.df r8 tt c.put_number-5.ensures in
    run_fills r9 c.requires
