-- By `run_fills`, `run_number`, `run_starts` and `run_word`, from what the calls ensure.
-- Assumes nothing.
use native.Mathlib.Omega.{arith}
use Rattle.words.proofs.Laws.{run_fills, run_number, run_starts, run_word}
use Rattle.body_writer.specs.Write.{helmert_bytes}
use Rattle.body_writer.proofs.Runs.{run_series}
use Rattle.body_writer.proofs.put_helmert.Goals as goal

pub returns : goal.returns
unfolding helmert_bytes
returns c =
    let a = c.args in
    let r0 = run_starts a.body.now 0 248 (omega arith) in
    let r1 = run_word a.h.flags r0 tt c.put32.ensures in
    let r2 = run_word a.h.convention r1 tt c.put32-2.ensures in
    let r3 = run_series a.h.translation a.h.xyz a.h.translation_rate a.h.dxyz r2 tt c.put_series.ensures in
    let r4 = run_series a.h.rotation a.h.rxyz a.h.rotation_rate a.h.drxyz r3 tt c.put_series-2.ensures in
    let r5 = run_number a.h.scale r4 tt c.put_number.ensures in
    let r6 = run_number a.h.s r5 tt c.put_number-2.ensures in
    let r7 = run_number a.h.scale_rate r6 tt c.put_number-3.ensures in
    let r8 = run_number a.h.ds r7 tt c.put_number-4.ensures in
    let r9 = run_number a.h.t_epoch r8 tt c.put_number-5.ensures in
    let r10 = run_number a.h.t_obs r9 tt c.put_number-6.ensures in
    run_fills r10 c.requires
