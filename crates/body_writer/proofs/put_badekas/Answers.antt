-- By `run_fills`, `run_number`, `run_starts`, `run_vec3` and `run_word`, from what the calls ensure.
-- Assumes nothing.
use native.Mathlib.Omega.{arith}
use Rattle.words.proofs.Laws.{run_fills, run_number, run_starts, run_word}
use Rattle.body_writer.specs.Write.{badekas_bytes}
use Rattle.body_writer.proofs.Runs.{run_vec3}
use Rattle.body_writer.proofs.put_badekas.Goals as goal

pub returns : goal.returns
unfolding badekas_bytes
returns c =
    let a = c.args in
    let r0 = run_starts a.body.now 0 88 (omega arith) in
    let r1 = run_word a.r.flags r0 tt c.put32.ensures in
    let r2 = run_word a.r.convention r1 tt c.put32-2.ensures in
    let r3 = run_vec3 a.r.translation r2 tt c.put_vec3.ensures in
    let r4 = run_vec3 a.r.rotation r3 tt c.put_vec3-2.ensures in
    let r5 = run_number a.r.scale r4 tt c.put_number.ensures in
    let r6 = run_vec3 a.r.pivot r5 tt c.put_vec3-3.ensures in
    run_fills r6 c.requires
