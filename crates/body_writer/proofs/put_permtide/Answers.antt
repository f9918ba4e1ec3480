-- By `run_fills`, `run_number`, `run_starts` and `run_word`, from what the calls ensure.
-- Assumes nothing.
use native.Mathlib.Omega.{arith}
use Rattle.words.proofs.Laws.{run_fills, run_number, run_starts, run_word}
use Rattle.body_writer.specs.Write.{permtide_bytes}
use Rattle.body_writer.proofs.put_permtide.Goals as goal

pub returns : goal.returns
unfolding permtide_bytes
returns c =
    let a = c.args in
    let r0 = run_starts a.body.now 0 24 (omega arith) in
    let r1 = run_word a.r.ellipsoid r0 tt c.put32.ensures in
    let r2 = run_word a.r.to r1 tt c.put32-2.ensures in
    let r3 = run_word a.r.from r2 tt c.put32-3.ensures in
    let r4 = run_word 0 r3 tt c.put32-4.ensures in
    let r5 = run_number a.r.k r4 tt c.put_number.ensures in
    run_fills r5 c.requires
