-- By `run_fills`, `run_starts` and `run_word`, from what the calls ensure. Assumes nothing.
use native.Mathlib.Omega.{arith}
use Rattle.words.proofs.Laws.{run_fills, run_starts, run_word}
use Rattle.body_writer.specs.Write.{cart_bytes}
use Rattle.body_writer.proofs.put_cart.Goals as goal

pub returns : goal.returns
unfolding cart_bytes
returns c =
    let a = c.args in
    let r0 = run_starts a.body.now 0 8 (omega arith) in
    let r1 = run_word a.r.ellipsoid r0 tt c.put32.ensures in
    let r2 = run_word 0 r1 tt c.put32-2.ensures in
    run_fills r2 c.requires
