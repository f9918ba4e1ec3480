-- By `run_number` and `run_starts_number`, from what the calls ensure. Assumes nothing.
use native.Mathlib.Omega.{arith}
use Rattle.words.proofs.Laws.{run_number, run_starts_number}
use Rattle.body_writer.specs.Write.{le_vec3}
use Rattle.body_writer.proofs.put_vec3.Goals as goal

pub returns : goal.returns
unfolding le_vec3
returns c =
    let a = c.args in
    let r1 = run_starts_number {n = 24} a.v.x (omega arith) tt c.put_number.ensures in
    let r2 = run_number a.v.y r1 tt c.put_number-2.ensures in
    let r3 = run_number a.v.z r2 tt c.put_number-3.ensures in
    r3.became
