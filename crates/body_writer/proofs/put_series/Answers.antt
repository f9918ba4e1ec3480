-- By `run_vec3` and `run_starts_vec3`, from what the calls ensure. Assumes nothing.
use native.Mathlib.Omega.{arith}
use Rattle.body_writer.specs.Write.{le_series}
use Rattle.body_writer.proofs.Runs.{run_vec3, run_starts_vec3}
use Rattle.body_writer.proofs.put_series.Goals as goal

pub returns : goal.returns
unfolding le_series
returns c =
    let a = c.args in
    let r1 = run_starts_vec3 {n = 96} a.series (omega arith) tt c.put_vec3.ensures in
    let r2 = run_vec3 a.singles r1 tt c.put_vec3-2.ensures in
    let r3 = run_vec3 a.rate r2 tt c.put_vec3-3.ensures in
    let r4 = run_vec3 a.rate_singles r3 tt c.put_vec3-4.ensures in
    r4.became
