-- The rows' own flat list is the part of the whole one (`flat_mid`). Assumes nothing.
use Prim.Native.Nat.{ℕ, ◌+◌, ◌*◌, ◌-◌}
use native.Mathlib.Omega.{arith}
use mathlib.Core.Path.{◌≡◌, ap, ◌∙◌}
use mathlib.Core.List.{List}
use lib.ListN.{take, drop}
use lib.Ieee.{Float}
use Rattle.columns.specs.Columns.{flat_of}
use Rattle.plans.specs.Passes.{tally_of}
use Rattle.stretch.proofs.Parts.{flat_mid}
use Rattle.kept_reach.specs.Reach.{time_pass}
use Rattle.kept_columns_reach.proofs.pass_rows.Goals as goal

pub returns : goal.returns
returns c =
    let a = c.args in
    let size : a.first + a.n - a.first ≡ a.n = omega arith in
    let part = flat_mid a.x.now a.y.now a.z.now a.t.now c.requires.0 a.first (a.first + a.n - a.first) in
    c.pass.ensures
    ∙ ap (tally_of (time_pass a.shift) 0 a.from) (part ∙ ap (λ (k : ℕ). take (4 * k) (drop (4 * a.first) (flat_of a.x.now a.y.now a.z.now a.t.now))) size)
