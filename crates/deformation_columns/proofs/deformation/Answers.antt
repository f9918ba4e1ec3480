-- The loop's turns are those of a list whose first fix has the index that `lent_from` gives
-- (`later-ran`, `later-counted`), which finds as much lent as `first` (`lent_alike`). Assumes
-- nothing.
use native.Mathlib.Omega.{arith}
use Prim.Native.Nat.{ℕ}
use mathlib.Core.Path.{ap, ◌∙◌}
use Rattle.std.proofs.lemmas.Grind.{common_steps}
use Rattle.lists.specs.Run.{ran_of, count_of}
use Rattle.helmert.specs.Turns.{no_state}
use Rattle.turns.specs.Turns.{moved_turns}
use Rattle.reach.specs.Met.{moved_met_turns}
use Rattle.columns.specs.Columns.{flat_of}
use Rattle.columns.proofs.Passed.{later-ran, later-counted}
use Rattle.deformation_columns.proofs.Beyond.{lent_alike}
use Rattle.deformation_columns.proofs.deformation.Goals as goal

pub returns : goal.returns
returns c =
    let a = c.args in
    let lent = c.well_formed.1.1.1.1.1.1.1 in
    let f = moved_turns a.op a.inverse a.velocities.now a.marks.now in
    let g = moved_met_turns a.op a.inverse a.velocities.now a.marks.now in
    let l = flat_of a.x.now a.y.now a.z.now a.t.now in
    let e = c.run-r.ensures in
    let k = c.lent_from.result in
    let from = c.lent_from.ensures.0 in
    let same = lent_alike a.op a.inverse a.velocities.now a.marks.now (omega (arith, lent.0.1)) (omega (arith, lent.1.0.1)) a.first l in
    let list = later-ran f k no_state l ∙ ap (λ (k : ℕ). ran_of f k no_state l) from ∙ same.0 in
    let counted = later-counted f k no_state l ∙ ap (λ (k : ℕ). count_of f k no_state l) from ∙ same.1 in
    let met = later-counted g k no_state l ∙ ap (λ (k : ℕ). count_of g k no_state l) from ∙ same.2 in
    (grind (arith, common_steps, e.0) ∙ list, grind (arith, common_steps, e.1) ∙ counted, grind (arith, common_steps, e.2) ∙ met)
