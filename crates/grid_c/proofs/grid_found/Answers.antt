-- By what the call ensures, number by number. Assumes nothing.
use mathlib.Core.Path.{ap}
use Rattle.grid.specs.declared.Marked.{Marked}
use Rattle.grid_c.proofs.grid_found.Goals as goal

pub returns : goal.returns
returns c =
    let e = c.found-v.ensures in
    (ap (λ (v : Marked). v.mark) e, ap (λ (v : Marked). v.east) e, ap (λ (v : Marked). v.north) e, ap (λ (v : Marked). v.up) e)
