-- One case for each answer of the kernel. Assumes nothing.
use mathlib.Core.Path.{sym, ap, ◌∙◌}
use Rattle.std.specs.Prelude.{Option}
use Rattle.trig.specs.declared.SinCos.{SinCos}
use Rattle.reach_entries.specs.Codes.{sine_told_of}
use Rattle.reach_entries.proofs.sillfeather_sin_cos_reach.Goals as goal

pub returns-in-Some : goal.returns-in-Some
returns-in-Some c =
    let a = c.args in
    ap (λ (told : Option SinCos). sine_told_of told a.s.now a.c.now) (sym c.in-Some.is ∙ c.sin_cos.ensures)

pub returns-in-None : goal.returns-in-None
returns-in-None c =
    let a = c.args in
    ap (λ (told : Option SinCos). sine_told_of told a.s.now a.c.now) (sym c.in-None.is ∙ c.sin_cos.ensures)
