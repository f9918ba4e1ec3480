-- One case for each answer, which `numbers-told` tells apart. Assumes nothing.
use mathlib.Core.Path.{◌≡◌, refl, ◌∙◌}
use Rattle.std.specs.Prelude.{Option, Some, None}
use Rattle.std.specs.Float.{nan}
use Rattle.std.specs.Option.{unwrap_or}
use Rattle.floats.proofs.Nan.{zero_over_zero}
use Rattle.trig.specs.declared.SinCos.{SinCos}
use Rattle.trig.specs.Trig.{numbers_of}
use Rattle.trig.proofs.numbers.Goals as goal

numbers-told : (a : Option SinCos) → unwrap_or a (record { s = nan; c = nan }) ≡ numbers_of a
numbers-told None = refl
numbers-told (Some p) = refl

pub returns : goal.returns
returns c = c.unwrap_or.ensures ∙ rw zero_over_zero (numbers-told c.args.a)
