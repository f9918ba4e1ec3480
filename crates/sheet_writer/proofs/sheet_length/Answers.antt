use native.Mathlib.Omega.{arith}
use mathlib.Core.Path.{◌≡◌, ap, ◌∙◌}
use Rattle.sheet_writer.specs.Bytes.{body_start}
use Rattle.sheet_writer.proofs.Writing.{start-next}
use Rattle.sheet_writer.proofs.sheet_length.Goals as goal

pub loop-i-init : goal.loop-i-init
unfolding body_start
loop-i-init c = (omega arith, (c.directory_end-end.ensures.0, omega arith))

pub loop-i-preserved : goal.loop-i-preserved
loop-i-preserved c = (omega arith, (omega (arith, start-next c.args.sheet c.loop-i.i), omega arith))

pub returns : goal.returns
returns c = let all : c.loop-i.i ≡ c.args.sheet.count = omega arith in
    (c.loop-i.invariant.1.0 ∙ ap (body_start c.args.sheet) all, omega arith)
