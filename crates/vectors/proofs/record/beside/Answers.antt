-- By `lent` and `handed_out_by`, from what the calls ensure. Assumes nothing.
use Rattle.std.proofs.Common.{ap, ◌∙◌, arith}
use Rattle.vectors.specs.Replay.{compared_of}
use Rattle.vectors.proofs.Turns.{lent, handed_out_by}
use Rattle.vectors.proofs.record.beside.Goals as goal

pub compared-requires : goal.compared-requires
compared-requires c = omega (arith, c.shift-answer.auto, c.fill.auto, c.requires)

pub returns : goal.returns
returns c =
    c.compared.ensures
    ∙ ap (compared_of c.args.told.now)
    (rw (c.shift-answer.ensures.0, c.shift-answer.ensures.1, c.fill.ensures, c.fill-2.ensures)
    (handed_out_by c.args.job.now _ _ _ _ _
    (lent c.args.job.now c.read32-inverse.ensures c.length_at.ensures.0 c.requires.list_len.0 c.requires.list_len.1 c.length_at-2.ensures.0)))
