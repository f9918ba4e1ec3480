-- One case for each way through the tests. Calls are replaced by what they ensure, an answer's
-- numbers by the pair (`numbers_of_angle`); the definition is left. Assumes nothing.
use Rattle.molodensky.specs.Step.{offsets_of}
use Rattle.trig.proofs.Laws.{numbers_of_angle}
use Rattle.molodensky.proofs.calc_molodensky_params.Goals as goal

pub returns-then-op : goal.returns-then-op
unfolding offsets_of
returns-then-op c = rw (c.abridged_offsets.ensures, c.numbers-twice.ensures, c.sin_cos.ensures, numbers_of_angle _, c.at-q.ensures, c.if-op.true)

pub returns : goal.returns
unfolding offsets_of
returns c = rw (c.full_offsets.ensures, c.at-q.ensures, c.if-op.false)
