-- By `told`, from what the calls ensure. Assumes nothing.
use Rattle.blocks.proofs.Laws.{told}
use Rattle.molodensky_block.proofs.double_sines.Goals as goal

pub returns : goal.returns
returns c = told (λ j k. rw (c.scaled.ensures.held j k)) c.sin_cos_block.ensures.0
