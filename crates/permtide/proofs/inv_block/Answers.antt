-- By `told`, from what the calls ensure. Assumes nothing.
use Rattle.blocks.proofs.Laws.{told}
use Rattle.permtide.specs.Step.{lift_of}
use Rattle.permtide.proofs.inv_block.Goals as goal

pub returns : goal.returns
unfolding lift_of
returns c = told (λ j k. rw (c.sines.ensures.held j k)) c.shifted.ensures
