-- By `told`, from what the calls ensure. Assumes nothing.
use Rattle.blocks.proofs.Laws.{told}
use Rattle.ellipsoid.specs.Figure.{geocentric_of}
use Rattle.permtide.proofs.sines.Goals as goal

pub returns : goal.returns
unfolding geocentric_of
returns c =
    let lat = c.sin_cos_block.ensures in
    told
    (λ j k. rw (c.atan2_block.ensures.held j k, c.scaled.ensures.held j k, lat.0.held j k, lat.1.held j k))
    c.sin_cos_block-2.ensures.0
