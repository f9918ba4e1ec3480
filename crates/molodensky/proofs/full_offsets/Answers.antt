-- One case for each way through the tests. The tests' outcomes pick the definition's case. Assumes
-- nothing.
use Rattle.molodensky.specs.Step.{full_offsets_of}
use Rattle.molodensky.proofs.full_offsets.Goals.{then-dphi_denom-via-then-dphi_denom, then-dphi_denom-via-else-dphi_denom+then-dlam_denom}
use Rattle.molodensky.proofs.full_offsets.Goals as goal

pub returns-then-dphi_denom : goal.returns-then-dphi_denom
unfolding full_offsets_of
returns-then-dphi_denom c =
    elim c.then-dphi_denom.branch [
      | then-dphi_denom-via-then-dphi_denom w ↦ rw w.if-dphi_denom.true
      | then-dphi_denom-via-else-dphi_denom+then-dlam_denom w ↦ rw (w.if-dphi_denom.false, w.if-dlam_denom.true)
    ]

pub returns : goal.returns
unfolding full_offsets_of
returns c = rw (c.if-dphi_denom.false, c.if-dlam_denom.false)
