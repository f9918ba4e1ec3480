-- Calls are replaced by what they ensure; the definition is left. Assumes nothing.
use Rattle.helmert.specs.Rules.{fields_in_rule_of}
use Rattle.helmert.proofs.Helmert.fields_in_rule.Goals as goal

pub returns : goal.returns
unfolding fields_in_rule_of
returns c =
    rw (
      c.time-2.ensures,
      c.time.ensures,
      c.scales_finite.ensures,
      c.vectors_finite.ensures,
    )
