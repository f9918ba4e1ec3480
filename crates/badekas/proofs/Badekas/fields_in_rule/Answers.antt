-- Calls are replaced by what they ensure; the definition is left. Assumes nothing.
use Rattle.badekas.specs.Rules.{fields_in_rule_of}
use Rattle.badekas.proofs.Badekas.fields_in_rule.Goals as goal

pub returns : goal.returns
unfolding fields_in_rule_of
returns c =
    rw (
      c.finite3-3.ensures,
      c.is_finite.ensures,
      c.finite3-2.ensures,
      c.finite3.ensures,
    )
