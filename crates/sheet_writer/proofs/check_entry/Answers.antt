-- Calls are replaced by what they ensure; the definition is left. Assumes nothing.
use Rattle.sheet_writer.specs.Rules.{record_refusal5}
use Rattle.sheet_writer.proofs.check_entry.Goals as goal

pub returns : goal.returns
unfolding record_refusal5
returns c = rw (c.check_step.ensures, c.step_in_rule.ensures, c.entry_in-step.ensures)
