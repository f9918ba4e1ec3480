use borrow.Author.Rules.{rules}
use Rattle.text.proofs.Laws.{going_here, going_on, going_ends, then, place_within}
use Rattle.fields.specs.Words.{flags_line}
use Rattle.fields.proofs.Flags.{next_flag, no_flag}
use Rattle.fields.proofs.put_flags.Goals as goal

pub loop-name-init : goal.loop-name-init
loop-name-init c = going_here _ _ (place_within _ _ c.put_u32-q.ensures)

pub loop-name-preserved : goal.loop-name-preserved
loop-name-preserved c = going_on _ _ c.loop-name.invariant c.put_flag-q.ensures (next_flag c.args.names.now _ _ _ c.loop-name-test.true)

pub returns : goal.returns
unfolding flags_line
returns c =
    then _ _ _ (then _ _ _ (then _ _ _ c.put_bytes-p.ensures c.put_u32-q.ensures) (going_ends c.loop-name.invariant (no_flag c.args.names.now _ _ (search rules)))) c.put_bytes.ensures
