-- Invariant: the text so far, with the flags that are left appended, is the text with all of them
-- appended (`Going`), and what is left of the number begins with the next flag. A turn writes one
-- flag (`next_flag`, `going_on`) and halves the number. Assumes nothing.
use lib.ListN.{drop}
use Rattle.text.specs.Text.{text}
use Rattle.text.proofs.Laws.{Going}
use Rattle.std.specs.Prelude.{map}
use Rattle.fields.specs.Words.{named_flags}
use Rattle.fields.proofs.put_flags.Given as goal

abbrev pub invariant-loop-name : goal.invariant-loop-name
invariant-loop-name l =
    Going (text l.initial.room l.initial.q) (named_flags (map (λ name. name.now) l.names) l.flags) (text l.room l.q) (named_flags (map (λ name. name.now) (drop l.name-index l.names)) l.left)
