-- Invariant: the text so far, with the lines of the counts that are left appended, is the text with
-- all lines appended (`Going`). A turn appends one line (`next_count`, `going_on`). With no count
-- or no step left there is no line left (`no_count`, `going_ends`). The empty piece in front only
-- brings p within the room (`place_within`), and `then` joins it to the lines. Assumes nothing.
use lib.ListN.{take}
use Rattle.text.specs.Text.{text}
use Rattle.text.proofs.Laws.{Going}
use Rattle.report.specs.Report.{counts_text, met_in}
use Rattle.report.proofs.put_counts.Given as goal

abbrev pub invariant-loop-i : goal.invariant-loop-i
invariant-loop-i l =
    let left = l.i-iterator.iter in
    Going (text l.initial.room l.initial.p) (counts_text (met_in l.mets) 0 (take l.steps l.counts)) (text l.room l.p) (counts_text (met_in l.mets) l.i-iterator.count (take left.n left.iter.rest.now))
