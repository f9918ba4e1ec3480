-- What `check_record` refuses is handed on and the room is not touched; else `put_sheet` writes, by
-- `accepted_record`. Assumes nothing.
use mathlib.Core.Path.{sym, ◌∙◌}
use borrow.Author.Tests.{eq-eqb, ne_eqb}
use Rattle.sheet.proofs.Unless.{accepts, refuses, passed, failed, hands_on}
use Rattle.sheet_writer.specs.Rules.{room_after_of}
use Rattle.sheet_writer.proofs.WriterOrder.{accepted_record}
use Rattle.sheet_writer.proofs.write.Goals as goal

pub returns-in_err-check_record : goal.returns-in_err-check_record
unfolding room_after_of
returns-in_err-check_record c =
    let o = c.check_record.ensures in
    let err = c.in_err-check_record.was in
    let some = failed _ _ o err in
    (hands_on _ _ o err c.from_residual.ensures.1 ∙ sym (refuses _ tt some), rw (ne_eqb _ _ some))

pub put_sheet-requires : goal.put_sheet-requires
put_sheet-requires c = accepted_record _ _ (passed _ _ c.check_record.ensures c.in_ok-check_record.was)

pub returns : goal.returns
unfolding room_after_of
returns c =
    let none = passed _ _ c.check_record.ensures c.in_ok-check_record.was in
    (sym (accepts _ tt none), rw (c.put_sheet.ensures, eq-eqb _ _ none))
