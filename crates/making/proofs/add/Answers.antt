-- What stands in the room and is refused is handed on, and the room is not touched; else the record
-- has at most sixteen steps (`few_standing`), and the writer answers. Assumes nothing.
use mathlib.Core.Path.{refl, sym, ◌∙◌}
use borrow.Author.Tests.{eq-eqb, ne_eqb}
use Rattle.sheet.proofs.Unless.{refuses, else_any, passed, passed_value, failed, hands_on}
use Rattle.making.specs.Adding.{written_as, added_of}
use Rattle.making.proofs.Few.{few_standing}
use Rattle.making.proofs.add.Goals as goal

pub returns-in-Err : goal.returns-in-Err
unfolding added_of
returns-in-Err c =
    let o = c.standing.ensures in
    let err = c.in-Err.is in
    let some = failed _ _ o err in
    rw (ne_eqb _ _ some) (hands_on _ _ o err refl ∙ sym (refuses _ _ some), refl)

pub with_step-requires : goal.with_step-requires
with_step-requires c = rw (passed_value _ _ c.standing.ensures c.in-Ok.is) (few_standing _ _)

pub returns-in-Ok : goal.returns-in-Ok
unfolding added_of written_as
returns-in-Ok c =
    let o = c.standing.ensures in
    let ok = c.in-Ok.is in
    let w = c.written.ensures in
    rw (eq-eqb _ _ (passed _ _ o ok), ← passed_value _ _ o ok, ← c.with_step.ensures) (w.0 ∙ sym (else_any _ _ _), w.1)
