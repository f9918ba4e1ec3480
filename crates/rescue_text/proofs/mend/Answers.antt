-- Calls are replaced by what they ensure; accepted, the room holds the sheet (`room-holds`). Assumes
-- nothing.
use native.Mathlib.Omega.{arith}
use mathlib.Core.Path.{◌≡◌, sym, ap, ◌∙◌}
use borrow.Author.Tests.{eq-eqb, ne_eqb}
use lib.ListN.{length}
use Rattle.sheet.specs.declared.Refusal.{Refusal}
use Rattle.rescue.specs.Rules.{rescue_refusal_of}
use Rattle.sheet.proofs.Unless.{passed, failed}
use Rattle.rescue_text.proofs.Lines.{room-holds, answered}
use Rattle.rescue_text.proofs.mend.Goals as goal

pub returns-in-Err : goal.returns-in-Err
returns-in-Err c =
    let a = c.args in
    let s = a.s.now in
    let sheet = a.sheet.now in
    let list = a.list.now in
    let e = c.rescue.ensures in
    let number : (rescue_refusal_of s (length sheet) (length list)).number ≡ 0 → ⊥ = λ z. failed _ _ e.0 c.in-Err.is (ap (λ (x : Refusal). x.number) (answered s sheet list) ∙ z) in
    (rw (ne_eqb (rescue_refusal_of s (length sheet) (length list)).number 0 number), (omega arith, e.1.0))

pub returns-in-Ok : goal.returns-in-Ok
returns-in-Ok c =
    let a = c.args in
    let s = a.s.now in
    let sheet = a.sheet.now in
    let list = a.list.now in
    let e = c.rescue.ensures in
    let number : (rescue_refusal_of s (length sheet) (length list)).number ≡ 0 = ap (λ (x : Refusal). x.number) (sym (answered s sheet list)) ∙ passed _ _ e.0 c.in-Ok.is in
    (rw (eq-eqb (rescue_refusal_of s (length sheet) (length list)).number 0 number), (omega (arith, room-holds s (length sheet) (length list) number), e.1.0))
