-- A refusal's text is what `put_refused` writes. Accepted, the mended sheet stands at the rescue's room's
-- start (`sheet-stands`) and its changes at the list's (`changes-stand`), so that what
-- `put_rescued` reads there are the rebuilt sheet and the lines of its changes (`lines_are`). Assumes
-- nothing.
use native.Mathlib.Omega.{arith}
use mathlib.Core.Path.{◌≡◌, sym, ap, ◌∙◌}
use mathlib.Core.List.{List}
use Prim.Native.Nat.{ℕ, ◌*◌}
use borrow.Author.Tests.{eq-eqb, ne_eqb}
use lib.ListN.{length, take}
use lib.Seq.{length-take-le}
use Rattle.text.specs.Text.{text, appended}
use Rattle.sheet.specs.declared.Refusal.{Refusal}
use Rattle.rescue.specs.Rebuilt.{rebuilt_of}
use Rattle.rescue.specs.Changes.{changes_of, list_of}
use Rattle.rescue.specs.Rules.{rescue_refusal_of}
use Rattle.sheet.proofs.Unless.{passed, passed_value, failed, at_err}
use Rattle.rescue.proofs.Laws.{sheet-stands, changes-stand, changes-counted}
use Rattle.rescue_text.specs.RescueText.{change_lines, lines_from, rescued_around, rescue_text}
use Rattle.rescue_text.proofs.Lines.{lines_are, room-holds, list-holds, answered}
use Rattle.rescue_text.proofs.answer.Goals as goal

pub returns-in-Err : goal.returns-in-Err
unfolding rescue_text
returns-in-Err c =
    let a = c.args in
    let s = a.s.now in
    let sheet = a.sheet.now in
    let list = a.list.now in
    let e = c.rescue.ensures in
    let refusal : rescue_refusal_of s (length sheet) (length list) ≡ c.in-Err.refusal = sym (answered s sheet list) ∙ (at_err _ _ _ (sym e.0 ∙ c.in-Err.is)).1 in
    let number : (rescue_refusal_of s (length sheet) (length list)).number ≡ 0 → ⊥ = λ z. failed _ _ e.0 c.in-Err.is (ap (λ (x : Refusal). x.number) (answered s sheet list) ∙ z) in
    rw (ne_eqb (rescue_refusal_of s (length sheet) (length list)).number 0 number, refusal) c.put_refused.ensures

pub slice_bounds-put_rescued-end : goal.slice_bounds-put_rescued-end
slice_bounds-put_rescued-end c =
    let a = c.args in
    let s = a.s.now in
    let sheet = a.sheet.now in
    let list = a.list.now in
    let e = c.rescue.ensures in
    let number : (rescue_refusal_of s (length sheet) (length list)).number ≡ 0 = ap (λ (x : Refusal). x.number) (sym (answered s sheet list)) ∙ passed _ _ e.0 c.in-Ok.is in
    omega (arith, room-holds s (length sheet) (length list) number)

pub slice_bounds-put_rescued-end-in-Ok : goal.slice_bounds-put_rescued-end-in-Ok
slice_bounds-put_rescued-end-in-Ok c =
    let a = c.args in
    let s = a.s.now in
    let sheet = a.sheet.now in
    let list = a.list.now in
    let e = c.rescue.ensures in
    let number : (rescue_refusal_of s (length sheet) (length list)).number ≡ 0 = ap (λ (x : Refusal). x.number) (sym (answered s sheet list)) ∙ passed _ _ e.0 c.in-Ok.is in
    sym (length-take-le _ _ (omega (arith, room-holds s (length sheet) (length list) number)))

pub put_rescued-requires : goal.put_rescued-requires
put_rescued-requires c =
    let a = c.args in
    let s = a.s.now in
    let sheet = a.sheet.now in
    let list = a.list.now in
    let e = c.rescue.ensures in
    let number : (rescue_refusal_of s (length sheet) (length list)).number ≡ 0 = ap (λ (x : Refusal). x.number) (sym (answered s sheet list)) ∙ passed _ _ e.0 c.in-Ok.is in
    let counted : c.in-Ok.changed ≡ length (changes_of s) = passed_value _ _ e.0 c.in-Ok.is ∙ changes-counted s sheet list number in
    omega (arith, counted, list-holds s (length sheet) (length list) number)

pub returns-in-Ok : goal.returns-in-Ok
unfolding rescue_text
returns-in-Ok c =
    let a = c.args in
    let s = a.s.now in
    let sheet = a.sheet.now in
    let list = a.list.now in
    let e = c.rescue.ensures in
    let number : (rescue_refusal_of s (length sheet) (length list)).number ≡ 0 = ap (λ (x : Refusal). x.number) (sym (answered s sheet list)) ∙ passed _ _ e.0 c.in-Ok.is in
    let counted : c.in-Ok.changed ≡ length (changes_of s) = passed_value _ _ e.0 c.in-Ok.is ∙ changes-counted s sheet list number in
    let stands : take (length s) c.rescue.new.room ≡ rebuilt_of s = ap (take (length s)) e.1.0 ∙ sheet-stands s sheet list number in
    let changes : take (3 * length (changes_of s)) c.rescue.new.list ≡ list_of (changes_of s) = ap (take (3 * length (changes_of s))) e.1.1 ∙ changes-stand s sheet list number in
    let lines : lines_from c.rescue.new.list c.in-Ok.changed 0 ≡ change_lines (changes_of s) =
    ap (λ (k : ℕ). lines_from c.rescue.new.list k 0) counted ∙ lines_are c.rescue.new.list (changes_of s) changes in
    rw (eq-eqb (rescue_refusal_of s (length sheet) (length list)).number 0 number)
    (c.put_rescued.ensures
    ∙ ap (appended (text a.room.now 0))
    (ap (λ (l : List ℕ). rescued_around c.in-Ok.changed l (take (length s) c.rescue.new.room)) lines
    ∙ ap (λ (k : ℕ). rescued_around k (change_lines (changes_of s)) (take (length s) c.rescue.new.room)) counted
    ∙ ap (rescued_around (length (changes_of s)) (change_lines (changes_of s))) stands))
