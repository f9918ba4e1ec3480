-- From a sixteenth of the sheet's length on an index has its entry past the end, where a word reads
-- as 0. Below that the entry begins in the sheet, and a word is read in the entry, or in what the
-- sheet has of it, as in the whole sheet. Assumes nothing.
use native.Mathlib.Omega.{arith}
use Prim.Native.Nat.{◌-◌, ◌≤◌}
use mathlib.Core.Path.{sym}
use lib.ListN.{length, drop, length-take, length-drop}
use lib.Seq.{take_all}
use Rattle.words.proofs.Laws.{word32_past_end, word32_in_rest, word32_in_part}
use Rattle.sheet.proofs.entry_word.Goals as goal

pub returns-then-s-i : goal.returns-then-s-i
returns-then-s-i c = sym (word32_past_end _ _ (omega arith))

pub slice_bounds-read32-end : goal.slice_bounds-read32-end
slice_bounds-read32-end c = simp (length-take, length-drop) (omega arith)

pub returns-then-rest-ge16 : goal.returns-then-rest-ge16
returns-then-rest-ge16 c =
    let o = c.offset_of-start in
    let a = c.args in
    let long : length (drop o.result a.s.now) ≤ length a.s.now - o.result = simp length-drop (omega arith) in
    rw (c.read32.ensures, take_all _ _ long, o.ensures) (word32_in_part _ _ _ 16 (omega arith))

pub returns : goal.returns
returns c =
    let o = c.offset_of-start in
    let a = c.args in
    let long : length (drop o.result a.s.now) ≤ length a.s.now - o.result = simp length-drop (omega arith) in
    rw (c.read32-2.ensures, take_all _ _ long, o.ensures) (word32_in_rest _ _ _)
