-- One case for each way through the tests. Each by `count_kept`, `reader-step` and `reader-eleven`,
-- from what the calls ensure. Assumes nothing.
use mathlib.Core.Path.{◌≡◌, refl, sym, ◌∙◌}
use mathlib.Core.Bool.{false}
use borrow.Author.Tests.{eq-eqb, ne_eqb}
use Rattle.sheet.specs.Rules.{refusal1, refusal2, refusal3, refusal4, reader_order, first_broken, refusal_of, unless}
use Rattle.sheet.specs.Layout.{step_count_of}
use Rattle.sheet.proofs.Order.{count_kept, reader-step, reader-eleven}
use Rattle.sheet.proofs.Unless.{refuses, passed, failed, hands_on}
use Rattle.sheet.proofs.check.Goals as goal

pub returns-then-length_broken : goal.returns-then-length_broken
unfolding refusal_of reader_order first_broken unless
returns-then-length_broken c = rw (c.of_call.ensures, ← c.length_broken.ensures, c.if-length_broken.true)

pub returns-then-read32-ne1 : goal.returns-then-read32-ne1
unfolding refusal_of reader_order first_broken refusal2 unless
returns-then-read32-ne1 c = rw (c.of_call-then-read32-ne1.ensures, ← c.length_broken.ensures, c.if-length_broken.false, ← c.read32.ensures, ne_eqb _ _ c.if-read32-ne1.true)

pub returns-then-count_broken : goal.returns-then-count_broken
unfolding refusal_of reader_order first_broken refusal2 unless
returns-then-count_broken c = rw (c.of_call-then-count_broken.ensures, ← c.length_broken.ensures, c.if-length_broken.false, ← c.read32.ensures, eq-eqb _ _ c.if-read32-ne1.false, ← c.step_count-n.ensures.0, ← c.count_broken.ensures, c.if-count_broken.true)

pub directory_broken-requires : goal.directory_broken-requires
directory_broken-requires c = c.step_count-n.ensures.0

pub returns-then-directory_broken : goal.returns-then-directory_broken
unfolding refusal_of reader_order first_broken refusal2 unless
returns-then-directory_broken c = rw (c.of_call-then-directory_broken.ensures, ← c.length_broken.ensures, c.if-length_broken.false, ← c.read32.ensures, eq-eqb _ _ c.if-read32-ne1.false, ← c.directory_broken.ensures, c.if-directory_broken.true, ← c.step_count-n.ensures.0, ← c.count_broken.ensures, c.if-count_broken.false)

pub check_bodies-requires : goal.check_bodies-requires
check_bodies-requires c = (count_kept _ (sym c.count_broken.ensures ∙ c.if-count_broken.false)).1

pub returns-in_err-check_bodies : goal.returns-in_err-check_bodies
unfolding refusal2
returns-in_err-check_bodies c =
    let s = c.args.s.now in
    let one : refusal1 s ≡ false = sym c.length_broken.ensures ∙ c.if-length_broken.false in
    let two : refusal2 s ≡ false = rw (← c.read32.ensures, eq-eqb _ _ c.if-read32-ne1.false) in
    let three : refusal3 (step_count_of s) ≡ false = rw (← c.step_count-n.ensures.0) (sym c.count_broken.ensures ∙ c.if-count_broken.false) in
    let four : refusal4 s ≡ false = sym c.directory_broken.ensures ∙ c.if-directory_broken.false in
    let o = c.check_bodies.ensures in
    let err = c.in_err-check_bodies.was in
    let some = failed _ _ o err in
    rw (reader-step s one two three four _ c.step_count-n.ensures.0 _ refl some) (hands_on _ _ o err c.from_residual.ensures.1 ∙ sym (refuses _ tt some))

pub check_kinds-requires : goal.check_kinds-requires
check_kinds-requires c = (count_kept _ (sym c.count_broken.ensures ∙ c.if-count_broken.false)).1

pub returns : goal.returns
unfolding refusal2
returns c =
    let s = c.args.s.now in
    let one : refusal1 s ≡ false = sym c.length_broken.ensures ∙ c.if-length_broken.false in
    let two : refusal2 s ≡ false = rw (← c.read32.ensures, eq-eqb _ _ c.if-read32-ne1.false) in
    let three : refusal3 (step_count_of s) ≡ false = rw (← c.step_count-n.ensures.0) (sym c.count_broken.ensures ∙ c.if-count_broken.false) in
    let four : refusal4 s ≡ false = sym c.directory_broken.ensures ∙ c.if-directory_broken.false in
    rw (c.check_kinds.ensures, reader-eleven s one two three four _ c.step_count-n.ensures.0 _ refl (passed _ _ c.check_bodies.ensures c.in_ok-check_bodies.was))
