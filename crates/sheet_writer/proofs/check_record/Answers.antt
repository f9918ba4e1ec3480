-- One case for each way through the tests. Each by `count_kept`, `writer-three`, `writer-four` and
-- `writer-step`, from what the calls ensure. Assumes nothing.
use Prim.Native.Nat.{ℕ}
use mathlib.Core.Path.{◌≡◌, refl, sym, ap, ◌∙◌}
use mathlib.Core.Bool.{true, false}
use borrow.Author.Tests.{lt-ltb, le-ltb}
use Rattle.sheet.specs.Rules.{refusal3, some_from, unless}
use Rattle.sheet_writer.specs.Rules.{record_refusal4, refusal15, inverted_broken_in}
use Rattle.sheet.proofs.Order.{count_kept}
use Rattle.sheet_writer.proofs.WriterOrder.{writer-three, writer-four, writer-step, writer-eleven, writer-short, writer-accepts}
use Rattle.sheet.proofs.Unless.{refuses, passed, failed, hands_on}
use Rattle.sheet_writer.proofs.check_record.Goals as goal

pub returns-then-count_broken : goal.returns-then-count_broken
unfolding unless
returns-then-count_broken c =
    let a = c.args in
    let three : refusal3 a.sheet.count ≡ true = ap refusal3 (sym c.wide-n.ensures.0) ∙ sym c.count_broken.ensures ∙ c.if-count_broken.true in
    rw (c.of_call.ensures, writer-three a.sheet a.room three)

pub inverted_broken-requires : goal.inverted_broken-requires
inverted_broken-requires c = (count_kept _ (sym c.count_broken.ensures ∙ c.if-count_broken.false)).1

pub returns-then-inverted_broken : goal.returns-then-inverted_broken
unfolding record_refusal4 unless
returns-then-inverted_broken c =
    let a = c.args in
    let three : refusal3 a.sheet.count ≡ false = ap refusal3 (sym c.wide-n.ensures.0) ∙ sym c.count_broken.ensures ∙ c.if-count_broken.false in
    let four : record_refusal4 a.sheet ≡ true =
    ap (λ (k : ℕ). some_from (inverted_broken_in a.sheet) k 0) (sym c.wide-n.ensures.0) ∙ sym c.inverted_broken.ensures ∙ c.if-inverted_broken.true in
    rw (c.of_call-then-inverted_broken.ensures, writer-four a.sheet a.room three four)

pub check_entries-requires : goal.check_entries-requires
check_entries-requires c = (count_kept _ (sym c.count_broken.ensures ∙ c.if-count_broken.false)).1

pub returns-in_err-check_entries : goal.returns-in_err-check_entries
unfolding record_refusal4
returns-in_err-check_entries c =
    let a = c.args in
    let three : refusal3 a.sheet.count ≡ false = ap refusal3 (sym c.wide-n.ensures.0) ∙ sym c.count_broken.ensures ∙ c.if-count_broken.false in
    let four : record_refusal4 a.sheet ≡ false =
    ap (λ (k : ℕ). some_from (inverted_broken_in a.sheet) k 0) (sym c.wide-n.ensures.0) ∙ sym c.inverted_broken.ensures ∙ c.if-inverted_broken.false in
    let o = c.check_entries.ensures in
    let err = c.in_err-check_entries.was in
    let some = failed _ _ o err in
    rw (writer-step a.sheet a.room three four _ c.wide-n.ensures.0 _ refl some) (hands_on _ _ o err c.from_residual.ensures.1 ∙ sym (refuses _ tt some))

pub check_steps-requires : goal.check_steps-requires
check_steps-requires c = (count_kept _ (sym c.count_broken.ensures ∙ c.if-count_broken.false)).1

pub returns-in_err-check_steps : goal.returns-in_err-check_steps
unfolding record_refusal4
returns-in_err-check_steps c =
    let a = c.args in
    let three : refusal3 a.sheet.count ≡ false = ap refusal3 (sym c.wide-n.ensures.0) ∙ sym c.count_broken.ensures ∙ c.if-count_broken.false in
    let four : record_refusal4 a.sheet ≡ false =
    ap (λ (k : ℕ). some_from (inverted_broken_in a.sheet) k 0) (sym c.wide-n.ensures.0) ∙ sym c.inverted_broken.ensures ∙ c.if-inverted_broken.false in
    let o = c.check_steps.ensures in
    let err = c.in_err-check_steps.was in
    let some = failed _ _ o err in
    let first = passed _ _ c.check_entries.ensures c.in_ok-check_entries.was in
    rw (writer-eleven a.sheet a.room three four _ c.wide-n.ensures.0 _ refl first _ refl some) (hands_on _ _ o err c.from_residual-in_err-check_steps.ensures.1 ∙ sym (refuses _ tt some))

pub sheet_length-requires : goal.sheet_length-requires
sheet_length-requires c = ((count_kept _ (sym c.count_broken.ensures ∙ c.if-count_broken.false)).1, c.wide-n.ensures.0)

pub returns-then-room-sheet_length : goal.returns-then-room-sheet_length
unfolding record_refusal4 refusal15 unless
returns-then-room-sheet_length c =
    let a = c.args in
    let three : refusal3 a.sheet.count ≡ false = ap refusal3 (sym c.wide-n.ensures.0) ∙ sym c.count_broken.ensures ∙ c.if-count_broken.false in
    let four : record_refusal4 a.sheet ≡ false =
    ap (λ (k : ℕ). some_from (inverted_broken_in a.sheet) k 0) (sym c.wide-n.ensures.0) ∙ sym c.inverted_broken.ensures ∙ c.if-inverted_broken.false in
    let short : refusal15 a.sheet a.room ≡ true = rw (← c.sheet_length.ensures.0) (lt-ltb _ _ c.if-room-sheet_length.true) in
    let first = passed _ _ c.check_entries.ensures c.in_ok-check_entries.was in
    let second = passed _ _ c.check_steps.ensures c.in_ok-check_steps.was in
    rw (c.of_call-then-room-sheet_length.ensures, writer-short a.sheet a.room three four _ c.wide-n.ensures.0 _ refl first _ refl second short)

pub returns : goal.returns
unfolding record_refusal4 refusal15 unless
returns c =
    let a = c.args in
    let three : refusal3 a.sheet.count ≡ false = ap refusal3 (sym c.wide-n.ensures.0) ∙ sym c.count_broken.ensures ∙ c.if-count_broken.false in
    let four : record_refusal4 a.sheet ≡ false =
    ap (λ (k : ℕ). some_from (inverted_broken_in a.sheet) k 0) (sym c.wide-n.ensures.0) ∙ sym c.inverted_broken.ensures ∙ c.if-inverted_broken.false in
    let fits : refusal15 a.sheet a.room ≡ false = rw (← c.sheet_length.ensures.0) (le-ltb _ _ c.if-room-sheet_length.false) in
    let first = passed _ _ c.check_entries.ensures c.in_ok-check_entries.was in
    let second = passed _ _ c.check_steps.ensures c.in_ok-check_steps.was in
    rw (writer-accepts a.sheet a.room three four _ c.wide-n.ensures.0 _ refl first _ refl second fits)
