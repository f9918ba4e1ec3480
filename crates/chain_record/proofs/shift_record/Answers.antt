-- One case for each way through the tests. Each by `refused-own`, `refused-9`, `refused-10` and
-- `run-through`, from what the calls ensure. Assumes nothing.
use native.Mathlib.Omega.{arith}
use mathlib.Core.Path.{sym, ap, ◌∙◌}
use Rattle.std.specs.Prelude.{Err}
use mathlib.Core.List.{[]}
use Rattle.sheet.specs.Rules.{of_call}
use Rattle.sheet.specs.Layout.{entry_of}
use Rattle.plans.specs.Lent.{lent_of}
use Rattle.chain.specs.Chain.{chain_of, entries_of}
use Rattle.sheet.proofs.Unless.{passed, failed, hands_on}
use Rattle.chain_record.specs.Record.{shift_record_of}
use Rattle.chain_record.proofs.Few.{few-kept}
use Rattle.chain.proofs.Outcome.{refused-own, refused-9, refused-10, run-through, told_refused, told-ran}
use Rattle.chain_record.proofs.shift_record.Goals as goal

pub returns-in_err-check_record : goal.returns-in_err-check_record
unfolding shift_record_of
returns-in_err-check_record c =
    let o = c.check_record.ensures in
    let err = c.in_err-check_record.was in
    let broken = failed _ _ o err in
    told_refused _ (refused-own _ _ _ _ _ _ _ broken) broken (hands_on _ _ o err c.from_residual.ensures.1)

pub returns-then-list_broken : goal.returns-then-list_broken
unfolding shift_record_of
returns-then-list_broken c =
    let own = passed _ _ c.check_record.ensures c.in_ok-check_record.was in
    told_refused (of_call 9) (refused-9 _ _ _ _ _ _ _ own (sym c.list_broken.ensures ∙ c.if-list_broken.true)) (λ z. omega arith) (ap Err c.of_call.ensures)

pub deforms_record-requires : goal.deforms_record-requires
deforms_record-requires c = rw c.wide-n.ensures.0 (few-kept _ _ (passed _ _ c.check_record.ensures c.in_ok-check_record.was))

pub returns-then-lent_broken : goal.returns-then-lent_broken
unfolding shift_record_of
returns-then-lent_broken c =
    let own = passed _ _ c.check_record.ensures c.in_ok-check_record.was in
    let ten = sym (rw (c.deforms_record.ensures, c.wide-n.ensures.0) at c.lent_broken.ensures) ∙ c.if-lent_broken.true in
    told_refused (of_call 10) (refused-10 _ _ _ _ _ _ _ own (sym c.list_broken.ensures ∙ c.if-list_broken.false) ten) (λ z. omega arith) (ap Err c.of_call-then-lent_broken.ensures)

pub over_record-requires : goal.over_record-requires
over_record-requires c =
    rw c.wide-n.ensures.0 (few-kept _ _ (passed _ _ c.check_record.ensures c.in_ok-check_record.was))

pub returns : goal.returns
unfolding shift_record_of
returns c =
    let own = passed _ _ c.check_record.ensures c.in_ok-check_record.was in
    let ten = sym (rw (c.deforms_record.ensures, c.wide-n.ensures.0) at c.lent_broken.ensures) ∙ c.if-lent_broken.false in
    let e = rw (c.no_grid.ensures, c.wide-n.ensures.0) at c.over_record.ensures in
    let a = c.args in
    told-ran (chain_of a.inverse (lent_of a.velocities.now a.marks.now []) (entries_of (entry_of a.kept) a.kept.count 0) a.list.now) (run-through _ _ _ _ _ _ _ own (sym c.list_broken.ensures ∙ c.if-list_broken.false) ten) e.1 e.0
