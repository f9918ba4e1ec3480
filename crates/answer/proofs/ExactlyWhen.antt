-- 16 both ways: the text of a refusal by 16 is told of a bad job, and of no other. A run's text
-- begins with another letter, and no sheet over a list is refused by a number past 11, whose digits
-- differ from those of 16. Assumes nothing.
use Prim.Native.Nat.{ℕ, zero, suc, ◌≤◌}
use native.Mathlib.Omega.{arith}
use mathlib.Core.Path.{◌≡◌, refl, ap}
use mathlib.Core.Logic.{◌↔◌}
use mathlib.Core.Bool.{Bool, true, false, cond}
use mathlib.Core.List.{List}
use lib.Dec.{eqb}
use lib.ListN.{length, get_or}
use lib.Ieee.{Float}
use Rattle.sheet.specs.Layout.{step_count_of}
use Rattle.tally.specs.Tallies.{counts_of, mets_of}
use Rattle.chain.specs.Rules.{Outcome, shift_of}
use Rattle.chain.proofs.ExactlyWhen.{no-number-past-eleven}
use Rattle.text.specs.Digits.{digits_of, places_of, decimal_of}
use Rattle.job.specs.Job.{head_of, refusal16, asks_inverse, sheet_of, tuples_of, velocities_of, marks_of}
use Rattle.report.specs.Report.{line_of, refused_text, ran_text}
use Rattle.answer.specs.Answer.{told_of, lent_job_text, lent_answer_of, job_text, answer_of}
use Rattle.answer.proofs.Laws.{sixteen_first}

-- ---- no other text is that of 16

letter : ℕ → List ℕ → ℕ
letter i text = get_or text i 0

differ : (a b : ℕ) → (a ≡ b → ⊥) → a ≡ b → ⊥
differ a b apart e = apart e

ran_is_not : (steps : ℕ) (counts mets : List ℕ) (l : List Float) → ran_text steps counts mets l ≡ refused_text 16 0 → ⊥
unfolding letter ran_text line_of
ran_is_not steps counts mets l e = differ 115 114 (λ z. omega arith) (ap (letter 0) e)

-- a case for each number: the place, and the letters that stand there in its text and in that of 16
refused_is_not : (n step : ℕ) → n ≤ 11 → refused_text n step ≡ refused_text 16 0 → ⊥
unfolding letter line_of decimal_of places_of digits_of
refused_is_not zero step h e = differ 48 49 (λ z. omega arith) (ap (letter 8) e)
refused_is_not (suc zero) step h e = differ 32 54 (λ z. omega arith) (ap (letter 9) e)
refused_is_not (suc (suc zero)) step h e = differ 50 49 (λ z. omega arith) (ap (letter 8) e)
refused_is_not (suc (suc (suc zero))) step h e = differ 51 49 (λ z. omega arith) (ap (letter 8) e)
refused_is_not (suc (suc (suc (suc zero)))) step h e = differ 52 49 (λ z. omega arith) (ap (letter 8) e)
refused_is_not (suc (suc (suc (suc (suc zero))))) step h e = differ 53 49 (λ z. omega arith) (ap (letter 8) e)
refused_is_not (suc (suc (suc (suc (suc (suc zero)))))) step h e = differ 54 49 (λ z. omega arith) (ap (letter 8) e)
refused_is_not (suc (suc (suc (suc (suc (suc (suc zero))))))) step h e = differ 55 49 (λ z. omega arith) (ap (letter 8) e)
refused_is_not (suc (suc (suc (suc (suc (suc (suc (suc zero)))))))) step h e = differ 56 49 (λ z. omega arith) (ap (letter 8) e)
refused_is_not (suc (suc (suc (suc (suc (suc (suc (suc (suc zero))))))))) step h e = differ 57 49 (λ z. omega arith) (ap (letter 8) e)
refused_is_not (suc (suc (suc (suc (suc (suc (suc (suc (suc (suc zero)))))))))) step h e = differ 48 54 (λ z. omega arith) (ap (letter 9) e)
refused_is_not (suc (suc (suc (suc (suc (suc (suc (suc (suc (suc (suc zero))))))))))) step h e = differ 49 54 (λ z. omega arith) (ap (letter 9) e)
refused_is_not (suc (suc (suc (suc (suc (suc (suc (suc (suc (suc (suc (suc n)))))))))))) step h e = absurd (omega arith)

told_is_not : (steps : ℕ) (o : Outcome) → o.answer.refusal.number ≤ 11 → told_of steps o ≡ refused_text 16 0 → ⊥
unfolding told_of
told_is_not steps o few = by (eqb o.answer.refusal.number 0)
  where
    by : (b : Bool) → cond b (ran_text steps (counts_of o.answer.tallies) (mets_of o.answer.tallies) o.list) (refused_text o.answer.refusal.number o.answer.refusal.step) ≡ refused_text 16 0 → ⊥
    by true e = ran_is_not steps (counts_of o.answer.tallies) (mets_of o.answer.tallies) o.list e
    by false e = refused_is_not o.answer.refusal.number o.answer.refusal.step few e

-- ---- 16 exactly when the job is bad

pub sixteen_exactly_when : (j : List ℕ) → (answer_of j ≡ refused_text 16 0) ↔ (refusal16 (head_of j) (length j) ≡ true)
unfolding lent_answer_of lent_job_text
sixteen_exactly_when j = (by (refusal16 (head_of j) (length j)) refl, sixteen_first j)
  where
    by : (b : Bool) → refusal16 (head_of j) (length j) ≡ b → cond b (refused_text 16 0) (job_text j) ≡ refused_text 16 0 → b ≡ true
    by true e t = refl
    by false e t =
        absurd
        (told_is_not (step_count_of (sheet_of j)) (shift_of (asks_inverse j) (sheet_of j) (tuples_of j) (velocities_of j) (marks_of j))
        (no-number-past-eleven (asks_inverse j) (sheet_of j) (tuples_of j) (velocities_of j) (marks_of j)) t)
