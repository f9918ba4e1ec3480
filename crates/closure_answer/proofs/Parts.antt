-- The parts of a job that a call is lent, and which text its answer has. Assumes nothing.
use mathlib.Core.Path.{◌≡◌, sym, ◌∙◌}
use Prim.Native.Nat.{ℕ, ◌-◌, ◌*◌}
use mathlib.Core.Bool.{Bool}
use mathlib.Core.List.{List}
use native.Mathlib.Omega.{arith}
use borrow.Author.Tests.{eq-eqb, ne_eqb}
use lib.ListN.{length, take, drop, replicate}
use lib.Ieee.{Float}
use Rattle.floats.specs.Binary64.{bits}
use Rattle.std.specs.Prelude.{Result, Ok, Err}
use Rattle.sheet.specs.declared.Refusal.{Refusal}
use Rattle.sheet.specs.Layout.{kind_at, inverted_at}
use Rattle.sheet.proofs.Unless.{at_ok, at_err}
use Rattle.job.specs.Job.{head_of, tuples_at, velocities_at, marks_at, numbers_of, sheet_of, tuples_of, velocities_of, marks_of}
use Rattle.job.specs.declared.Head.{Head}
use Rattle.answer.proofs.Laws.{left_from_lem}
use Rattle.closure_report.specs.declared.Report.{Report}
use Rattle.closure_report.specs.Report.{empty_report}
use Rattle.closure_run.specs.Closure.{Closed, handed_out, closure_of}
use Rattle.closure_page.specs.Page.{page_text, refused_text, takes_angles}
use Rattle.closure_answer.specs.Answer.{told_of, closure_text, job_text}

pub parts : (profile : ℕ) (j : List ℕ) (h : Head) (a b c n m : ℕ) {l v room : List Float} → h ≡ head_of j → a ≡ tuples_at h → b ≡ velocities_at h → c ≡ marks_at h
    → n ≡ 4 * h.tuples → m ≡ 3 * h.velocities → room ≡ replicate 2048 (bits 0)
    → l ≡ numbers_of n (take (length j - a) (drop a j)) → v ≡ numbers_of m (take (length j - b) (drop b j))
    → closure_text profile (take (a - 16) (drop 16 j)) l room v (take (length j - c) (drop c j)) ≡ job_text profile j
unfolding job_text sheet_of tuples_of velocities_of marks_of
parts profile j h a b c n m eh ea eb ec en em er el ev =
    let k : a - 16 ≡ h.sheet = omega arith in
    rw (er, el, ev, left_from_lem j a, left_from_lem j b, left_from_lem j c, k, en, em, ea, eb, ec, eh)

-- what a call hands out is the closure's from an empty report
pub said_is : (profile : ℕ) (s : List ℕ) (l room velocities : List Float) (marks : List ℕ) {none : Report} {out : Result Report Refusal} → none ≡ empty_report
    → out ≡ handed_out (closure_of none profile s l room velocities marks).answer
    → out ≡ handed_out (closure_of empty_report profile s l room velocities marks).answer
said_is profile s l room velocities marks e f = rw e at f

module _ (s : List ℕ) (a : Closed) {out : Result Report Refusal} (is : out ≡ handed_out a) where
  pub told-refused : {refusal : Refusal} → out ≡ Err refusal → refused_text refusal.number refusal.step ≡ told_of s a
  unfolding told_of
  told-refused err = let r = at_err _ _ _ (sym is ∙ err) in rw (ne_eqb _ 0 r.0, r.1)

  pub told-page : {report : Report} {angles : Bool} → out ≡ Ok report → angles ≡ takes_angles (kind_at s 0) (inverted_at s 0) → page_text angles report ≡ told_of s a
  unfolding told_of
  told-page ok e = let r = at_ok _ _ _ (sym is ∙ ok) in rw (eq-eqb _ 0 r.0, r.1, e)
