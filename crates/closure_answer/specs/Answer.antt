-- The program's answer: from a job's bytes, and the word that asks for a profile, to the bytes of
-- its page.
use Rattle.std.specs.Prelude.{ℕ, cond, List, eqb, length, replicate, Float}
use Rattle.floats.specs.Binary64.{bits}
use Rattle.sheet.specs.Layout.{kind_at, inverted_at}
use Rattle.job.specs.Job.{head_of, refusal16, sheet_of, tuples_of, velocities_of, marks_of}
use Rattle.closure_report.specs.Report.{empty_report}
use Rattle.closure_run.specs.Closure.{Closed, closure_of}
use Rattle.closure_page.specs.Page.{page_text, refused_text, takes_angles, profile_asked}

-- what is told of a closure: the page, or the refusal
unfoldable pub told_of : List ℕ → Closed → List ℕ
told_of s a =
    cond (eqb a.refusal.number 0)
    (page_text (takes_angles (kind_at s 0) (inverted_at s 0)) a.report)
    (refused_text a.refusal.number a.refusal.step)

-- a sheet over a list, from an empty report, in a room
abbrev pub closure_text : ℕ → List ℕ → List Float → List Float → List Float → List ℕ → List ℕ
closure_text profile s l room velocities marks = told_of s (closure_of empty_report profile s l room velocities marks).answer

-- a job's sheet over its list, in a room of 2,048 numbers; the direction is not looked at
unfoldable pub job_text : ℕ → List ℕ → List ℕ
job_text profile j = closure_text profile (sheet_of j) (tuples_of j) (replicate 2048 (bits 0)) (velocities_of j) (marks_of j)

-- A bad job is 16, before all others.
unfoldable pub answer_of : List ℕ → List ℕ → List ℕ
answer_of word j = cond (refusal16 (head_of j) (length j)) (refused_text 16 0) (job_text (profile_asked word) j)
