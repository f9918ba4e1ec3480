-- What is true of jobs and answers, for callers to cite. Working definition, which no promise
-- cites: `Good`. Assumes nothing.
use mathlib.Core.Path.{◌≡◌, refl, sym, ap, ◌∙◌, subst}
use Prim.Native.Nat.{ℕ, ◌+◌, ◌-◌, ◌*◌, ◌<◌, ◌≤◌}
use mathlib.Core.Bool.{Bool, true, false, not, cond, ◌||◌}
use mathlib.Core.List.{List, [], ◌∷◌, ◌++◌}
use native.Mathlib.Omega.{arith}
use native.Mathlib.Nat.{zero-add}
use lib.Dec.{eqb, ltb}
use lib.ListN.{length, take, drop, length-drop}
use lib.Seq.{take_all}
use lib.Ieee.{Float}
use borrow.Author.Tests.{ltb-false, eq-eqb, ne_eqb, eqb-true, eqb-false, not-false, lt-ltb, le-ltb}
use Rattle.std.specs.Prelude.{Result, Ok, Err}
use Rattle.sheet.specs.declared.Entry.{Entry}
use Rattle.sheet.specs.declared.Refusal.{Refusal}
use Rattle.sheet.specs.Layout.{step_count_of, kind_at, entry_at}
use Rattle.sheet.specs.Rules.{refusal_of, has_deformation}
use Rattle.sheet.proofs.Order.{neither, accepted_count}
use Rattle.sheet.proofs.Unless.{at_ok, at_err}
use Rattle.tally.specs.declared.Tally.{Tally}
use Rattle.plans.specs.Lent.{Lent, lent_of}
use Rattle.chain.specs.Chain.{chain_forward_of, chain_inverse_of, chain_of, entries_of, step_list_of}
use Rattle.chain.specs.Rules.{Outcome, handed_out, shift_of, outcome_of, shift_refusal_of, refusal9}
use Rattle.chain.proofs.Laws.{step_length}
use Rattle.chain.specs.Grid.{shift_grid_of, grid_outcome_of, grid_refusal_of}
use Rattle.chain.proofs.Outcome.{refused-own}
use Rattle.chain.proofs.Grid.{grid-refused-own}
use Rattle.tally.specs.Tallies.{counts_of, mets_of}
use Rattle.text.specs.Text.{text, appended}
use Rattle.text.proofs.Laws.{fits}
use Rattle.job.specs.Job.{head_of, tuples_at, velocities_at, marks_at, end_at, refusal16, numbers_of, sheet_of, tuples_of, velocities_of, marks_of}
use Rattle.job.specs.Job.{asks_inverse}
use Rattle.job.specs.declared.Head.{Head}
use Rattle.job.proofs.Laws.{length-numbers_of}
use Rattle.report.specs.Report.{refused_text, ran_text}
use Rattle.report.proofs.Laws.{refused_is_short, ran_is_short}
use Rattle.answer.specs.Answer.{told_of, lent_shift_of, shift_text, lent_job_text, lent_answer_of, answer_of, grid_answer_of}

-- ---- a job that is not bad

pub record Good (h : Head) (bytes : ℕ) : Type 0 where
  pub sheet : h.sheet ≤ 4240
  pub tuples : h.tuples ≤ 512
  pub velocities : h.velocities ≤ 512
  pub ends : bytes ≡ end_at h

none_or_all : (v t : ℕ) → t ≤ 512 → (eqb v 0 || eqb v t) ≡ true → v ≤ 512
none_or_all v t h e = by (eqb v 0) refl e
  where
    by : (b : Bool) → eqb v 0 ≡ b → (b || eqb v t) ≡ true → v ≤ 512
    by true p q = let z = eqb-true v 0 p in omega arith
    by false p q = let z = eqb-true v t q in omega arith

pub good_job : (h : Head) (bytes : ℕ) → refusal16 h bytes ≡ false → Good h bytes
unfolding refusal16
good_job h bytes e =
    let n1 = neither (ltb 1 h.direction || ltb 4240 h.sheet || ltb 512 h.tuples || not (eqb h.velocities 0 || eqb h.velocities h.tuples)) (not (eqb bytes (end_at h))) e in
    let n2 = neither (ltb 1 h.direction || ltb 4240 h.sheet || ltb 512 h.tuples) (not (eqb h.velocities 0 || eqb h.velocities h.tuples)) n1.0 in
    let n3 = neither (ltb 1 h.direction || ltb 4240 h.sheet) (ltb 512 h.tuples) n2.0 in
    let n4 = neither (ltb 1 h.direction) (ltb 4240 h.sheet) n3.0 in
    record {
      sheet = ltb-false 4240 h.sheet n4.1;
      tuples = ltb-false 512 h.tuples n3.1;
      velocities = none_or_all h.velocities h.tuples (ltb-false 512 h.tuples n3.1) (not-false (eqb h.velocities 0 || eqb h.velocities h.tuples) n2.1);
      ends = eqb-true bytes (end_at h) (not-false (eqb bytes (end_at h)) n1.1);
    }

-- ---- its parts

-- what is left from a place on, as a part of the whole
pub left_from_lem : (j : List ℕ) (x : ℕ) → take (length j - x) (drop x j) ≡ drop x j
left_from_lem j x = take_all (length j - x) (drop x j) (simp length-drop (omega arith))

length_tuples : (j : List ℕ) → length (tuples_of j) ≡ 4 * (head_of j).tuples
unfolding tuples_of
length_tuples j = length-numbers_of (4 * (head_of j).tuples) (drop (tuples_at (head_of j)) j)

-- the parts that a call is lent are the job's
pub parts : (gridded : Bool) (grid j : List ℕ) (h : Head) (a b c n m : ℕ) {l v : List Float} → h ≡ head_of j → a ≡ tuples_at h → b ≡ velocities_at h → c ≡ marks_at h
    → n ≡ 4 * h.tuples → m ≡ 3 * h.velocities
    → l ≡ numbers_of n (take (length j - a) (drop a j)) → v ≡ numbers_of m (take (length j - b) (drop b j))
    → shift_text gridded grid (eqb h.direction 1) (take (a - 16) (drop 16 j)) l v (take (length j - c) (drop c j)) ≡ lent_job_text gridded grid j
unfolding lent_job_text sheet_of tuples_of velocities_of marks_of
parts gridded grid j h a b c n m eh ea eb ec en em el ev =
    let k : a - 16 ≡ h.sheet = omega arith in
    rw (el, ev, left_from_lem j a, left_from_lem j b, left_from_lem j c, k, en, em, ea, eb, ec, eh)

-- ---- a job with a grid behind it, from what the calls tell of where the job ends

ends_at : (b : List ℕ) (h : Head) (m w : ℕ) → h ≡ head_of b → m ≡ marks_at h → w ≡ h.velocities → m + w ≡ end_at (head_of b)
ends_at b h m w eh em ew = rw (em, ew) (ap end_at eh)

pub cut_short : (b : List ℕ) (h : Head) (m w : ℕ) → h ≡ head_of b → m ≡ marks_at h → w ≡ h.velocities → length b < m + w
    → refused_text 16 0 ≡ grid_answer_of b
unfolding grid_answer_of
cut_short b h m w eh em ew less =
    rw (lt-ltb (length b) (end_at (head_of b)) (subst (λ (n : ℕ). length b < n) (ends_at b h m w eh em ew) less))

pub two_parts : (b : List ℕ) (h : Head) (m w : ℕ) → h ≡ head_of b → m ≡ marks_at h → w ≡ h.velocities → m + w ≤ length b
    → lent_answer_of true (take (length b - (m + w)) (drop (m + w) b)) (take (m + w) b) ≡ grid_answer_of b
unfolding grid_answer_of
two_parts b h m w eh em ew there =
    rw (left_from_lem b (m + w), ends_at b h m w eh em ew, le-ltb (length b) (end_at (head_of b)) (subst (λ (n : ℕ). n ≤ length b) (ends_at b h m w eh em ew) there))

-- ---- what is told of what a call hands out

module _ (o : Outcome) {out : Result (List Tally) Refusal} (is : out ≡ handed_out o.answer) where
  pub told-run : {tallies : List Tally} {l : List Float} {steps step_count : ℕ} {counts mets : List ℕ} → out ≡ Ok tallies → l ≡ o.list → steps ≡ step_count
      → counts ≡ counts_of tallies → mets ≡ mets_of tallies → ran_text steps counts mets l ≡ told_of step_count o
  unfolding told_of
  told-run ok e f g h = let a = at_ok _ _ _ (sym is ∙ ok) in rw (eq-eqb _ 0 a.0, a.1, e, f, g, h)

  pub told-refused : {refusal : Refusal} (steps : ℕ) → out ≡ Err refusal → refused_text refusal.number refusal.step ≡ told_of steps o
  unfolding told_of
  told-refused steps err = let a = at_err _ _ _ (sym is ∙ err) in rw (ne_eqb _ 0 a.0, a.1)

-- ---- how long a text is, and where it stands

pick-length : (b : Bool) (x y : Outcome) (n : ℕ) → length x.list ≡ n → length y.list ≡ n → length (cond b x y).list ≡ n
pick-length true x y n p q = p
pick-length false x y n p q = q

forward_length : (lent : Lent) (es : List Entry) (l : List Float) → length (chain_forward_of lent es l).list ≡ length l
unfolding chain_forward_of
forward_length lent [] l = refl
forward_length lent (e ∷ es) l =
    forward_length lent es (step_list_of false lent e l) ∙ step_length false lent e l

inverse_length : (lent : Lent) (es : List Entry) (l : List Float) → length (chain_inverse_of lent es l).list ≡ length l
unfolding chain_inverse_of
inverse_length lent [] l = refl
inverse_length lent (e ∷ es) l = step_length true lent e (chain_inverse_of lent es l).list ∙ inverse_length lent es l

chain_length : (inverse : Bool) (lent : Lent) (es : List Entry) (l : List Float)
    → length (chain_of inverse lent es l).list ≡ length l
chain_length true lent es l = inverse_length lent es l
chain_length false lent es l = forward_length lent es l

shift-length : (inverse : Bool) (s : List ℕ) (l velocities : List Float) (marks : List ℕ) → length (shift_of inverse s l velocities marks).list ≡ length l
unfolding shift_of outcome_of
shift-length inverse s l velocities marks =
    pick-length (eqb (shift_refusal_of (refusal_of s) (has_deformation (kind_at s) (step_count_of s)) l velocities marks).number 0) _ _ (length l)
    (chain_length inverse (lent_of velocities marks []) (entries_of (entry_at s) (step_count_of s) 0) l) refl

-- a sheet that runs has at most sixteen steps
few-steps : (inverse : Bool) (s : List ℕ) (l velocities : List Float) (marks : List ℕ) → (shift_of inverse s l velocities marks).answer.refusal.number ≡ 0
    → step_count_of s ≤ 16
unfolding shift_of
few-steps inverse s l velocities marks h = by (eqb (refusal_of s).number 0) refl
  where
    by : (b : Bool) → eqb (refusal_of s).number 0 ≡ b → step_count_of s ≤ 16
    by true e = accepted_count s (eqb-true (refusal_of s).number 0 e)
    by false e =
        let broken = eqb-false (refusal_of s).number 0 e in
        let own = refused-own (refusal_of s) (has_deformation (kind_at s) (step_count_of s)) inverse (entries_of (entry_at s) (step_count_of s) 0) l velocities marks broken in
        absurd (broken (ap (λ (o : Outcome). o.answer.refusal.number) (sym own) ∙ h))

grid_length : (inverse : Bool) (s : List ℕ) (l velocities : List Float) (marks grid : List ℕ)
    → length (shift_grid_of inverse s l velocities marks grid).list ≡ length l
unfolding shift_grid_of grid_outcome_of
grid_length inverse s l velocities marks grid =
    pick-length (eqb (grid_refusal_of (refusal_of s) (refusal9 (length l)) velocities marks grid).number 0) _ _ (length l)
    (chain_length inverse (lent_of velocities marks grid) (entries_of (entry_at s) (step_count_of s) 0) l) refl

few_steps_with_grid : (inverse : Bool) (s : List ℕ) (l velocities : List Float) (marks grid : List ℕ)
    → (shift_grid_of inverse s l velocities marks grid).answer.refusal.number ≡ 0 → step_count_of s ≤ 16
unfolding shift_grid_of
few_steps_with_grid inverse s l velocities marks grid h = by (eqb (refusal_of s).number 0) refl
  where
    by : (b : Bool) → eqb (refusal_of s).number 0 ≡ b → step_count_of s ≤ 16
    by true e = accepted_count s (eqb-true (refusal_of s).number 0 e)
    by false e =
        let broken = eqb-false (refusal_of s).number 0 e in
        let own = grid-refused-own (refusal_of s) inverse (entries_of (entry_at s) (step_count_of s) 0) l velocities marks grid broken in
        absurd (broken (ap (λ (o : Outcome). o.answer.refusal.number) (sym own) ∙ h))

-- with a grid or without
lent_length : (gridded : Bool) (grid : List ℕ) (inverse : Bool) (s : List ℕ) (l velocities : List Float) (marks : List ℕ)
    → length (lent_shift_of gridded grid inverse s l velocities marks).list ≡ length l
lent_length true grid inverse s l velocities marks = grid_length inverse s l velocities marks grid
lent_length false grid inverse s l velocities marks = shift-length inverse s l velocities marks

few-lent-steps : (gridded : Bool) (grid : List ℕ) (inverse : Bool) (s : List ℕ) (l velocities : List Float) (marks : List ℕ)
    → (lent_shift_of gridded grid inverse s l velocities marks).answer.refusal.number ≡ 0 → step_count_of s ≤ 16
few-lent-steps true grid inverse s l velocities marks = few_steps_with_grid inverse s l velocities marks grid
few-lent-steps false grid inverse s l velocities marks = few-steps inverse s l velocities marks

told_is_short : (steps : ℕ) (o : Outcome) → (o.answer.refusal.number ≡ 0 → steps ≤ 16) → length o.list ≤ 2048 → length (told_of steps o) ≤ 36295
unfolding told_of
told_is_short steps o few l = by (eqb o.answer.refusal.number 0) refl
  where
    by : (b : Bool) → eqb o.answer.refusal.number 0 ≡ b
        → length (cond b (ran_text steps (counts_of o.answer.tallies) (mets_of o.answer.tallies) o.list) (refused_text o.answer.refusal.number o.answer.refusal.step)) ≤ 36295
    by true e =
        let s = few (eqb-true o.answer.refusal.number 0 e) in
        let r = ran_is_short steps (counts_of o.answer.tallies) (mets_of o.answer.tallies) o.list in
        omega arith
    by false e = let r = refused_is_short o.answer.refusal.number o.answer.refusal.step in omega arith

job_is_short : (gridded : Bool) (grid j : List ℕ) → Good (head_of j) (length j) → length (lent_job_text gridded grid j) ≤ 36295
unfolding lent_job_text
job_is_short gridded grid j g =
    let n : length (tuples_of j) ≡ 4 * (head_of j).tuples = length_tuples j in
    let t = g.tuples in
    told_is_short (step_count_of (sheet_of j)) (lent_shift_of gridded grid (asks_inverse j) (sheet_of j) (tuples_of j) (velocities_of j) (marks_of j))
    (few-lent-steps gridded grid (asks_inverse j) (sheet_of j) (tuples_of j) (velocities_of j) (marks_of j))
    (rw (lent_length gridded grid (asks_inverse j) (sheet_of j) (tuples_of j) (velocities_of j) (marks_of j)) (omega arith))

lent_is_short : (gridded : Bool) (grid j : List ℕ) → length (lent_answer_of gridded grid j) ≤ 36295
unfolding lent_answer_of
lent_is_short gridded grid j = by (refusal16 (head_of j) (length j)) refl
  where
    by : (b : Bool) → refusal16 (head_of j) (length j) ≡ b → length (cond b (refused_text 16 0) (lent_job_text gridded grid j)) ≤ 36295
    by true e = let r = refused_is_short 16 0 in omega arith
    by false e = job_is_short gridded grid j (good_job (head_of j) (length j) e)

-- No text is longer than 36,295 bytes, so that the programs' room of 65,536 holds every one.
pub text_is_short : (j : List ℕ) → length (answer_of j) ≤ 36295
text_is_short j = lent_is_short false [] j

pub grid_text_is_short : (b : List ℕ) → length (grid_answer_of b) ≤ 36295
unfolding grid_answer_of
grid_text_is_short b = by (ltb (length b) (end_at (head_of b)))
  where
    by : (t : Bool) → length (cond t (refused_text 16 0) (lent_answer_of true (drop (end_at (head_of b)) b) (take (end_at (head_of b)) b))) ≤ 36295
    by true = let r = refused_is_short 16 0 in omega arith
    by false = lent_is_short true (drop (end_at (head_of b)) b) (take (end_at (head_of b)) b)

-- In such a room the text stands whole at the start, and after it what stood there.
pub text_stands_whole : (room j : List ℕ) → length (answer_of j) ≤ length room
    → appended (text room 0) (answer_of j) ≡ text (answer_of j ++ drop (length (answer_of j)) room) (length (answer_of j))
text_stands_whole room j h = fits room 0 (answer_of j) (rw zero-add h) ∙ rw zero-add

-- ---- 16 before all others

pub sixteen_first : (j : List ℕ) → refusal16 (head_of j) (length j) ≡ true → answer_of j ≡ refused_text 16 0
unfolding lent_answer_of
sixteen_first j h = rw h
