-- The entries over columns. Columns of one length are refused as the flat lists that they stand for
-- are, and the kept run over them gives the old answer on the converted lists: the same refusal and
-- count, and columns that stand for what the flat entries leave. Assumes nothing.
use Prim.Native.Nat.{ℕ, ◌*◌, ◌%◌, ◌<◌}
use native.Mathlib.Omega.{arith}
use mathlib.Core.Bool.{Bool, true, false, not, cond, ◌||◌}
use mathlib.Core.Path.{◌≡◌, refl, sym, ap, ◌∙◌}
use mathlib.Core.List.{List, [], ◌∷◌}
use lib.Dec.{eqb}
use lib.ListN.{length}
use lib.Ieee.{Float}
use borrow.Author.Tests.{eq-eqb, ne_eqb, eqb-true, eqb-false, not-false, lt-ltb}
use Rattle.tuple.specs.declared.Tuple.{Tuple}
use Rattle.columns.specs.Columns.{columns_of}
use Rattle.columns.proofs.Laws.{flat-length, back_and_there}
use Rattle.lists.specs.Run.{ran_of, track_of}
use Rattle.lists.proofs.Laws.{ran_length}
use Rattle.helmert.specs.Modes.{start_of}
use Rattle.helmert.specs.Turns.{helmert_turns}
use Rattle.sheet.specs.declared.Refusal.{Refusal}
use Rattle.sheet.specs.Rules.{rule, of_call, first_broken, refusal_of}
use Rattle.sheet.proofs.Order.{neither}
use Rattle.sheet.proofs.Unless.{passed_value}
use Rattle.std.specs.Prelude.{Result, Ok}
use Rattle.chain.specs.Rules.{refusal9}
use Rattle.chain.proofs.Columns.{nine_kept, level_nine}
use Rattle.stretch.specs.Kept.{tracked_of, Kept, kept_of, fresh_of, corrected_of}
use Rattle.stretch.specs.KeptColumns.{KeptColumns, flat_list_of, flat_kept_of, kept_columns_of, AllLevel, fresh_columns_of, RedoneColumns, redone_columns, put_right_columns_of}
use Rattle.stretch.proofs.Fits.{all_level_test}
use Rattle.stretch.proofs.Meeting.{track_length}
use Rattle.kept.specs.Entries.{redone_in, order_by, refusal12, refusal13, refusal14, keep_refusal_of, correct_refusal_of, shift_in, reversed_in, keep_of, CorrectOutcome, outcome, corrected_as, correct_of}
use Rattle.kept_columns.specs.Columns.{CorrectColumnsOutcome, uneven, list_uneven, kept_uneven, keep_columns_refusal_of, correct_columns_refusal_of, keep_columns_of, columns_outcome, correct_columns_of}
use Rattle.kept.proofs.Promises.{refused-alters-nothing, results-unwritten, track-unwritten, list-unwritten}
use Rattle.kept.proofs.Answers.{first_stays, all_pass, below, keep-refused, keep-done, correct-done}

-- ---- lengths

even : (n x y z t : ℕ) → uneven n x y z t ≡ false → (x ≡ n) × (y ≡ n) × (z ≡ n) × (t ≡ n)
unfolding uneven
even n x y z t e =
    let a = neither (not (eqb x n) || not (eqb y n) || not (eqb z n)) (not (eqb t n)) e in
    let b = neither (not (eqb x n) || not (eqb y n)) (not (eqb z n)) a.0 in
    let c = neither (not (eqb x n)) (not (eqb y n)) b.0 in
    (eqb-true x n (not-false _ c.0), eqb-true y n (not-false _ c.1), eqb-true z n (not-false _ b.1), eqb-true t n (not-false _ a.1))

even_told : (n x y z t : ℕ) → x ≡ n → y ≡ n → z ≡ n → t ≡ n → uneven n x y z t ≡ false
unfolding uneven
even_told n x y z t ex ey ez et = rw (eq-eqb x n ex, eq-eqb y n ey, eq-eqb z n ez, eq-eqb t n et)

module _ (old : KeptColumns) where
  -- rules 9 and 13 are kept by columns of one length alone
  pub all-level : list_uneven old ≡ false → kept_uneven old ≡ false → AllLevel old
  all-level nine thirteen =
      let l = nine_kept _ _ _ _ nine in
      let b = neither (uneven (length old.list.x) (length old.results.x) (length old.results.y) (length old.results.z) (length old.results.t))
      (uneven (length old.list.x) (length old.track.x) (length old.track.y) (length old.track.z) (length old.track.t)) thirteen in
      let r = even _ _ _ _ _ b.0 in
      let k = even _ _ _ _ _ b.1 in
      (l.0, (r.1 ∙ sym r.0, r.2 ∙ sym r.0, r.3 ∙ sym r.0), (k.1 ∙ sym k.0, k.2 ∙ sym k.0, k.3 ∙ sym k.0), r.0, k.0)

  module _ (level : AllLevel old) where
    level-thirteen : kept_uneven old ≡ false
    level-thirteen =
        let r = level.1 in
        let k = level.2 in
        rw (
          even_told (length old.list.x) (length old.results.x) (length old.results.y) (length old.results.z) (length old.results.t) level.3 (r.0 ∙ level.3) (r.1 ∙ level.3) (r.2 ∙ level.3),
          even_told (length old.list.x) (length old.track.x) (length old.track.y) (length old.track.z) (length old.track.t) level.4 (k.0 ∙ level.4) (k.1 ∙ level.4) (k.2 ∙ level.4),
        )

    list-long : length (flat_list_of old.list) ≡ 4 * length old.list.x
    list-long = flat-length old.list.x old.list.y old.list.z old.list.t level.0

    results-long : length (flat_list_of old.results) ≡ length (flat_list_of old.list)
    results-long = flat-length old.results.x old.results.y old.results.z old.results.t level.1 ∙ ap (λ (n : ℕ). 4 * n) level.3 ∙ sym list-long

    track-long : length (flat_list_of old.track) ≡ length (flat_list_of old.list)
    track-long = flat-length old.track.x old.track.y old.track.z old.track.t level.2 ∙ ap (λ (n : ℕ). 4 * n) level.4 ∙ sym list-long

    flat-thirteen : refusal13 (length (flat_list_of old.list)) (length (flat_list_of old.results)) (length (flat_list_of old.track)) ≡ false
    unfolding refusal13
    flat-thirteen = rw (eq-eqb _ _ results-long, eq-eqb _ _ track-long)

    flat-nine : list_uneven old ≡ refusal9 (length (flat_list_of old.list))
    flat-nine = level_nine old.list.x old.list.y old.list.z old.list.t level.0

    -- Columns of one length are refused as the flat lists are.
    pub keep-refused-alike : (s : List ℕ) → keep_columns_refusal_of s old ≡ keep_refusal_of s (flat_kept_of old)
    unfolding keep_columns_refusal_of keep_refusal_of
    keep-refused-alike s = rw (flat-nine, level-thirteen, flat-thirteen)

    pub correct-refused-alike : (s : List ℕ) (index : ℕ) → correct_columns_refusal_of s old index ≡ correct_refusal_of s (flat_kept_of old) index
    unfolding correct_columns_refusal_of correct_refusal_of
    correct-refused-alike s index = rw (flat-nine, level-thirteen, flat-thirteen, list-long)

-- ---- what a call answers, by its tests

module _ (s : List ℕ) (old : KeptColumns) where
  -- the order, by the twelve lengths
  pub refusal_is : {r : Refusal} → r ≡ first_broken (order_by s (list_uneven old) (kept_uneven old) []) → r ≡ keep_columns_refusal_of s old
  unfolding keep_columns_refusal_of
  refusal_is e = e

  -- not refused: the columns are of one length
  pub passes-level : (keep_columns_refusal_of s old).number ≡ 0 → AllLevel old
  unfolding keep_columns_refusal_of first_broken
  passes-level e =
      let h = all_pass (refusal_of s) (eqb (refusal_of s).number 0) (refusal12 s) (list_uneven old) (kept_uneven old) (eqb-false _ _) e in
      all-level old h.2 h.3

module _ (inverse : Bool) (s : List ℕ) (old : KeptColumns) where
  pub columns-kept-out : ((keep_columns_refusal_of s old).number ≡ 0 → ⊥) → old ≡ keep_columns_of inverse s old
  unfolding keep_columns_of
  columns-kept-out h = rw (ne_eqb _ _ h)

  pub columns-kept : {new : KeptColumns} → (keep_columns_refusal_of s old).number ≡ 0 → new ≡ fresh_columns_of (shift_in s) (reversed_in inverse s) old → new ≡ keep_columns_of inverse s old
  unfolding keep_columns_of fresh_columns_of
  columns-kept none e =
      let level = passes-level s old none in
      let flat-none : (keep_refusal_of s (flat_kept_of old)).number ≡ 0 = sym (ap (λ (r : Refusal). r.number) (keep-refused-alike old level s)) ∙ none in
      rw (eq-eqb _ _ none) ((rw (all_level_test old level) at e) ∙ ap kept_columns_of (keep-done inverse s (flat_kept_of old) flat-none refl))

module _ (inverse : Bool) (s : List ℕ) (old : KeptColumns) (index : ℕ) (fix : Tuple) where
  abbrev before-14 : Refusal
  before-14 = keep_columns_refusal_of s old

  abbrev broken-14 : Bool
  broken-14 = refusal14 (4 * length old.list.x) index

  early : (before-14.number ≡ 0 → ⊥) → before-14 ≡ correct_columns_refusal_of s old index
  unfolding keep_columns_refusal_of correct_columns_refusal_of first_broken
  early h =
      first_stays (refusal_of s) (first_broken (rule (of_call 14) broken-14 ∷ [])) (eqb (refusal_of s).number 0) (refusal12 s) (list_uneven old) (kept_uneven old) h

  late : before-14.number ≡ 0 → correct_columns_refusal_of s old index ≡ first_broken (rule (of_call 14) broken-14 ∷ [])
  unfolding keep_columns_refusal_of correct_columns_refusal_of first_broken
  late e =
      let h = all_pass (refusal_of s) (eqb (refusal_of s).number 0) (refusal12 s) (list_uneven old) (kept_uneven old) (eqb-false _ _) e in
      rw (h.0, h.1, h.2, h.3)

  given_back : {r : Refusal} → r ≡ correct_columns_refusal_of s old index → (r.number ≡ 0 → ⊥) → columns_outcome (corrected_as r 0) old ≡ correct_columns_of inverse s old index fix
  unfolding correct_columns_of
  given_back e h = rw (← e, ne_eqb _ _ h)

  pub columns-refused : {r : Refusal} → r ≡ before-14 → (r.number ≡ 0 → ⊥) → columns_outcome (corrected_as r 0) old ≡ correct_columns_of inverse s old index fix
  columns-refused e h = given_back (e ∙ early (λ z. h (ap (λ (q : Refusal). q.number) e ∙ z))) h

  pub columns-refused-14 : before-14.number ≡ 0 → broken-14 ≡ true → columns_outcome (corrected_as (of_call 14) 0) old ≡ correct_columns_of inverse s old index fix
  unfolding first_broken
  columns-refused-14 h a = given_back (sym (late h ∙ rw a)) (λ z. omega arith)

  pub columns-corrected : {r : Refusal} {n : ℕ} {new : KeptColumns} → r ≡ before-14 → r.number ≡ 0 → broken-14 ≡ false
      → redone_columns n new ≡ put_right_columns_of (shift_in s) (reversed_in inverse s) old index fix
      → columns_outcome (corrected_as r n) new ≡ correct_columns_of inverse s old index fix
  unfolding correct_columns_of put_right_columns_of first_broken
  columns-corrected {r} e h a d =
      let none : before-14.number ≡ 0 = sym (ap (λ (q : Refusal). q.number) e) ∙ h in
      let level = passes-level s old none in
      let zero : (correct_columns_refusal_of s old index).number ≡ 0 = ap (λ (q : Refusal). q.number) (late none) ∙ rw a in
      let there : refusal14 (length (flat_list_of old.list)) index ≡ false = rw (list-long old level) a in
      let inside : index < length old.list.x = omega (arith, below (4 * length old.list.x) index a) in
      let made = corrected_of (shift_in s) (reversed_in inverse s) (flat_kept_of old) index fix in
      let done : outcome (corrected_as r made.count) made.kept ≡ correct_of inverse s (flat_kept_of old) index fix =
      correct-done inverse s (flat_kept_of old) index fix (e ∙ keep-refused-alike old level s) h there refl in
      rw (eq-eqb _ _ zero)
      (ap (λ (k : RedoneColumns). columns_outcome (corrected_as r k.count) k.kept) (rw (all_level_test old level, lt-ltb _ _ inside) at d)
      ∙ ap (λ (o : CorrectOutcome). columns_outcome o.answer (kept_columns_of o.kept)) done)

-- ---- the old answer on the converted lists

-- there and back: flat lists of whole tuples are what their columns stand for
pub back_and_there_kept : (k : Kept) → length k.list % 4 ≡ 0 → length k.results % 4 ≡ 0 → length k.track % 4 ≡ 0 → flat_kept_of (kept_columns_of k) ≡ k
back_and_there_kept k l r t =
    ap (λ (a : List Float). kept_of a (flat_list_of (columns_of k.results)) (flat_list_of (columns_of k.track))) (back_and_there k.list l)
    ∙ ap (λ (a : List Float). kept_of k.list a (flat_list_of (columns_of k.track))) (back_and_there k.results r)
    ∙ ap (λ (a : List Float). kept_of k.list k.results a) (back_and_there k.track t)

module _ (inverse : Bool) (s : List ℕ) (old : KeptColumns) (level : AllLevel old) where
  abbrev flat : Kept
  flat = flat_kept_of old

  kept_there : (keep_refusal_of s flat).number ≡ 0 → flat_kept_of (kept_columns_of (keep_of inverse s flat)) ≡ keep_of inverse s flat
  unfolding fresh_of
  kept_there none =
      let f = helmert_turns (reversed_in inverse s) (shift_in s) in
      let l = flat_list_of old.list in
      let long = list-long old level in
      let whole : length l % 4 ≡ 0 = omega (arith, long) in
      let r : length (ran_of f 0 (start_of (shift_in s)) l) % 4 ≡ 0 = ap (λ (n : ℕ). n % 4) (ran_length f 0 (start_of (shift_in s)) l) ∙ whole in
      let t : length (track_of tracked_of f 0 (start_of (shift_in s)) l) % 4 ≡ 0 = ap (λ (n : ℕ). n % 4) (track_length f 0 (start_of (shift_in s)) l) ∙ whole in
      rw (← keep-done inverse s flat none refl) (back_and_there_kept (fresh_of (shift_in s) (reversed_in inverse s) l) whole r t)

  by-refusal : (b : Bool) → eqb (keep_refusal_of s flat).number 0 ≡ b → flat_kept_of (cond b (kept_columns_of (keep_of inverse s flat)) old) ≡ keep_of inverse s flat
  by-refusal true e = kept_there (eqb-true _ _ e)
  by-refusal false e = keep-refused inverse s flat (eqb-false _ _ e)

  -- A kept run over columns of one length leaves columns that stand for what the kept run leaves of
  -- the converted lists.
  pub the-kept-run-gives-the-old-answer-on-the-converted-list : flat_kept_of (keep_columns_of inverse s old) ≡ keep_of inverse s flat
  unfolding keep_columns_of
  the-kept-run-gives-the-old-answer-on-the-converted-list =
      rw (keep-refused-alike old level s) (by-refusal (eqb (keep_refusal_of s flat).number 0) refl)

  module _ (index : ℕ) (fix : Tuple) where
    abbrev done : CorrectOutcome
    done = correct_of inverse s flat index fix

    corrected-there : flat_kept_of (kept_columns_of done.kept) ≡ done.kept
    corrected-there =
        let long = list-long old level in
        let l = (list-unwritten inverse s flat index fix).long in
        let r = (results-unwritten inverse s flat index fix).long ∙ results-long old level in
        let t = (track-unwritten inverse s flat index fix).long ∙ track-long old level in
        back_and_there_kept done.kept (omega (arith, long, l)) (omega (arith, long, r)) (omega (arith, long, t))

    by_answer : (b : Bool) → eqb (correct_refusal_of s flat index).number 0 ≡ b
        → (cond b (columns_outcome done.answer (kept_columns_of done.kept)) (columns_outcome (corrected_as (correct_refusal_of s flat index) 0) old)).answer ≡ done.answer
    by_answer true e = refl
    by_answer false e = sym (ap (λ (o : CorrectOutcome). o.answer) (refused-alters-nothing inverse s flat index fix (eqb-false _ _ e)))

    by-kept : (b : Bool) → eqb (correct_refusal_of s flat index).number 0 ≡ b
        → flat_kept_of (cond b (columns_outcome done.answer (kept_columns_of done.kept)) (columns_outcome (corrected_as (correct_refusal_of s flat index) 0) old)).kept ≡ done.kept
    by-kept true e = corrected-there
    by-kept false e = sym (ap (λ (o : CorrectOutcome). o.kept) (refused-alters-nothing inverse s flat index fix (eqb-false _ _ e)))

    -- A correction over columns of one length answers what the correction of the converted lists
    -- answers, refusal and count, and leaves columns that stand for what it leaves.
    pub the-correction-gives-the-old-answer : (correct_columns_of inverse s old index fix).answer ≡ done.answer
    unfolding correct_columns_of
    the-correction-gives-the-old-answer =
        rw (correct-refused-alike old level s index) (by_answer (eqb (correct_refusal_of s flat index).number 0) refl)

    pub the-correction-leaves-the-old-lists : flat_kept_of (correct_columns_of inverse s old index fix).kept ≡ done.kept
    unfolding correct_columns_of
    the-correction-leaves-the-old-lists =
        rw (correct-refused-alike old level s index) (by-kept (eqb (correct_refusal_of s flat index).number 0) refl)

-- what a correction hands out tells its answer: its outcome is that of how many fixes it redid
pub columns-handed : (o : CorrectColumnsOutcome) {out : Result ℕ Refusal} {n : ℕ} {new : KeptColumns} → out ≡ redone_in o.answer → out ≡ Ok n → new ≡ o.kept
    → columns_outcome (corrected_as o.answer.refusal n) new ≡ o
columns-handed o {out} {n} {new} e ok k =
    ap (λ (m : ℕ). columns_outcome (corrected_as o.answer.refusal m) new) (passed_value o.answer.refusal o.answer.redone e ok) ∙ ap (λ (held : KeptColumns). columns_outcome o.answer held) k
