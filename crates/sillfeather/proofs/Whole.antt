-- A result tells the whole refusal: its number and its step can be taken out of it again, whatever
-- a call was given. Working definition, which no promise cites: `Whole`. Assumes nothing.
use Prim.Native.Nat.{ℕ, zero, suc, ◌+◌, ◌<◌, ◌≤◌}
use native.Mathlib.Omega.{arith}
use mathlib.Core.Path.{◌≡◌, refl}
use mathlib.Core.Bool.{Bool, true, false, cond}
use mathlib.Core.List.{List, [], ◌∷◌, ◌++◌}
use lib.Dec.{eqb, ltb}
use lib.ListN.{length, take}
use lib.Ieee.{Float}
use Rattle.tuple.specs.declared.Tuple.{Tuple}
use Rattle.bodies.specs.declared.Step.{Step}
use Rattle.sheet.specs.declared.Sheet.{Sheet}
use Rattle.sheet.specs.declared.Entry.{Entry}
use Rattle.sheet.specs.declared.Refusal.{Refusal}
use Rattle.sheet.specs.Layout.{step_count_of, kind_at, entry_at, step_at, blank_sheet, step_in, kind_in}
use Rattle.sheet.specs.Rules.{Rule, accepted, of_call, of_step, refusal1, refusal2, refusal3, refusal4, refusal5_at, rules_of_step, five_to_eight, elevens, reader_order, has_deformation, first_broken, refusal_of, reading_of}
use Rattle.sheet_writer.specs.Rules.{record_refusal4, record_refusal5, writer_order, writer_refusal_of}
use Rattle.sheet.proofs.Order.{count_kept}
use Rattle.chain.specs.Chain.{entries_of}
use Rattle.chain.specs.Rules.{shift_refusal_of, outcome_of, shift_of}
use Rattle.stretch.specs.Kept.{Kept}
use Rattle.kept.specs.Entries.{keep_refusal_of, correct_refusal_of, correct_of}
use Rattle.making.specs.Adding.{reading_as, standing_of, with_step_of, written_as, added_of}
use Rattle.rescue.specs.Rebuilt.{rebuilt_of}
use Rattle.rescue.specs.Rules.{refusal19, refusal15, rescue_order, rescue_refusal_of, rescue_of}
use Rattle.sillfeather.specs.Told.{Told}

-- a refusal whose parts have each their half of the word
pub record Whole (r : Refusal) : Type 0 where
  pub low : r.number < 65536
  pub high : r.step < 65536

told : (r : Refusal) → Whole r → Told r
told r w = let low = w.low in let high = w.high in record { number = omega arith; step = omega arith }

-- ---- the first rule that is broken

data Each : List Rule → Type 0 where
  none : Each []
  next : {r : Rule} {l : List Rule} → Whole r.answer → Each l → Each (r ∷ l)

each_append : {l m : List Rule} → Each l → Each m → Each (l ++ m)
each_append none n = n
each_append (next h l) n = next h (each_append l n)

either : (t : Bool) (a b : Refusal) → Whole a → Whole b → Whole (cond t a b)
either true a b p q = p
either false a b p q = q

whole_first : (l : List Rule) → Each l → Whole (first_broken l)
unfolding first_broken
whole_first [] none = record { low = omega arith; high = omega arith }
whole_first (r ∷ l) (next h k) = either r.broken r.answer (first_broken l) h (whole_first l k)

whole-accepted : Whole accepted
whole-accepted = record { low = omega arith; high = omega arith }

each_steps : (five : ℕ → Bool) (step : ℕ → Step) (k i : ℕ) → i + k ≤ 16 → Each (five_to_eight five step k i)
unfolding five_to_eight rules_of_step
each_steps five step zero i h = none
each_steps five step (suc k) i h =
    let small : i + 1 < 65536 = omega arith in
    let of : (n : ℕ) → n < 65536 → Whole (of_step n i) = λ n l. record { low = l; high = small } in
    next (of 5 (omega arith)) (next (of 6 (omega arith)) (next (of 7 (omega arith)) (next (of 8 (omega arith)) (each_steps five step k (i + 1) (omega arith)))))

each_elevens : (kind : ℕ → ℕ) (k i : ℕ) → i + k ≤ 16 → Each (elevens kind k i)
unfolding elevens
each_elevens kind zero i h = none
each_elevens kind (suc k) i h =
    let eleven : Whole (of_step 11 i) = record { low = omega arith; high = omega arith } in
    next eleven (each_elevens kind k (i + 1) (omega arith))

of_sheet : (n : ℕ) → n < 65536 → Whole (of_call n)
of_sheet n h = record { low = h; high = omega arith }

-- 3 comes before all that counts steps
after_three : (three : Bool) (rest : Refusal) → (three ≡ false → Whole rest) → Whole (cond three (of_call 3) rest)
after_three true rest h = of_sheet 3 (omega arith)
after_three false rest h = h refl

pub whole_reader : (s : List ℕ) → Whole (refusal_of s)
unfolding refusal_of reader_order first_broken
whole_reader s =
    let n = step_count_of s in
    either (refusal1 s) _ _ (of_sheet 1 (omega arith))
    (either (refusal2 s) _ _ (of_sheet 2 (omega arith))
    (after_three (refusal3 n) _ (λ e.
    let few = (count_kept n e).1 in
    either (refusal4 s) _ _ (of_sheet 4 (omega arith))
    (whole_first (five_to_eight (refusal5_at s) (step_at s) n 0 ++ elevens (kind_at s) n 0)
    (each_append (each_steps (refusal5_at s) (step_at s) n 0 (omega arith)) (each_elevens (kind_at s) n 0 (omega arith)))))))

pub whole_writer : (sheet : Sheet) (room : ℕ) → Whole (writer_refusal_of sheet room)
unfolding writer_refusal_of writer_order first_broken
whole_writer sheet room =
    let n = sheet.count in
    after_three (refusal3 n) _ (λ e.
    let few = (count_kept n e).1 in
    either (record_refusal4 sheet) _ _ (of_sheet 4 (omega arith))
    (whole_first _
    (each_append (each_steps (record_refusal5 sheet) (step_in sheet) n 0 (omega arith))
    (each_append (each_elevens (kind_in sheet) n 0 (omega arith)) (next (of_sheet 15 (omega arith)) none)))))

-- ---- each function's result

pub check_tells : (s : List ℕ) → Told (refusal_of s)
check_tells s = told (refusal_of s) (whole_reader s)

whole_lists : (own : Refusal) (deforms : Bool) (l velocities : List Float) (marks : List ℕ) → Whole own → Whole (shift_refusal_of own deforms l velocities marks)
unfolding shift_refusal_of
whole_lists own deforms l velocities marks h =
    whole_first _ (next h (next (of_sheet 9 (omega arith)) (next (of_sheet 10 (omega arith)) none)))

whole-outcome : (own : Refusal) (deforms inverse : Bool) (es : List Entry) (l velocities : List Float) (marks : List ℕ) → Whole own
    → (ran : Bool) → eqb (shift_refusal_of own deforms l velocities marks).number 0 ≡ ran → Whole (outcome_of own deforms inverse es l velocities marks).answer.refusal
unfolding outcome_of
whole-outcome own deforms inverse es l velocities marks h true e = rw e whole-accepted
whole-outcome own deforms inverse es l velocities marks h false e = rw e (whole_lists own deforms l velocities marks h)

pub shift_tells : (inverse : Bool) (s : List ℕ) (l velocities : List Float) (marks : List ℕ) → Told (shift_of inverse s l velocities marks).answer.refusal
unfolding shift_of
shift_tells inverse s l velocities marks =
    told _ (whole-outcome (refusal_of s) (has_deformation (kind_at s) (step_count_of s)) inverse (entries_of (entry_at s) (step_count_of s) 0) l velocities marks (whole_reader s) _ refl)

pub keep_tells : (s : List ℕ) (old : Kept) → Told (keep_refusal_of s old)
unfolding keep_refusal_of
keep_tells s old =
    told _ (whole_first _ (next (whole_reader s) (next (of_sheet 12 (omega arith)) (next (of_sheet 9 (omega arith)) (next (of_sheet 13 (omega arith)) none)))))

whole_correct : (s : List ℕ) (old : Kept) (index : ℕ) → Whole (correct_refusal_of s old index)
unfolding correct_refusal_of
whole_correct s old index =
    whole_first _
    (next (whole_reader s) (next (of_sheet 12 (omega arith)) (next (of_sheet 9 (omega arith)) (next (of_sheet 13 (omega arith)) (next (of_sheet 14 (omega arith)) none)))))

correct_refusal : (inverse : Bool) (s : List ℕ) (old : Kept) (index : ℕ) (fix : Tuple) (ran : Bool) → eqb (correct_refusal_of s old index).number 0 ≡ ran
    → Whole (correct_of inverse s old index fix).answer.refusal
unfolding correct_of
correct_refusal inverse s old index fix true e = rw e (whole_correct s old index)
correct_refusal inverse s old index fix false e = rw e (whole_correct s old index)

pub correct_tells : (inverse : Bool) (s : List ℕ) (old : Kept) (index : ℕ) (fix : Tuple) → Told (correct_of inverse s old index fix).answer.refusal
correct_tells inverse s old index fix = told _ (correct_refusal inverse s old index fix _ refl)

whole_standing : (room : List ℕ) (len : ℕ) (none past : Bool)
    → Whole (cond none (reading_as accepted blank_sheet) (cond past (reading_as (of_call 1) blank_sheet) (reading_of (take len room)))).refusal
unfolding reading_of
whole_standing room len true past = whole-accepted
whole_standing room len false true = of_sheet 1 (omega arith)
whole_standing room len false false = whole_reader (take len room)

add_refusal : (room : List ℕ) (len inverted : ℕ) (step : Step) (stands : Bool) → eqb (standing_of room len).refusal.number 0 ≡ stands
    → Whole (added_of room len inverted step).answer.refusal
unfolding added_of written_as standing_of
add_refusal room len inverted step true e = rw e (whole_writer (with_step_of (standing_of room len).sheet inverted step) (length room))
add_refusal room len inverted step false e = rw e (whole_standing room len (eqb len 0) (ltb (length room) len))

pub add_tells : (room : List ℕ) (len inverted : ℕ) (step : Step) → Told (added_of room len inverted step).answer.refusal
add_tells room len inverted step = told _ (add_refusal room len inverted step _ refl)

whole_rescue : (s : List ℕ) (room list : ℕ) → Whole (rescue_refusal_of s room list)
unfolding rescue_refusal_of rescue_order first_broken refusal_of
whole_rescue s room list =
    either (refusal19 s) _ _ (of_sheet 19 (omega arith)) (either (refusal15 s room list) _ _ (of_sheet 15 (omega arith)) (whole_reader (rebuilt_of s)))

rescue_refusal : (s room list : List ℕ) (done : Bool) → eqb (rescue_refusal_of s (length room) (length list)).number 0 ≡ done → Whole (rescue_of s room list).answer.refusal
unfolding rescue_of
rescue_refusal s room list true e = rw e (whole_rescue s (length room) (length list))
rescue_refusal s room list false e = rw e (whole_rescue s (length room) (length list))

pub rescue_tells : (s room list : List ℕ) → Told (rescue_of s room list).answer.refusal
rescue_tells s room list = told _ (rescue_refusal s room list _ refl)
