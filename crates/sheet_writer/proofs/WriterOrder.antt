-- The writer's order, as `check_record` goes through it. Working definitions, which no promise
-- cites: `last`, `after`. Assumes nothing.
use mathlib.Core.Path.{◌≡◌, sym, ap, ◌∙◌}
use Prim.Native.Nat.{ℕ, ◌≤◌}
use mathlib.Core.List.{List, [], ◌∷◌, ◌++◌}
use mathlib.Core.Bool.{true, false}
use borrow.Author.Tests.{ltb-false}
use Rattle.sheet.specs.declared.Refusal.{Refusal}
use Rattle.sheet.specs.declared.Sheet.{Sheet}
use Rattle.sheet.specs.Layout.{step_in, kind_in}
use Rattle.sheet_writer.specs.Bytes.{sheet_length}
use Rattle.sheet.specs.Rules.{Rule, rule, of_call, accepted, first_broken, five_to_eight, elevens, refusal3}
use Rattle.sheet_writer.specs.Rules.{record_refusal4, record_refusal5, refusal15, writer_order, writer_refusal_of}
use Rattle.sheet.specs.Given.{Unbroken}
use Rattle.sheet.proofs.Order.{Without, Numbered, not_zero, without_append, numbered_steps, numbered_elevens, kept_then, broken_first, all_kept, kept_right, count_kept}

-- after step by step 5 to 8 and 11: 15
abbrev pub last : Sheet → ℕ → List Rule
last sheet room = rule (of_call 15) (refusal15 sheet room) ∷ []

-- 5 to 8 of n steps, 11, then 15
abbrev pub after : Sheet → ℕ → ℕ → List Rule
after sheet room n = five_to_eight (record_refusal5 sheet) (step_in sheet) n 0 ++ (elevens (kind_in sheet) n 0 ++ last sheet room)

module _ (sheet : Sheet) (room : ℕ) where
  pub writer-three : refusal3 sheet.count ≡ true → writer_refusal_of sheet room ≡ of_call 3
  unfolding writer_refusal_of writer_order first_broken
  writer-three e = rw e

  pub writer-four : refusal3 sheet.count ≡ false → record_refusal4 sheet ≡ true → writer_refusal_of sheet room ≡ of_call 4
  unfolding writer_refusal_of writer_order first_broken
  writer-four e h = rw (e, h)

  pub numbered-writer : Numbered (writer_order sheet room)
  unfolding writer_order
  numbered-writer =
      Without.next (λ b. not_zero 2) (Without.next (λ b. not_zero 3)
      (without_append (numbered_steps (record_refusal5 sheet) (step_in sheet) sheet.count 0)
      (without_append (numbered_elevens (kind_in sheet) sheet.count 0) (Without.next (λ b. not_zero 14) Without.none))))

  module _ (kept3 : refusal3 sheet.count ≡ false) (kept4 : record_refusal4 sheet ≡ false) (n : ℕ) (count : n ≡ sheet.count) where
    passed : writer_refusal_of sheet room ≡ first_broken (after sheet room sheet.count)
    unfolding writer_refusal_of writer_order first_broken
    passed = rw (kept3, kept4)

    on-n : writer_refusal_of sheet room ≡ first_broken (after sheet room n)
    on-n = passed ∙ ap (λ (k : ℕ). first_broken (after sheet room k)) (sym count)

    module _ (r : Refusal) (answer : r ≡ first_broken (five_to_eight (record_refusal5 sheet) (step_in sheet) n 0)) where
      pub writer-step : (r.number ≡ 0 → ⊥) → writer_refusal_of sheet room ≡ r
      writer-step h =
          on-n
          ∙ broken_first (five_to_eight (record_refusal5 sheet) (step_in sheet) n 0) (elevens (kind_in sheet) n 0 ++ last sheet room) (rw answer at h)
          ∙ sym answer

      module _ (h : r.number ≡ 0) where
        steps-kept : writer_refusal_of sheet room ≡ first_broken (elevens (kind_in sheet) n 0 ++ last sheet room)
        steps-kept =
            on-n
            ∙ kept_then (five_to_eight (record_refusal5 sheet) (step_in sheet) n 0) (elevens (kind_in sheet) n 0 ++ last sheet room)
            (numbered_steps (record_refusal5 sheet) (step_in sheet) n 0) (rw answer at h)

        module _ (q : Refusal) (second : q ≡ first_broken (elevens (kind_in sheet) n 0)) where
          pub writer-eleven : (q.number ≡ 0 → ⊥) → writer_refusal_of sheet room ≡ q
          writer-eleven g =
              steps-kept ∙ broken_first (elevens (kind_in sheet) n 0) (last sheet room) (rw second at g) ∙ sym second

          elevens-kept : q.number ≡ 0 → writer_refusal_of sheet room ≡ first_broken (last sheet room)
          elevens-kept g =
              steps-kept ∙ kept_then (elevens (kind_in sheet) n 0) (last sheet room) (numbered_elevens (kind_in sheet) n 0) (rw second at g)

          pub writer-short : q.number ≡ 0 → refusal15 sheet room ≡ true → writer_refusal_of sheet room ≡ of_call 15
          unfolding first_broken
          writer-short g e = elevens-kept g ∙ rw e

          pub writer-accepts : q.number ≡ 0 → refusal15 sheet room ≡ false → writer_refusal_of sheet room ≡ accepted
          unfolding first_broken
          writer-accepts g e = elevens-kept g ∙ rw e

kept-three : (sheet : Sheet) (room : ℕ) → Unbroken (writer_order sheet room) → refusal3 sheet.count ≡ false
unfolding writer_order
kept-three sheet room (Unbroken.next a k) = a

only : {r : Rule} → Unbroken (r ∷ []) → r.broken ≡ false
only (Unbroken.next a k) = a

kept_last : (sheet : Sheet) (room : ℕ) → Unbroken (writer_order sheet room) → refusal15 sheet room ≡ false
unfolding writer_order
kept_last sheet room (Unbroken.next a (Unbroken.next b k)) =
    only (kept_right (elevens (kind_in sheet) sheet.count 0) (last sheet room)
    (kept_right (five_to_eight (record_refusal5 sheet) (step_in sheet) sheet.count 0) (elevens (kind_in sheet) sheet.count 0 ++ last sheet room) k))

-- a record that the writer accepts has at most 16 steps, and the room holds its sheet
pub accepted_record : (sheet : Sheet) (room : ℕ) → (writer_refusal_of sheet room).number ≡ 0 → (sheet.count ≤ 16) × (sheet_length sheet ≤ room)
unfolding writer_refusal_of refusal15
accepted_record sheet room e =
    let k = all_kept (writer_order sheet room) (numbered-writer sheet room) e in
    ((count_kept sheet.count (kept-three sheet room k)).1, ltb-false room (sheet_length sheet) (kept_last sheet room k))
