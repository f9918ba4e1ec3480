-- A record that breaks no rule has at most sixteen steps. Assumes nothing.
use Prim.Native.Nat.{ℕ, ◌≤◌}
use mathlib.Core.Path.{◌≡◌, refl}
use mathlib.Core.Bool.{Bool, true, false, cond}
use Rattle.sheet.specs.declared.Refusal.{Refusal}
use Rattle.sheet.specs.declared.Sheet.{Sheet}
use Rattle.sheet.specs.Rules.{of_call, first_broken, refusal3}
use Rattle.sheet_writer.specs.Rules.{writer_refusal_of, writer_order}
use Rattle.sheet.proofs.Order.{not_zero, count_kept}

first_kept : (three : Bool) (r : Refusal) → (cond three (of_call 3) r).number ≡ 0 → three ≡ false
first_kept true r h = absurd (not_zero 2 h)
first_kept false r h = refl

pub few-kept : (sheet : Sheet) (room : ℕ) → (writer_refusal_of sheet room).number ≡ 0 → sheet.count ≤ 16
unfolding writer_refusal_of writer_order first_broken
few-kept sheet room h = (count_kept sheet.count (first_kept (refusal3 sheet.count) _ h)).1
