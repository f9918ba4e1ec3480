-- What stands in a room has at most sixteen steps. Assumes nothing.
use mathlib.Core.Path.{◌≡◌, refl}
use Prim.Native.Nat.{ℕ, ◌≤◌}
use mathlib.Core.Bool.{Bool, true, false, cond}
use mathlib.Core.List.{List}
use native.Mathlib.Omega.{arith}
use borrow.Author.Tests.{eqb-true}
use lib.Dec.{eqb, ltb}
use lib.ListN.{length, take}
use Rattle.sheet.specs.Layout.{blank_sheet, record_of}
use Rattle.sheet.specs.Rules.{accepted, of_call, refusal_of, reading_of}
use Rattle.sheet.proofs.Order.{accepted_count}
use Rattle.sheet.proofs.Back.{record_count}
use Rattle.making.specs.Adding.{reading_as, standing_of}

few_read : (s : List ℕ) (b : Bool) → eqb (refusal_of s).number 0 ≡ b → (cond b (record_of s) blank_sheet).count ≤ 16
few_read s true e = omega (arith, record_count s, accepted_count s (eqb-true _ _ e))
few_read s false e = omega arith

few : (room : List ℕ) (len : ℕ) (none past : Bool)
    → (cond none (reading_as accepted blank_sheet) (cond past (reading_as (of_call 1) blank_sheet) (reading_of (take len room)))).sheet.count ≤ 16
unfolding reading_of
few room len true past = omega arith
few room len false true = omega arith
few room len false false = few_read (take len room) (eqb (refusal_of (take len room)).number 0) refl

pub few_standing : (room : List ℕ) (len : ℕ) → (standing_of room len).sheet.count ≤ 16
unfolding standing_of
few_standing room len = few room len (eqb len 0) (ltb (length room) len)
