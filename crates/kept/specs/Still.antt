-- The modes in which the kept run carries no state from fix to fix: static, fixed and own-epoch.
use Rattle.std.specs.Prelude.{◌≡◌, ◌⊎◌, true, false}
use Rattle.helmert.specs.declared.Shift.{Shift}

-- a shift in one of these three modes
abbrev pub Still : Shift → Type 0
Still shift = (shift.dynamic ≡ false) ⊎ (shift.fixed ≡ true) ⊎ (shift.own_epoch ≡ true)
