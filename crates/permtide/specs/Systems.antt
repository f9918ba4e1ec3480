-- The three systems, by their codes and in a row of three numbers: how the code reads the table of
-- coefficients.
use Rattle.std.specs.Prelude.{ℕ, cond, eqb, Float, Result, Ok, Err}
use Rattle.permtide.specs.declared.System.{System}
use Rattle.permtide.specs.declared.System.TheVariants.{Mean, Zero, Free}
use Rattle.permtide.specs.declared.UnknownSystem.{UnknownSystem}

-- the system that a code names
abbrev pub coded_of : ℕ → Result System UnknownSystem
coded_of code = cond (eqb code 1) (Ok Mean) (cond (eqb code 2) (Ok Zero) (cond (eqb code 3) (Ok Free) (Err (record {}))))

-- its number in a row
abbrev pub picked_of : System → Float → Float → Float → Float
picked_of Mean mean zero free = mean
picked_of Zero mean zero free = zero
picked_of Free mean zero free = free
