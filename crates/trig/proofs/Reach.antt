-- What the two answers of `in_reach` say of the angle. Assumes nothing.
use mathlib.Core.Path.{◌≡◌, refl, sym, ◌∙◌, ap}
use mathlib.Core.Bool.{Bool, true, false, not, cond, true≢false}
use Rattle.std.specs.Prelude.{Option, Some, None, Float}
use Rattle.std.specs.Float.Ieee.{le}
use Rattle.std.specs.Option.{is_some, unwrap_or}
use Rattle.floats.specs.Number.{abs_of}
use Rattle.trig.specs.Trig.{reach, out_of_reach}
use Rattle.trig.proofs.Laws.{out_told}

-- the magnitude of x, where x is in reach
abbrev pub reached : Float → Option Float
reached x = cond (out_of_reach x) None (Some (abs_of x))

flip : (b : Bool) → not b ≡ false → b ≡ true
flip true e = refl
flip false e = sym e

-- a magnitude is given in reach alone
pub given_in_reach : (x a : Float) → Some a ≡ reached x → le (abs_of x) reach ≡ true
unfolding out_of_reach
given_in_reach x a h = flip (le (abs_of x) reach) (go (out_of_reach x) refl h)
  where
    go : (out : Bool) → out_of_reach x ≡ out → Some a ≡ cond out None (Some (abs_of x)) → out_of_reach x ≡ false
    go true e h = absurd (true≢false (ap is_some h))
    go false e h = e

-- and is that of x
pub given_is_the_magnitude : (x a : Float) → Some a ≡ reached x → a ≡ abs_of x
given_is_the_magnitude x a h = go (out_of_reach x) h
  where
    go : (out : Bool) → Some a ≡ cond out None (Some (abs_of x)) → a ≡ abs_of x
    go true h = absurd (true≢false (ap is_some h))
    go false h = ap (λ (o : Option Float). unwrap_or o x) h

-- none is given out of reach alone
pub none_out_of_reach : (x : Float) → None ≡ reached x → out_of_reach x ≡ true
none_out_of_reach x h = go (out_of_reach x) refl h
  where
    go : (out : Bool) → out_of_reach x ≡ out → None ≡ cond out None (Some (abs_of x)) → out_of_reach x ≡ true
    go true e h = e
    go false e h = absurd (true≢false (sym (ap is_some h)))
