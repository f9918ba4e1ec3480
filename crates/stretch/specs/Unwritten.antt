-- What a correction leaves alone: the parts of a list before the stretch and after it.
use Rattle.std.specs.Prelude.{◌≡◌, List, ℕ, length, take, drop, Float}

-- a list is as it was before a place and from another on
pub record Unwritten (old new : List Float) (start end : ℕ) : Type 0 where
  pub before : take start new ≡ take start old
  pub after : drop end new ≡ drop end old
  pub long : length new ≡ length old
