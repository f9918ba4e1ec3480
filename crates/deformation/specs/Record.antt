-- The deformation step's record, as a sheet carries it (kind 5): flags, an ellipsoid, and a
-- duration dt or an epoch, each NaN where it is not given.
use Rattle.std.specs.Prelude.{◌/◌, ◌%◌, Bool, not, cond, ◌&&◌, ◌||◌, eqb, ltb, Float}
use Rattle.std.specs.Float.{nan}
use Rattle.std.specs.Float.Ieee.{is_nan}
use Rattle.std.specs.Float.Ieee.Scale.{finite}
use Rattle.ellipsoid.specs.Figure.{exists_of}
use Rattle.deformation.specs.declared.Deformation.{Deformation}

-- the crate's defaults: GRS80, the correction added and not raw, neither dt nor an epoch given,
-- which rule 8 refuses
abbrev pub blank_of : Deformation
blank_of = record { flags = 0; ellipsoid = 1; dt = nan; epoch = nan }

-- flag 1: the raw correction
abbrev pub raw_of : Deformation → Bool
raw_of r = eqb (r.flags % 2) 1

-- flag 2: the sign of comment (3) in the Rust's file
abbrev pub by_comment_of : Deformation → Bool
by_comment_of r = eqb (r.flags / 2 % 2) 1

-- Whether a run in a direction uses the inverse sign of the Rust's code: flag 2 turns the direction round.
unfoldable pub directed_of : Deformation → Bool → Bool
directed_of r inverse = cond (by_comment_of r) (not inverse) inverse

-- a number that may be left out: finite, or "not given"
abbrev pub finite_or_not : Float → Bool
finite_or_not x = finite x || is_nan x

-- rule 5
abbrev pub in_rule_of : Deformation → Bool
in_rule_of r = ltb r.flags 4 && exists_of r.ellipsoid && finite_or_not r.dt && finite_or_not r.epoch

-- rule 8: neither dt nor t_epoch
abbrev pub neither_of : Deformation → Bool
neither_of r = is_nan r.dt && is_nan r.epoch
