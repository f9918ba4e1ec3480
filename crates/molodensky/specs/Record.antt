-- The Molodensky step's record, as a sheet carries it (kind 3): flags, two ellipsoids, the shift of
-- the centre and the change of the figure.
use Rattle.std.specs.Prelude.{◌/◌, ◌%◌, Bool, true, cond, ◌&&◌, eqb, ltb}
use Rattle.std.specs.Float.Ieee.Scale.{finite}
use Rattle.floats.specs.Binary64.{bits}
use Rattle.floats.specs.Number.{same_of}
use Rattle.ellipsoid.specs.Figure.{exists_of}
use Rattle.molodensky.specs.declared.Molodensky.{Molodensky}

-- the crate's defaults: full form, GRS80, no second ellipsoid, nothing moved
abbrev pub blank_of : Molodensky
blank_of = record { flags = 0; first = 1; second = 0; dx = bits 0; dy = bits 0; dz = bits 0; da = bits 0; df = bits 0 }

-- flag 1: the abridged form
abbrev pub abridged_of : Molodensky → Bool
abridged_of r = eqb (r.flags % 2) 1

-- flag 2: da and df come from two ellipsoids
abbrev pub two_ellipsoids_of : Molodensky → Bool
two_ellipsoids_of r = eqb (r.flags / 2 % 2) 1

-- the second ellipsoid is one of the table under flag 2, else it is 0
abbrev pub second_in_rule_of : Molodensky → Bool
second_in_rule_of r = cond (two_ellipsoids_of r) (exists_of r.second) (eqb r.second 0)

-- da and df are +0 under flag 2
abbrev pub figure_in_rule_of : Molodensky → Bool
figure_in_rule_of r = cond (two_ellipsoids_of r) (same_of r.da (bits 0) && same_of r.df (bits 0)) true

-- every number is finite
abbrev pub finite_of : Molodensky → Bool
finite_of r = finite r.dx && finite r.dy && finite r.dz && finite r.da && finite r.df

-- rule 5
abbrev pub in_rule_of : Molodensky → Bool
in_rule_of r = ltb r.flags 4 && exists_of r.first && second_in_rule_of r && finite_of r && figure_in_rule_of r
