-- The rules of refusal that a ten-parameter record can break, by document 01's numbers: 5 and 6.
-- Rotated is judged on the scaled angles, as of the Helmert record.
use Rattle.std.specs.Prelude.{Bool, ◌&&◌, ltb}
use Rattle.std.specs.Float.Ieee.Scale.{finite}
use Rattle.helmert.specs.Rules.{finite3_of, lacks_convention_of as helmert_lacks_convention_of}
use Rattle.badekas.specs.declared.Badekas.{Badekas}
use Rattle.badekas.specs.Record.{helmert_of}

-- rule 5, "a body field outside its rule": no flag but the three, a convention of the three, and
-- ten finite numbers
unfoldable pub fields_in_rule_of : Badekas → Bool
fields_in_rule_of r =
    ltb r.flags 8
    && ltb r.convention 3
    && finite3_of r.translation
    && finite3_of r.rotation
    && finite r.scale
    && finite3_of r.pivot

-- rule 6, "rotated, convention none"
unfoldable pub lacks_convention_of : Badekas → Bool
lacks_convention_of r = helmert_lacks_convention_of (helmert_of r)
