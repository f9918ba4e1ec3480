-- Known values: the body of document 01's P1, and a Helmert body and one of kind 6 in which every
-- field differs, read. Assumes nothing.
use mathlib.Core.Path.{◌≡◌, refl}
use mathlib.Core.Bool.{true, false}
use mathlib.Core.List.{List, [], ◌∷◌, ◌++◌}
use Prim.Native.Nat.{ℕ, ◌+◌}
use lib.Ieee.{Float, nan, of_bits, is_nan, of_fields}
use Rattle.floats.specs.Binary64.{bits}
use Rattle.words.specs.Words.{word32, word64, number_at, one_nan_at}
use Rattle.rotation.specs.declared.Vec3.{Vec3}
use Rattle.helmert.specs.declared.Helmert.{Helmert as HelmertRecord}
use Rattle.helmert.specs.Rules.{fields_in_rule_of, vectors_finite_of, scales_finite_of, finite3_of, time_of}
use Rattle.badekas.specs.declared.Badekas.{Badekas as BadekasRecord}
use Rattle.badekas.specs.Rules.{fields_in_rule_of as badekas_in_rule_of}
use Rattle.bodies.specs.declared.Step.TheVariants.{Cart, Badekas, Helmert}
use Rattle.bodies.specs.Kinds.{length_of}
use Rattle.bodies.specs.Read.{vec3_at, helmert_of, cart_of, badekas_of, blank_step, step_of}
use Rattle.bodies.specs.Rules.{step_in_rule, written_in_rule, body_in_rule}

-- ---- P1's body, the words 1 and 0

abbrev pub p1 : List ℕ
p1 = 1 ∷ 0 ∷ 0 ∷ 0 ∷ 0 ∷ 0 ∷ 0 ∷ 0 ∷ []

p1_is_grs80 : (step_of 2 p1 ≡ Cart (record { ellipsoid = 1 })) × (body_in_rule 2 p1 ≡ true)
unfolding step_of length_of cart_of word32 body_in_rule written_in_rule step_in_rule
p1_is_grs80 = (refl, refl)

-- cut by a byte, under another kind, or with a word in the reserved place it is not in rule
p1-damaged :
    (body_in_rule 2 (1 ∷ 0 ∷ 0 ∷ 0 ∷ 0 ∷ 0 ∷ 0 ∷ []) ≡ false)
    × (body_in_rule 7 p1 ≡ false)
    × (body_in_rule 2 (1 ∷ 0 ∷ 0 ∷ 0 ∷ 1 ∷ 0 ∷ 0 ∷ 0 ∷ []) ≡ false)
    × (step_of 7 p1 ≡ blank_step)
unfolding step_of length_of cart_of word32 body_in_rule written_in_rule step_in_rule
p1-damaged = (refl, refl, refl, refl)

-- ---- a Helmert body with every field distinct

-- the number a little above 1 whose bits end in k, and its bytes
abbrev number : ℕ → Float
number k = bits (0x3ff0_0000_0000_0000 + k)

abbrev eight : ℕ → List ℕ
eight k = k ∷ 0 ∷ 0 ∷ 0 ∷ 0 ∷ 0 ∷ 0xf0 ∷ 0x3f ∷ []

abbrev three : ℕ → ℕ → ℕ → Vec3
three i j k = record { x = number i; y = number j; z = number k }

unfoldable pub distinct : HelmertRecord
distinct =
    record {
      flags = 5;
      convention = 2;
      translation = three 1 2 3;
      xyz = three 4 5 6;
      translation_rate = three 7 8 9;
      dxyz = three 10 11 12;
      rotation = three 13 14 15;
      rxyz = three 16 17 18;
      rotation_rate = three 19 20 21;
      drxyz = three 22 23 24;
      scale = number 25;
      s = number 26;
      scale_rate = number 27;
      ds = number 28;
      t_epoch = number 29;
      t_obs = nan;
    }

unfoldable pub body : List ℕ
body =
    (5 ∷ 0 ∷ 0 ∷ 0 ∷ 2 ∷ 0 ∷ 0 ∷ 0 ∷ [])
    ++ eight 1 ++ eight 2 ++ eight 3
    ++ eight 4 ++ eight 5 ++ eight 6
    ++ eight 7 ++ eight 8 ++ eight 9
    ++ eight 10 ++ eight 11 ++ eight 12
    ++ eight 13 ++ eight 14 ++ eight 15
    ++ eight 16 ++ eight 17 ++ eight 18
    ++ eight 19 ++ eight 20 ++ eight 21
    ++ eight 22 ++ eight 23 ++ eight 24
    ++ eight 25 ++ eight 26 ++ eight 27 ++ eight 28 ++ eight 29
    ++ (0 ∷ 0 ∷ 0 ∷ 0 ∷ 0 ∷ 0 ∷ 0xf8 ∷ 0x7f ∷ [])

distinct_read : step_of 1 body ≡ Helmert distinct
unfolding distinct body step_of length_of helmert_of vec3_at number_at word64 word32 of_bits of_fields
distinct_read = refl

distinct_in_rule : body_in_rule 1 body ≡ true
unfolding body body_in_rule written_in_rule step_in_rule one_nan_at fields_in_rule_of vectors_finite_of scales_finite_of finite3_of time_of step_of length_of helmert_of vec3_at number_at word64 word32 of_bits of_fields is_nan
distinct_in_rule = refl

-- ---- a body of kind 6 with every field distinct

unfoldable pub distinct6 : BadekasRecord
distinct6 =
    record {
      flags = 7;
      convention = 1;
      translation = three 1 2 3;
      rotation = three 4 5 6;
      scale = number 7;
      pivot = three 8 9 10;
    }

unfoldable pub body6 : List ℕ
body6 =
    (7 ∷ 0 ∷ 0 ∷ 0 ∷ 1 ∷ 0 ∷ 0 ∷ 0 ∷ [])
    ++ eight 1 ++ eight 2 ++ eight 3
    ++ eight 4 ++ eight 5 ++ eight 6
    ++ eight 7
    ++ eight 8 ++ eight 9 ++ eight 10

distinct6_read : (step_of 6 body6 ≡ Badekas distinct6) × (body_in_rule 6 body6 ≡ true)
unfolding distinct6 body6 body_in_rule written_in_rule step_in_rule badekas_in_rule_of finite3_of step_of length_of badekas_of vec3_at number_at word64 word32 of_bits of_fields
distinct6_read = (refl, refl)
