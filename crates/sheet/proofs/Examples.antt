-- Known sheets, evaluated: document 01's marked points P1, P7, P11 and P12, by the reader's and the
-- writer's rules. Assumes nothing.
use mathlib.Core.Path.{◌≡◌, refl}
use mathlib.Core.List.{List, [], ◌∷◌, ◌++◌}
use Prim.Native.Nat.{ℕ}
use lib.ListN.{take}
use Rattle.words.specs.Words.{le32}
use Rattle.words.specs.Words.{word32, word64, number_at, one_nan_at}
use Rattle.bodies.specs.Kinds.{length_of}
use Rattle.bodies.specs.Read.{step_of, vec3_at, helmert_of, cart_of}
use Rattle.bodies.specs.Rules.{step_in_rule, lacks_convention, lacks_epoch, lacks_duration, written_in_rule, body_in_rule}
use Rattle.helmert.specs.Rules.{fields_in_rule_of, vectors_finite_of, scales_finite_of, finite3_of, time_of, lacks_convention_of, lacks_epoch_of, rotated_of, dynamic_of, some_of}
use Rattle.helmert.specs.Units.{parameters_of, winner_of, lengths_of, angles_of}
use lib.Ieee.{of_bits, is_nan, ne, mul, div}
use Rattle.sheet.specs.Layout.{body_at}
use Rattle.sheet.specs.Rules.{refusal1, refusal2, refusal3, refusal4, refusal5, end_before, place_broken, some_from, has_deformation, refusal11, rules_of_step, five_to_eight, elevens, reader_order, first_broken, accepted, of_call, of_step, refusal_of}

-- a sheet's bytes, given as words
bytes : List ℕ → List ℕ
bytes [] = []
bytes (w ∷ ws) = le32 w ++ bytes ws

-- P1: GRS80 cart
pub p1 : List ℕ
p1 = bytes (1 ∷ 40 ∷ 1 ∷ 16 ∷ 2 ∷ 0 ∷ 32 ∷ 8 ∷ 1 ∷ 0 ∷ [])

pub P1_is_read : refusal_of p1 ≡ accepted
unfolding p1 bytes word32 word64 number_at one_nan_at le32 length_of body_at step_of vec3_at helmert_of cart_of step_in_rule lacks_convention lacks_epoch lacks_duration written_in_rule body_in_rule fields_in_rule_of vectors_finite_of scales_finite_of finite3_of time_of lacks_convention_of lacks_epoch_of rotated_of dynamic_of some_of parameters_of winner_of lengths_of angles_of refusal1 refusal2 refusal3 refusal4 refusal5 end_before place_broken some_from has_deformation refusal11 rules_of_step five_to_eight elevens reader_order first_broken refusal_of
P1_is_read = refl

-- P7: P1's sheet cut by a byte
pub P7_is_refused_by_1 : refusal_of (take 39 p1) ≡ of_call 1
unfolding p1 bytes word32 word64 number_at one_nan_at le32 length_of body_at step_of vec3_at helmert_of cart_of step_in_rule lacks_convention lacks_epoch lacks_duration written_in_rule body_in_rule fields_in_rule_of vectors_finite_of scales_finite_of finite3_of time_of lacks_convention_of lacks_epoch_of rotated_of dynamic_of some_of parameters_of winner_of lengths_of angles_of refusal1 refusal2 refusal3 refusal4 refusal5 end_before place_broken some_from has_deformation refusal11 rules_of_step five_to_eight elevens reader_order first_broken refusal_of
P7_is_refused_by_1 = refl

-- P11: Helmert, rx = 1, no convention
pub p11 : List ℕ
p11 =
    bytes
    (1 ∷ 280 ∷ 1 ∷ 16 ∷ 1 ∷ 0 ∷ 32 ∷ 248 ∷ 0 ∷ 0
    ∷ 0 ∷ 0 ∷ 0 ∷ 0 ∷ 0 ∷ 0 ∷ 0 ∷ 0 ∷ 0 ∷ 0
    ∷ 0 ∷ 0 ∷ 0 ∷ 0 ∷ 0 ∷ 0 ∷ 0 ∷ 0 ∷ 0 ∷ 0
    ∷ 0 ∷ 0 ∷ 0 ∷ 0 ∷ 0 ∷ 0 ∷ 0 ∷ 0 ∷ 0 ∷ 0
    ∷ 0 ∷ 0x3ff00000 ∷ 0 ∷ 0 ∷ 0 ∷ 0 ∷ 0 ∷ 0 ∷ 0 ∷ 0
    ∷ 0 ∷ 0 ∷ 0 ∷ 0 ∷ 0 ∷ 0 ∷ 0 ∷ 0 ∷ 0 ∷ 0
    ∷ 0 ∷ 0 ∷ 0 ∷ 0 ∷ 0 ∷ 0 ∷ 0 ∷ 0x7ff80000 ∷ 0 ∷ 0x7ff80000 ∷ [])

pub P11_is_refused_by_6 : refusal_of p11 ≡ of_step 6 0
unfolding p11 bytes word32 word64 number_at one_nan_at le32 length_of body_at step_of vec3_at helmert_of cart_of step_in_rule lacks_convention lacks_epoch lacks_duration written_in_rule body_in_rule fields_in_rule_of vectors_finite_of scales_finite_of finite3_of time_of lacks_convention_of lacks_epoch_of rotated_of dynamic_of some_of parameters_of winner_of lengths_of angles_of refusal1 refusal2 refusal3 refusal4 refusal5 end_before place_broken some_from has_deformation refusal11 rules_of_step five_to_eight elevens reader_order first_broken refusal_of is_nan of_bits ne mul div
P11_is_refused_by_6 = refl

-- P12: Helmert, dx = 1, no epoch
pub p12 : List ℕ
p12 =
    bytes
    (1 ∷ 280 ∷ 1 ∷ 16 ∷ 1 ∷ 0 ∷ 32 ∷ 248 ∷ 0 ∷ 0
    ∷ 0 ∷ 0 ∷ 0 ∷ 0 ∷ 0 ∷ 0 ∷ 0 ∷ 0 ∷ 0 ∷ 0
    ∷ 0 ∷ 0 ∷ 0 ∷ 0 ∷ 0 ∷ 0 ∷ 0 ∷ 0 ∷ 0 ∷ 0x3ff00000
    ∷ 0 ∷ 0 ∷ 0 ∷ 0 ∷ 0 ∷ 0 ∷ 0 ∷ 0 ∷ 0 ∷ 0
    ∷ 0 ∷ 0 ∷ 0 ∷ 0 ∷ 0 ∷ 0 ∷ 0 ∷ 0 ∷ 0 ∷ 0
    ∷ 0 ∷ 0 ∷ 0 ∷ 0 ∷ 0 ∷ 0 ∷ 0 ∷ 0 ∷ 0 ∷ 0
    ∷ 0 ∷ 0 ∷ 0 ∷ 0 ∷ 0 ∷ 0 ∷ 0 ∷ 0x7ff80000 ∷ 0 ∷ 0x7ff80000 ∷ [])

pub P12_is_refused_by_7 : refusal_of p12 ≡ of_step 7 0
unfolding p12 bytes word32 word64 number_at one_nan_at le32 length_of body_at step_of vec3_at helmert_of cart_of step_in_rule lacks_convention lacks_epoch lacks_duration written_in_rule body_in_rule fields_in_rule_of vectors_finite_of scales_finite_of finite3_of time_of lacks_convention_of lacks_epoch_of rotated_of dynamic_of some_of parameters_of winner_of lengths_of angles_of refusal1 refusal2 refusal3 refusal4 refusal5 end_before place_broken some_from has_deformation refusal11 rules_of_step five_to_eight elevens reader_order first_broken refusal_of is_nan of_bits ne mul div
P12_is_refused_by_7 = refl
