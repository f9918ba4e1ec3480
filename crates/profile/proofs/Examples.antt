-- Known sheets under profiles, evaluated. Assumes nothing.
use mathlib.Core.Path.{◌≡◌, refl}
use mathlib.Core.List.{List, ◌++◌}
use mathlib.Core.Bool.{true, false}
use Prim.Native.Nat.{ℕ}
use lib.Ieee.{of_bits, is_nan, ne, mul, div}
use Rattle.words.specs.Words.{le32, word32, word64}
use Rattle.helmert.specs.Record.{zeros_with, blank_helmert}
use Rattle.helmert.specs.Units.{parameters_of, winner_of, lengths_of, angles_of}
use Rattle.helmert.specs.Rules.{dynamic_of, some_of}
use Rattle.bodies.specs.Kinds.{length_of}
use Rattle.bodies.specs.Read.{step_of, cart_of}
use Rattle.bodies.specs.Rules.{step_in_rule, lacks_convention, lacks_epoch, lacks_duration, written_in_rule, body_in_rule}
use Rattle.bodies.specs.declared.Step.TheVariants.{Helmert}
use Rattle.sheet.specs.Layout.{body_at}
use Rattle.sheet.specs.Rules.{accepted, of_call, refusal1, refusal2, refusal3, refusal4, refusal5, end_before, place_broken, some_from, has_deformation, refusal11, rules_of_step, five_to_eight, elevens, first_broken}
use Rattle.profile.specs.Profile.{helmert_offends, refusal25, twenty_fives, profile_rules, up_to_eight, profile_order, profile_refusal_of}

-- P1's sheet, GRS80 cart
abbrev cart : List ℕ
cart = le32 1 ++ le32 40 ++ le32 1 ++ le32 16 ++ le32 2 ++ le32 0 ++ le32 32 ++ le32 8 ++ le32 1 ++ le32 0

pub cart_passes : profile_refusal_of 1 cart ≡ accepted
unfolding le32 word32 word64 length_of body_at step_of cart_of step_in_rule lacks_convention lacks_epoch lacks_duration written_in_rule body_in_rule refusal1 refusal2 refusal3 refusal4 refusal5 end_before place_broken some_from has_deformation refusal11 rules_of_step five_to_eight elevens first_broken refusal25 twenty_fives profile_rules up_to_eight profile_order profile_refusal_of
cart_passes = refl

pub nobody_knows_profile_2 : profile_refusal_of 2 cart ≡ of_call 25
unfolding le32 word32 word64 length_of body_at step_of cart_of step_in_rule lacks_convention lacks_epoch lacks_duration written_in_rule body_in_rule refusal1 refusal2 refusal3 refusal4 refusal5 end_before place_broken some_from has_deformation refusal11 rules_of_step five_to_eight elevens first_broken refusal25 twenty_fives profile_rules up_to_eight profile_order profile_refusal_of
nobody_knows_profile_2 = refl

-- the blank Helmert record passes; with the exact flag it offends
pub blank_passes : refusal25 (Helmert blank_helmert) ≡ false
unfolding blank_helmert zeros_with refusal25 helmert_offends dynamic_of some_of parameters_of winner_of lengths_of angles_of is_nan of_bits ne mul div
blank_passes = refl

pub exact_offends : refusal25 (Helmert (zeros_with 9)) ≡ true
unfolding zeros_with refusal25 helmert_offends
exact_offends = refl
