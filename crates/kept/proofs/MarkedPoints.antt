-- P6, the marked point of the kept run, evaluated through the definitions of both entries; and that
-- its count is a case of the stretch by the tracks. Assumes nothing.
use Prim.Native.Nat.{ℕ}
use mathlib.Core.Bool.{false}
use native.Mathlib.Omega.{arith}
use mathlib.Core.Path.{◌≡◌, refl, ap, subst}
use lib.Ieee.{of_bits, to_bits, add, sub, mul, div, neg, eq, ne, lt, le, is_nan, sum, round, size}
use Rattle.rotation.specs.Matrix.{first_order_of, rows_of, rotation_matrix_of}
use Rattle.helmert.specs.Units.{winner_of, lengths_of, angles_of, parameters_of}
use Rattle.helmert.specs.Rules.{fields_in_rule_of, vectors_finite_of, scales_finite_of, finite3_of, time_of, lacks_convention_of, lacks_epoch_of, rotated_of, dynamic_of, some_of}
use Rattle.helmert.specs.Apply.{offset_of, forward_of}
use Rattle.helmert.specs.Modes.{prepare_of, grown_of, scale_at_of, start_of, next_of, running_of, step_of}
use Rattle.words.specs.Words.{word32, word64, number_at, one_nan_at, le32}
use Rattle.bodies.specs.Kinds.{length_of}
use Rattle.bodies.specs.Read.{step_of as read_of, vec3_at, helmert_of as helmert_record_of}
use Rattle.bodies.specs.Rules.{step_in_rule, lacks_convention, lacks_epoch, lacks_duration, written_in_rule, body_in_rule}
use Rattle.sheet.specs.Layout.{body_at, entry_at}
use Rattle.sheet.specs.Rules.{refusal1, refusal2, refusal3, refusal4, refusal5, end_before, place_broken, some_from, has_deformation, refusal11, rules_of_step, five_to_eight, elevens, reader_order, first_broken, refusal_of}
use Rattle.lists.specs.Flat.{tuple_at, put_at}
use Rattle.chain.specs.Rules.{refusal9}
use Rattle.chain.specs.MarkedPoints.{bytes, helmert_sheet, fixes, xs, one, y2001, y2002}
use Rattle.stretch.specs.Same.{alike_number_of, alike_of}
use Rattle.kept.specs.Entries.{Corrected}
use Rattle.stretch.specs.Kept.{kept_at, put_fix, Stretch, fresh_of, meets_of, stretch_from, stretch_of, redo_of, before_of, corrected_of}
use Rattle.kept.specs.Entries.{refusal12, refusal13, refusal14, keep_refusal_of, correct_refusal_of, keep_of, correct_of}
use Rattle.kept.specs.MarkedPoints.{p6-sheet, y2000, p6_lists, p6-kept, p6-fix, P6}
use Rattle.kept.proofs.Promises.{count-by-the-tracks}

pub p6 : P6
unfolding p6-sheet p6_lists p6-fix y2000 y2001 y2002 one fixes xs bytes helmert_sheet correct_of keep_of correct_refusal_of keep_refusal_of refusal9 refusal12 refusal13 refusal14 corrected_of redo_of before_of fresh_of stretch_of stretch_from meets_of alike_of alike_number_of tuple_at put_at word32 word64 number_at one_nan_at le32 length_of body_at read_of vec3_at helmert_record_of step_in_rule lacks_convention lacks_epoch lacks_duration written_in_rule body_in_rule fields_in_rule_of vectors_finite_of scales_finite_of finite3_of time_of lacks_convention_of lacks_epoch_of refusal1 refusal2 refusal3 refusal4 refusal5 end_before place_broken some_from has_deformation refusal11 rules_of_step five_to_eight elevens reader_order first_broken refusal_of entry_at prepare_of parameters_of winner_of lengths_of angles_of rotated_of dynamic_of some_of start_of step_of running_of next_of grown_of scale_at_of rotation_matrix_of first_order_of rows_of forward_of offset_of is_nan of_bits to_bits neg add sub mul div lt le eq ne sum round size
p6 = (refl, refl, refl, refl, refl)

p6_passes : (keep_refusal_of p6-sheet p6_lists).number ≡ 0
unfolding p6-sheet p6_lists p6-fix y2000 y2001 y2002 one fixes xs bytes helmert_sheet correct_of keep_of correct_refusal_of keep_refusal_of refusal9 refusal12 refusal13 refusal14 corrected_of redo_of before_of fresh_of stretch_of stretch_from meets_of alike_of alike_number_of tuple_at put_at word32 word64 number_at one_nan_at le32 length_of body_at read_of vec3_at helmert_record_of step_in_rule lacks_convention lacks_epoch lacks_duration written_in_rule body_in_rule fields_in_rule_of vectors_finite_of scales_finite_of finite3_of time_of lacks_convention_of lacks_epoch_of refusal1 refusal2 refusal3 refusal4 refusal5 end_before place_broken some_from has_deformation refusal11 rules_of_step five_to_eight elevens reader_order first_broken refusal_of entry_at prepare_of parameters_of winner_of lengths_of angles_of rotated_of dynamic_of some_of start_of step_of running_of next_of grown_of scale_at_of rotation_matrix_of first_order_of rows_of forward_of offset_of is_nan of_bits to_bits neg add sub mul div lt le eq ne sum round size
p6_passes = refl

-- and it is a case of the stretch by the tracks: of three fixes from index 1 on, two
pub p6_is_the_stretch : Stretch (kept_at (keep_of false p6-sheet (put_fix p6_lists 1 p6-fix)).track) (kept_at p6-kept.track) 1 3 2
unfolding p6_lists fixes
p6_is_the_stretch =
    subst (λ (n : ℕ). Stretch (kept_at (keep_of false p6-sheet (put_fix p6_lists 1 p6-fix)).track) (kept_at p6-kept.track) 1 3 n)
    (ap (λ (a : Corrected). a.redone) p6.0)
    (count-by-the-tracks false p6-sheet p6_lists p6_passes 1 p6-fix (omega arith))
