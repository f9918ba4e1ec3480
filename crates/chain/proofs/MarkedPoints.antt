-- Document 01's marked points of the chain, and document 02's missing time, evaluated through the
-- whole definition of a call: a sheet's bytes, a list, an outcome. Assumes nothing.
use mathlib.Core.Path.{refl}
use lib.Ieee.{of_bits, to_bits, neg, add, sub, mul, div, lt, le, eq, ne, is_nan, sum, round, size}
use Rattle.floats.specs.Number.{sign_of}
use Rattle.root.specs.Sqrt.{sqrt_of}
use Rattle.trig.specs.Table.{row_of}
use Rattle.trig.specs.Trig.{reduced_of, bend_of, at_most_one, clamp_of, sum_of, sine_of, cosine_of, signed_of, sin_of, cos_of}
use Rattle.arctan.specs.Table.{cells, cell_at, octants, octant_at}
use Rattle.arctan.specs.Arctan.{tail_of, head_of, small_angle_of, cut_angle_of, cell_index_of, small, quotient_angle_of, moderate, scale_of, extreme_angle_of, within_of, octant_index_of, inside_of, along_of, diagonal_of, angle_of, atan2_of}
use Rattle.hypot.specs.Hypot.{infinite, larger, smaller, squares_of, ordinary, guess_of, reciprocal_root_of, root_of, scaled_root_of, rescaled_of, length_of, bounded_of, hypot_of}
use Rattle.ellipsoid.specs.Figure.{ellipsoid_of, named_of, w_of, prime_vertical_of, meridian_of, geocentric_of}
use Rattle.geocart.specs.Geocart.{cartesian_of, pole_of, pole_height_of}
use Rattle.cart.specs.Step.{inverse_figures_of, on_axis_of, cart_inv_of}
use Rattle.permtide.specs.Record.{coefficient_of}
use Rattle.permtide.specs.Step.{tide_of, lift_of}
use Rattle.molodensky.specs.Step.{figure_of, moped_of, figures_at_of, full_offsets_of, offsets_of}
use Rattle.rotation.specs.Matrix.{first_order_of, rows_of, rotation_matrix_of}
use Rattle.helmert.specs.Units.{winner_of, lengths_of, angles_of, parameters_of}
use Rattle.helmert.specs.Rules.{fields_in_rule_of, vectors_finite_of, scales_finite_of, finite3_of, time_of, lacks_convention_of, lacks_epoch_of, rotated_of, dynamic_of, some_of}
use Rattle.helmert.specs.Apply.{offset_of, forward_of}
use Rattle.helmert.specs.Modes.{prepare_of, grown_of, scale_at_of, start_of, next_of, running_of, own_epoch_step_of, step_of, counted_of}
use Rattle.trig.specs.Trig.{out_of_reach}
use Rattle.reach.specs.Met.{matrix_out}
use Rattle.words.specs.Words.{word32, word64, number_at, one_nan_at, le32}
use Rattle.bodies.specs.Kinds.{length_of as body_length_of}
use Rattle.bodies.specs.Read.{step_of as read_of, vec3_at, helmert_of as helmert_record_of, cart_of as cart_record_of, molodensky_of as molodensky_record_of, permtide_of as permtide_record_of}
use Rattle.bodies.specs.Rules.{step_in_rule, lacks_convention, lacks_epoch, lacks_duration, written_in_rule, body_in_rule}
use Rattle.sheet.specs.Layout.{body_at, entry_at}
use Rattle.sheet.specs.Rules.{refusal1, refusal2, refusal3, refusal4, refusal5, end_before, place_broken, some_from, has_deformation, refusal11, rules_of_step, five_to_eight, elevens, reader_order, first_broken, refusal_of}
use Rattle.chain.specs.Chain.{chain_forward_of, chain_inverse_of, entries_of, step_list_of, tuples_counted_of, tuples_met_of}
use Rattle.chain.specs.Rules.{shift_of, outcome_of, shift_refusal_of, refusal9, refusal10, over_one}
use Rattle.chain.specs.MarkedPoints.{bytes, p1, helmert_sheet, p9, p10, fixes, xs, one, y2001, y2002, shifted_x, only, OfTheChain, MissingTime}

pub marked_points : OfTheChain
unfolding bytes p1 helmert_sheet p9 p10 fixes xs one y2001 y2002 shifted_x only shift_of outcome_of shift_refusal_of refusal9 refusal10 over_one chain_forward_of chain_inverse_of entries_of step_list_of tuples_counted_of tuples_met_of out_of_reach matrix_out word32 word64 number_at one_nan_at le32 body_length_of body_at read_of vec3_at helmert_record_of cart_record_of molodensky_record_of permtide_record_of step_in_rule lacks_convention lacks_epoch lacks_duration written_in_rule body_in_rule fields_in_rule_of vectors_finite_of scales_finite_of finite3_of time_of lacks_convention_of lacks_epoch_of refusal1 refusal2 refusal3 refusal4 refusal5 end_before place_broken some_from has_deformation refusal11 rules_of_step five_to_eight elevens reader_order first_broken refusal_of entry_at parameters_of winner_of lengths_of angles_of rotated_of dynamic_of some_of prepare_of start_of step_of running_of next_of own_epoch_step_of counted_of grown_of scale_at_of rotation_matrix_of first_order_of rows_of forward_of offset_of pole_of pole_height_of inverse_figures_of on_axis_of cart_inv_of coefficient_of tide_of lift_of figure_of moped_of figures_at_of full_offsets_of offsets_of cartesian_of named_of ellipsoid_of prime_vertical_of meridian_of w_of geocentric_of sqrt_of sin_of cos_of signed_of sine_of cosine_of reduced_of row_of bend_of sum_of clamp_of at_most_one atan2_of angle_of inside_of octant_index_of within_of extreme_angle_of moderate scale_of quotient_angle_of small small_angle_of head_of cell_index_of cell_at cells octant_at octants cut_angle_of tail_of along_of diagonal_of hypot_of length_of bounded_of infinite larger smaller squares_of ordinary guess_of reciprocal_root_of root_of scaled_root_of rescaled_of sign_of is_nan of_bits to_bits neg add sub mul div lt le eq ne sum round size
marked_points = (refl, refl, refl, refl, refl, refl, refl, refl, refl, refl, refl)

pub missing_time : MissingTime
unfolding bytes helmert_sheet fixes one y2001 only shift_of outcome_of shift_refusal_of refusal9 refusal10 over_one chain_forward_of entries_of step_list_of tuples_counted_of tuples_met_of out_of_reach matrix_out word32 word64 number_at one_nan_at le32 body_length_of body_at read_of vec3_at helmert_record_of step_in_rule lacks_convention lacks_epoch lacks_duration written_in_rule body_in_rule fields_in_rule_of vectors_finite_of scales_finite_of finite3_of time_of lacks_convention_of lacks_epoch_of refusal1 refusal2 refusal3 refusal4 refusal5 end_before place_broken some_from has_deformation refusal11 rules_of_step five_to_eight elevens reader_order first_broken refusal_of entry_at parameters_of winner_of lengths_of angles_of rotated_of dynamic_of some_of prepare_of start_of step_of own_epoch_step_of counted_of grown_of scale_at_of rotation_matrix_of first_order_of rows_of forward_of offset_of is_nan of_bits to_bits neg add sub mul div lt le eq ne sum round size
missing_time = refl
