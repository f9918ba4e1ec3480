-- Whole jobs, evaluated from their bytes to the bytes of their text. Assumes nothing.
use mathlib.Core.Path.{◌≡◌, refl}
use mathlib.Core.List.{[], ◌∷◌, ◌++◌}
use lib.ListN.{take, drop, replicate}
use lib.Ieee.{of_bits, to_bits, neg, add, sub, mul, div, lt, le, eq, ne, is_nan, sum, round, size}
use Rattle.floats.specs.Number.{sign_of}
use Rattle.root.specs.Sqrt.{sqrt_of}
use Rattle.trig.specs.Table.{row_of}
use Rattle.trig.specs.Trig.{reduced_of, bend_of, at_most_one, clamp_of, sum_of, sine_of, cosine_of, signed_of, sin_of, cos_of}
use Rattle.ellipsoid.specs.Figure.{ellipsoid_of, named_of, w_of, prime_vertical_of}
use Rattle.geocart.specs.Geocart.{cartesian_of}
use Rattle.trig.specs.Trig.{out_of_reach}
use Rattle.tally.specs.Tallies.{each_of}
use Rattle.words.specs.Words.{word32, word64, number_at, one_nan_at, le32}
use Rattle.bodies.specs.Kinds.{length_of as body_length_of}
use Rattle.bodies.specs.Read.{step_of as read_of, cart_of as cart_record_of}
use Rattle.bodies.specs.Rules.{step_in_rule, lacks_convention, lacks_epoch, lacks_duration, written_in_rule, body_in_rule}
use Rattle.sheet.specs.Layout.{body_at, entry_at}
use Rattle.sheet.specs.Rules.{refusal1, refusal2, refusal3, refusal4, refusal5, end_before, place_broken, some_from, has_deformation, refusal11, rules_of_step, five_to_eight, elevens, reader_order, first_broken, refusal_of}
use Rattle.chain.specs.Chain.{chain_forward_of, entries_of, step_list_of, tuples_counted_of, tuples_met_of}
use Rattle.chain.specs.Rules.{shift_of, outcome_of, shift_refusal_of, refusal9, refusal10, over_one}
use Rattle.chain.specs.MarkedPoints.{bytes, p1}
use Rattle.text.specs.Ascii.{ascii}
use Rattle.text.specs.Digits.{digits_of, places_of, decimal_of, hex_of}
use Rattle.job.specs.Job.{refusal16, numbers_of, sheet_of, tuples_of, velocities_of, marks_of}
use Rattle.report.specs.Report.{line_of, counts_text, word_of, tuple_text, tuples_text, ran_text}
use Rattle.answer.specs.Answer.{told_of, lent_job_text, lent_answer_of, answer_of}
use Rattle.answer.specs.MarkedPoints.{p1_job, P1Printed}

-- P1, complete
pub p1_complete : P1Printed
unfolding bytes p1 p1_job lent_answer_of lent_job_text told_of refusal16 numbers_of sheet_of tuples_of velocities_of marks_of ran_text line_of counts_text tuples_text tuple_text word_of decimal_of places_of digits_of hex_of shift_of outcome_of shift_refusal_of refusal9 refusal10 over_one chain_forward_of entries_of step_list_of tuples_counted_of tuples_met_of each_of out_of_reach word32 word64 number_at one_nan_at le32 body_length_of body_at read_of cart_record_of step_in_rule lacks_convention lacks_epoch lacks_duration written_in_rule body_in_rule refusal1 refusal2 refusal3 refusal4 refusal5 end_before place_broken some_from has_deformation refusal11 rules_of_step five_to_eight elevens reader_order first_broken refusal_of entry_at cartesian_of named_of ellipsoid_of prime_vertical_of w_of sqrt_of sin_of cos_of signed_of sine_of cosine_of reduced_of row_of bend_of sum_of clamp_of at_most_one sign_of is_nan of_bits to_bits neg add sub mul div lt le eq ne sum round size
p1_complete = refl

-- A bad job is 16, whatever stands in it: nothing, P1 without its last byte and with one more, a
-- direction of 2, 4,241 bytes of sheet, 513 tuples, 2 velocities for one tuple.
bad_jobs :
    (answer_of [] ≡ ascii "refused 16 step 0\n")
    × (answer_of (take 87 p1_job) ≡ ascii "refused 16 step 0\n")
    × (answer_of (p1_job ++ (0 ∷ [])) ≡ ascii "refused 16 step 0\n")
    × (answer_of (bytes (2 ∷ []) ++ drop 4 p1_job) ≡ ascii "refused 16 step 0\n")
    × (answer_of (bytes (0 ∷ 4241 ∷ []) ++ drop 8 p1_job) ≡ ascii "refused 16 step 0\n")
    × (answer_of (bytes (0 ∷ 40 ∷ 513 ∷ []) ++ drop 12 p1_job) ≡ ascii "refused 16 step 0\n")
    × (answer_of (bytes (0 ∷ 40 ∷ 1 ∷ 2 ∷ []) ++ drop 16 p1_job) ≡ ascii "refused 16 step 0\n")
unfolding bytes p1 p1_job lent_answer_of refusal16 line_of decimal_of places_of digits_of word32 le32
bad_jobs = (refl, refl, refl, refl, refl, refl, refl)

-- P7: P1's sheet cut by a byte
p7_complete : answer_of (bytes (0 ∷ 39 ∷ 1 ∷ 0 ∷ []) ++ take 39 p1 ++ replicate 32 0) ≡ ascii "refused 1 step 0\n"
unfolding bytes p1 lent_answer_of lent_job_text told_of refusal16 numbers_of sheet_of tuples_of velocities_of marks_of line_of decimal_of places_of digits_of shift_of outcome_of shift_refusal_of word32 word64 number_at le32 refusal1 refusal2 refusal3 refusal4 some_from end_before place_broken reader_order first_broken refusal_of
p7_complete = refl
