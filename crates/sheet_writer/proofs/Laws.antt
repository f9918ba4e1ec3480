-- What is true of sheets as they are written, for callers to cite: a refusal is given exactly when
-- its rule is broken and none before it; what is read and written again is the same bytes; what is
-- written and read is the same record; a sheet is read in one way only. Assumes nothing.
use mathlib.Core.Path.{◌≡◌, sym, ap, ◌∙◌}
use mathlib.Core.Logic.{◌↔◌}
use Prim.Native.Nat.{ℕ, ◌<◌, ◌≤◌}
use mathlib.Core.List.{List}
use mathlib.Core.Bool.{true, false, not}
use native.Mathlib.Omega.{arith}
use native.Mathlib.Nat.{zero-add}
use borrow.Author.Tests.{ne_eqb, le-ltb}
use lib.ListN.{length, take}
use lib.Seq.{take_at}
use Rattle.words.specs.Words.{Bytes, put}
use Rattle.bodies.specs.Rules.{step_in_rule}
use Rattle.bodies.proofs.Laws.{step_of_body_in_rule}
use Rattle.sheet.specs.declared.Refusal.{Refusal}
use Rattle.sheet.specs.declared.Sheet.{Sheet}
use Rattle.sheet.specs.Layout.{step_count_of, kind_at, body_at, record_of, entry_of, step_in, kind_in}
use Rattle.sheet_writer.specs.Bytes.{sheet_length, sheet_bytes_of}
use Rattle.sheet.specs.Rules.{accepted, refusal_of, refusal3, refusal6, refusal7, refusal8, refusal11, five_to_eight, elevens}
use Rattle.sheet_writer.specs.Rules.{writer_order, writer_refusal_of, room_after_of, record_refusal4, record_refusal5, refusal15, inverted_broken_in}
use Rattle.sheet.specs.Given.{Unbroken, FirstBroken}
use Rattle.sheet.proofs.Order.{none_broken, kept_append}
use Rattle.sheet.proofs.Each.{StepKept, every-step, every-eleven, every-kept, eleven-same}
use Rattle.sheet.proofs.Accepted.{Accepted, accepted-keeps, keeps-accepted, body_kept}
use Rattle.sheet_writer.specs.SameSheet.{HeldSheet, SameSheet}
use Rattle.sheet_writer.proofs.Forth.{taken, count-back, accepted-back, entry-back}
use Rattle.sheet_writer.proofs.Writing.{sheet-bytes-length}
use Rattle.sheet.proofs.Back.{record_count, count_same, entry_same, step_same, inverted-same, kind-same}
use Rattle.sheet_writer.proofs.SameBytes.{sheet-length-same, bytes_same}
use Rattle.sheet.proofs.Laws.{first_broken_exactly_when}

-- ---- given exactly when

-- the writer gives a refusal exactly when its rule is broken and no rule before it is
pub writer_gives_exactly_when : (sheet : Sheet) (room : ℕ) (r : Refusal) → (r.number ≡ 0 → ⊥)
    → (writer_refusal_of sheet room ≡ r) ↔ FirstBroken (writer_order sheet room) r
unfolding writer_refusal_of
writer_gives_exactly_when sheet room r h = first_broken_exactly_when (writer_order sheet room) r h

-- ---- read, then written

module _ (s : List ℕ) (bytes : Bytes s) (e : refusal_of s ≡ accepted) where
  ok : Accepted s
  ok = accepted-keeps s (ap (λ (x : Refusal). x.number) e)

  count : (record_of s).count ≡ step_count_of s
  count = count_same s bytes ok

  takes-three : refusal3 (record_of s).count ≡ false
  unfolding refusal3
  takes-three =
      let some : step_count_of s ≡ 0 → ⊥ = λ z. omega (arith, ok.some-step, z) in
      ap refusal3 count ∙ rw (ne_eqb (step_count_of s) 0 some, le-ltb 16 (step_count_of s) ok.few-steps)

  takes-four : record_refusal4 (record_of s) ≡ false
  unfolding record_refusal4
  takes-four =
      every-kept (inverted_broken_in (record_of s)) (record_of s).count 0
      (λ i h. let l : i < step_count_of s = omega (arith, count) in
      rw zero-add (le-ltb 1 (entry_of (record_of s) i).inverted (omega (arith, inverted-same s bytes ok i l, (ok.places i l).turned))))

  takes_step : (i : ℕ) → i < step_count_of s → StepKept (record_refusal5 (record_of s) i) (step_in (record_of s) i)
  unfolding record_refusal5
  takes_step i h =
      let same = step_same s bytes ok i h in
      let rule = ok.steps i h in
      let five : step_in_rule (step_in (record_of s) i) ≡ true =
      ap step_in_rule same ∙ step_of_body_in_rule (kind_at s i) (body_at s i) (body_kept s i rule.kept5) in
      record {
        kept5 = ap not five;
        kept6 = ap refusal6 same ∙ rule.kept6;
        kept7 = ap refusal7 same ∙ rule.kept7;
        kept8 = ap refusal8 same ∙ rule.kept8;
      }

  takes-eleven : (i : ℕ) → i < step_count_of s → refusal11 (kind_in (record_of s)) i ≡ false
  takes-eleven i h =
      eleven-same (kind_in (record_of s)) (kind_at s) (step_count_of s) (kind-same s bytes ok) i h ∙ ok.one-deformation i h

  takes-room : (room : ℕ) → length s ≤ room → refusal15 (record_of s) room ≡ false
  unfolding refusal15
  takes-room room h = le-ltb room (sheet_length (record_of s)) (omega (arith, sheet-length-same s bytes ok))

  -- the writer takes the record that was read, into any room that is long enough
  pub writer-takes-what-was-read : (room : ℕ) → length s ≤ room → writer_refusal_of (record_of s) room ≡ accepted
  unfolding writer_refusal_of writer_order
  writer-takes-what-was-read room h =
      let r = record_of s in
      let steps : Unbroken (five_to_eight (record_refusal5 r) (step_in r) r.count 0) =
      every-step (record_refusal5 r) (step_in r) r.count 0 (λ i l. rw zero-add (takes_step i (omega (arith, count)))) in
      let second : Unbroken (elevens (kind_in r) r.count 0) =
      every-eleven (kind_in r) r.count 0 (λ i l. rw zero-add (takes-eleven i (omega (arith, count)))) in
      none_broken (writer_order r room)
      (Unbroken.next takes-three (Unbroken.next takes-four (kept_append steps (kept_append second (Unbroken.next (takes-room room h) Unbroken.none)))))

  -- and gives the same bytes
  pub read-then-written : (room : List ℕ) → length s ≤ length room → room_after_of (record_of s) room ≡ put room 0 s
  unfolding room_after_of
  read-then-written room h =
      rw (writer-takes-what-was-read (length room) h) (ap (put room 0) (bytes_same s bytes ok))

-- ---- written, then read

-- a record that the writer takes is read back: every field of every step, -0 and "not given" among
-- them
pub written_then_read : (sheet : Sheet) (room : ℕ) → HeldSheet sheet → writer_refusal_of sheet room ≡ accepted
    → (refusal_of (sheet_bytes_of sheet) ≡ accepted) × SameSheet (record_of (sheet_bytes_of sheet)) sheet
written_then_read sheet room held e =
    let t = taken sheet room (ap (λ (x : Refusal). x.number) e) in (
      keeps-accepted (sheet_bytes_of sheet) (accepted-back sheet t held),
      record {
        same_count = record_count (sheet_bytes_of sheet) ∙ count-back sheet t held;
        same_entries = λ i h. entry_same (sheet_bytes_of sheet) i (omega (arith, t.few-steps)) ∙ entry-back sheet t held i h;
      },
    )

-- the room then starts with those bytes
pub room_starts_with_the_sheet : (sheet : Sheet) (room : List ℕ) → writer_refusal_of sheet (length room) ≡ accepted
    → take (sheet_length sheet) (room_after_of sheet room) ≡ sheet_bytes_of sheet
unfolding room_after_of put
room_starts_with_the_sheet sheet room e = rw e (take_at (sheet_bytes_of sheet) _ (sheet_length sheet) (sheet-bytes-length sheet))

-- ---- read in one way only

-- two sheets that read to the same record are the same bytes
pub read_in_one_way : (s t : List ℕ) → Bytes s → Bytes t → refusal_of s ≡ accepted → refusal_of t ≡ accepted → record_of s ≡ record_of t → s ≡ t
read_in_one_way s t b c e f same =
    sym (bytes_same s b (ok s b e)) ∙ ap sheet_bytes_of same ∙ bytes_same t c (ok t c f)
