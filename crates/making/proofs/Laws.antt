-- What is true of sheets made step by step, for callers to cite: an accepted result is a sheet that
-- is accepted; and steps added one after another to nothing give the writer's bytes of the record
-- with those steps, each addition being accepted exactly where the writer takes the record so far.
-- Assumes nothing.
use mathlib.Core.Path.{◌≡◌, refl, sym, ap, ◌∙◌}
use Prim.Native.Nat.{ℕ, ◌+◌, ◌-◌, ◌<◌, ◌≤◌}
use mathlib.Core.Logic.{◌↔◌}
use mathlib.Core.Bool.{Bool, true, false, cond}
use mathlib.Core.List.{List, [], ◌∷◌, ◌++◌}
use native.Mathlib.Omega.{arith}
use native.Mathlib.Nat.{zero-add}
use borrow.Author.Tests.{eq-eqb, ne_eqb, eqb-true, eqb-false, le-ltb}
use lib.Dec.{eqb, ltb}
use lib.ListN.{length, take, drop}
use lib.Seq.{drop_at, drop-drop}
use Rattle.words.specs.Words.{Bytes, word32, put}
use Rattle.words.proofs.Laws.{word32_in_part, length-put}
use Rattle.bodies.specs.declared.Step.{Step}
use Rattle.bodies.specs.Held.{Held}
use Rattle.sheet.specs.declared.Entry.{Entry}
use Rattle.sheet.specs.declared.Sheet.{Sheet}
use Rattle.sheet.specs.declared.Refusal.{Refusal}
use Rattle.sheet.specs.Layout.{total_length_of, record_of, blank_sheet}
use Rattle.sheet_writer.specs.Bytes.{sheet_length, sheet_bytes_of}
use Rattle.sheet.specs.Rules.{Reading, accepted, of_call, refusal_of, reading_of}
use Rattle.sheet_writer.specs.Rules.{writer_refusal_of, room_after_of}
use Rattle.sheet.proofs.Accepted.{Accepted, accepted-keeps}
use Rattle.sheet.proofs.Back.{bytes-part}
use Rattle.sheet_writer.proofs.Forth.{taken}
use Rattle.sheet_writer.proofs.Writing.{sheet-bytes-length}
use Rattle.sheet_writer.proofs.WriterOrder.{accepted_record}
use Rattle.sheet_writer.specs.SameSheet.{HeldSheet, SameSheet}
use Rattle.sheet_writer.proofs.Laws.{written_then_read, room_starts_with_the_sheet}
use Rattle.making.specs.Adding.{reading_as, standing_of, with_step_of, AddOutcome, outcome, added_as, written_as, added_of}
use Rattle.making.specs.InTurn.{Sheeted, Tidy, all_added, with_steps, EachHeld}
use Rattle.making.proofs.Longer.{tidy-same, blank_is_tidy, blank_is_held, more-is-tidy, more-is-held, Begins, begins_itself, begins_on, begins_more, taken-before, shorter, writer-takes}
use Rattle.making.proofs.FromBytes.{read_is_held, read_is_tidy}

number_of : {r : Refusal} → r ≡ accepted → r.number ≡ 0
number_of e = ap (λ (x : Refusal). x.number) e

-- ---- a record that the writer took stands in the room

written_is : (sheet : Sheet) (room : List ℕ) → writer_refusal_of sheet (length room) ≡ accepted → room_after_of sheet room ≡ put room 0 (sheet_bytes_of sheet)
unfolding room_after_of
written_is sheet room e = rw e

same_room : (sheet : Sheet) (room : List ℕ) → writer_refusal_of sheet (length room) ≡ accepted → length (room_after_of sheet room) ≡ length room
same_room sheet room e =
    ap length (written_is sheet room e)
    ∙ length-put room 0 (sheet_bytes_of sheet) (omega (arith, (accepted_record sheet (length room) (number_of e)).1, sheet-bytes-length sheet))

module _ (sheet : Sheet) (room : List ℕ) (tidy : Tidy sheet) (held : HeldSheet sheet) (e : writer_refusal_of sheet (length room) ≡ accepted) where
  read_back : (refusal_of (sheet_bytes_of sheet) ≡ accepted) × SameSheet (record_of (sheet_bytes_of sheet)) sheet
  read_back = written_then_read sheet (length room) held e

  ok : Accepted (sheet_bytes_of sheet)
  ok = accepted-keeps (sheet_bytes_of sheet) (number_of read_back.0)

  fits : sheet_length sheet ≤ length room
  fits = (accepted_record sheet (length room) (number_of e)).1

  long : 16 ≤ sheet_length sheet
  long = omega (arith, ok.at_least, sheet-bytes-length sheet)

  total : total_length_of (room_after_of sheet room) ≡ sheet_length sheet
  total =
      sym (word32_in_part (room_after_of sheet room) 0 4 (sheet_length sheet) (omega (arith, long)))
      ∙ ap (λ (l : List ℕ). word32 l 4) (room_starts_with_the_sheet sheet room e) ∙ ok.total ∙ sheet-bytes-length sheet

  answer-is : (len : ℕ) → written_as sheet room len ≡ outcome (added_as accepted (sheet_length sheet)) (room_after_of sheet room)
  unfolding written_as
  answer-is len = rw (e, total)

  stands : standing_of (room_after_of sheet room) (sheet_length sheet) ≡ reading_as accepted sheet
  unfolding standing_of reading_of
  stands =
      rw (
        ne_eqb (sheet_length sheet) 0 (λ z. omega (arith, long, z)),
        le-ltb (length (room_after_of sheet room)) (sheet_length sheet) (omega (arith, same_room sheet room e, fits)),
        room_starts_with_the_sheet sheet room e,
        read_back.0,
      )
      (ap (reading_as accepted) (tidy-same (record_of (sheet_bytes_of sheet)) sheet (read_is_tidy (sheet_bytes_of sheet)) tidy read_back.1))

-- ---- one addition

-- the writer's answer with number 0 is none at all
none_at_all : (sheet : Sheet) (room : ℕ) → (writer_refusal_of sheet room).number ≡ 0 → writer_refusal_of sheet room ≡ accepted
none_at_all sheet room e = writer-takes sheet (taken sheet room e) room (accepted_record sheet room e).1

module _ (room : List ℕ) (len inverted : ℕ) (step : Step) where
  refused-by : (r : Reading) → r ≡ standing_of room len → (none : Bool) → eqb r.refusal.number 0 ≡ none
      → ((added_of room len inverted step).answer.refusal.number ≡ 0 → ⊥)
      → added_of room len inverted step ≡ outcome (added_as (added_of room len inverted step).answer.refusal len) room
  unfolding added_of written_as room_after_of
  refused-by r s false e h = rw (← s, e)
  refused-by r s true e h =
      let sheet = with_step_of r.sheet inverted step in
      let g : (writer_refusal_of sheet (length room)).number ≡ 0 → ⊥ = λ z. h (rw (← s, e) z) in
      rw (← s, e, ne_eqb (writer_refusal_of sheet (length room)).number 0 g)

  -- refused: the room holds what it held, and the length is what it was
  pub refused-leaves-the-room : ((added_of room len inverted step).answer.refusal.number ≡ 0 → ⊥)
      → added_of room len inverted step ≡ outcome (added_as (added_of room len inverted step).answer.refusal len) room
  refused-leaves-the-room h = refused-by (standing_of room len) refl (eqb (standing_of room len).refusal.number 0) refl h

-- ---- an accepted result

-- what stands in a room of bytes is a record as it is read or begun
sound : (room : List ℕ) (len : ℕ) → Bytes room → (none past : Bool)
    → let r = cond none (reading_as accepted blank_sheet) (cond past (reading_as (of_call 1) blank_sheet) (reading_of (take len room))) in
    r.refusal.number ≡ 0 → Tidy r.sheet × HeldSheet r.sheet
unfolding reading_of
sound room len bytes true past e = (blank_is_tidy, blank_is_held)
sound room len bytes false true e = absurd (omega arith)
sound room len bytes false false e =
    let s = take len room in
    rw (eq-eqb (refusal_of s).number 0 e) (read_is_tidy s, read_is_held s (bytes-part room len 0 bytes) e)

standing_sound : (room : List ℕ) (len : ℕ) → Bytes room → (standing_of room len).refusal.number ≡ 0
    → Tidy (standing_of room len).sheet × HeldSheet (standing_of room len).sheet
unfolding standing_of
standing_sound room len bytes e = sound room len bytes (eqb len 0) (ltb (length room) len) e

-- a step added to a record as it is read or begun
module _ (room : List ℕ) (inverted : ℕ) (step : Step) (sheet : Sheet) (tidy : Tidy sheet) (held : HeldSheet sheet) (new : Held step)
    (e : writer_refusal_of (with_step_of sheet inverted step) (length room) ≡ accepted) where
  few-before : sheet.count < 16
  unfolding with_step_of
  few-before = omega (arith, (accepted_record (with_step_of sheet inverted step) (length room) (number_of e)).0)

  tidy-after : Tidy (with_step_of sheet inverted step)
  tidy-after = more-is-tidy sheet tidy few-before inverted step

  held_after : HeldSheet (with_step_of sheet inverted step)
  held_after = more-is-held sheet tidy few-before inverted step held new

pub written_is_sheeted : (sheet : Sheet) (room : List ℕ) → Tidy sheet → HeldSheet sheet → writer_refusal_of sheet (length room) ≡ accepted
    → (len : ℕ) → Sheeted (written_as sheet room len)
written_is_sheeted sheet room tidy held e len =
    rw (answer-is sheet room tidy held e len)
    (record {
      within = omega (arith, fits sheet room tidy held e, same_room sheet room e);
      passes = ap refusal_of (room_starts_with_the_sheet sheet room e) ∙ (read_back sheet room tidy held e).0;
    })

-- where what stands there is a sheet, the answer is the writer's
added_is : (room : List ℕ) (len inverted : ℕ) (step : Step) (sheet : Sheet) → (standing_of room len).refusal.number ≡ 0 → (standing_of room len).sheet ≡ sheet
    → added_of room len inverted step ≡ written_as (with_step_of sheet inverted step) room len
unfolding added_of
added_is room len inverted step sheet e f = rw (eq-eqb (standing_of room len).refusal.number 0 e, f)

writer's_number : (sheet : Sheet) (room : List ℕ) (len : ℕ) → (written_as sheet room len).answer.refusal ≡ writer_refusal_of sheet (length room)
unfolding written_as
writer's_number sheet room len = refl

module _ (room : List ℕ) (len inverted : ℕ) (step : Step) (bytes : Bytes room) (new : Held step) where
  sheeted-by : (none : Bool) → eqb (standing_of room len).refusal.number 0 ≡ none
      → (added_of room len inverted step).answer.refusal.number ≡ 0 → Sheeted (added_of room len inverted step)
  unfolding added_of
  sheeted-by false e h = absurd (eqb-false (standing_of room len).refusal.number 0 e (rw e at h))
  sheeted-by true e h =
      let none = eqb-true (standing_of room len).refusal.number 0 e in
      let sheet = (standing_of room len).sheet in
      let more = with_step_of sheet inverted step in
      let good = standing_sound room len bytes none in
      let same = added_is room len inverted step sheet none refl in
      let zero_number : (writer_refusal_of more (length room)).number ≡ 0 =
      ap (λ (r : Refusal). r.number) (sym (writer's_number more room len)) ∙ ap (λ (o : AddOutcome). o.answer.refusal.number) (sym same) ∙ h in
      let takes = none_at_all more (length room) zero_number in
      rw same
      (written_is_sheeted more room (tidy-after room inverted step sheet good.0 good.1 new takes) (held_after room inverted step sheet good.0 good.1 new takes) takes len)

  -- an accepted result passes `check`
  pub accepted-passes-check : (added_of room len inverted step).answer.refusal.number ≡ 0 → Sheeted (added_of room len inverted step)
  accepted-passes-check h = sheeted-by (eqb (standing_of room len).refusal.number 0) refl h

-- ---- steps one after another

count_grows : (es : List Entry) (sheet : Sheet) → sheet.count ≤ (with_steps sheet es).count
unfolding with_steps with_step_of
count_grows [] sheet = omega arith
count_grows (e ∷ es) sheet = omega (arith, count_grows es (with_step_of sheet e.inverted e.step))

begins_all : (es : List Entry) (sheet : Sheet) → Tidy sheet → (with_steps sheet es).count ≤ 16 → Begins sheet (with_steps sheet es)
unfolding with_steps with_step_of
begins_all [] sheet tidy few = begins_itself sheet
begins_all (e ∷ es) sheet tidy few =
    let more = with_step_of sheet e.inverted e.step in
    let room : sheet.count < 16 = omega (arith, count_grows es more) in
    begins_on sheet more (with_steps more es) (begins_more sheet tidy room e.inverted e.step)
    (begins_all es more (more-is-tidy sheet tidy room e.inverted e.step) few)

-- bytes written over fewer bytes
over : (room xs ys : List ℕ) → length xs ≤ length ys → put (put room 0 xs) 0 ys ≡ put room 0 ys
unfolding put
over room xs ys h =
    let m = length xs in
    let k = length ys - m in
    let e : length ys ≡ m + k = omega arith in
    simp zero-add
    (ap (λ (l : List ℕ). ys ++ l)
    (ap (λ (n : ℕ). drop n (xs ++ drop m room)) e ∙ sym (drop-drop k m (xs ++ drop m room)) ∙ ap (drop k) (drop_at xs (drop m room) m refl) ∙ drop-drop k m room
    ∙ ap (λ (n : ℕ). drop n room) (sym e)))

written_over : (a b : Sheet) (room : List ℕ) → writer_refusal_of a (length room) ≡ accepted → writer_refusal_of b (length room) ≡ accepted
    → sheet_length a ≤ sheet_length b → room_after_of b (room_after_of a room) ≡ room_after_of b room
written_over a b room e f h =
    written_is b (room_after_of a room) (ap (writer_refusal_of b) (same_room a room e) ∙ f)
    ∙ ap (λ (l : List ℕ). put l 0 (sheet_bytes_of b)) (written_is a room e)
    ∙ over room (sheet_bytes_of a) (sheet_bytes_of b) (omega (arith, sheet-bytes-length a, sheet-bytes-length b))
    ∙ sym (written_is b room f)

-- the first step is taken where the whole record is
first_taken : (es : List Entry) (sheet : Sheet) (room : ℕ) → Tidy sheet → 0 < sheet.count → writer_refusal_of (with_steps sheet es) room ≡ accepted
    → writer_refusal_of sheet room ≡ accepted
first_taken es sheet room tidy some e =
    let all = with_steps sheet es in
    let r = accepted_record all room (number_of e) in
    let b = begins_all es sheet tidy r.0 in
    writer-takes sheet (taken-before sheet all b some (taken all room (number_of e))) room (omega (arith, shorter sheet all b, r.1))

-- one step of several: what its addition leaves, and where the later ones begin
module _ (e : Entry) (room : List ℕ) (len : ℕ) (sheet : Sheet) (st : standing_of room len ≡ reading_as accepted sheet)
    (tidy : Tidy sheet) (held : HeldSheet sheet) (new : Held e.step) where
  abbrev one : Sheet
  one = with_step_of sheet e.inverted e.step

  written-first : added_of room len e.inverted e.step ≡ written_as one room len
  written-first =
      added_is room len e.inverted e.step sheet (ap (λ (r : Reading). r.refusal.number) st) (ap (λ (r : Reading). r.sheet) st)

  module _ (takes : writer_refusal_of one (length room) ≡ accepted) where
    tidy_one : Tidy one
    tidy_one = tidy-after room e.inverted e.step sheet tidy held new takes

    held_one : HeldSheet one
    held_one = held_after room e.inverted e.step sheet tidy held new takes

    first-is : added_of room len e.inverted e.step ≡ outcome (added_as accepted (sheet_length one)) (room_after_of one room)
    first-is = written-first ∙ answer-is one room tidy_one held_one takes len

    stands_one : standing_of (room_after_of one room) (sheet_length one) ≡ reading_as accepted one
    stands_one = stands one room tidy_one held_one takes

    go_on : (es : List Entry) → all_added room len (e ∷ es) ≡ all_added (room_after_of one room) (sheet_length one) es
    unfolding all_added
    go_on es = rw first-is

one_taken : (e : Entry) (es : List Entry) (room : ℕ) (sheet : Sheet) → Tidy sheet → writer_refusal_of (with_steps sheet (e ∷ es)) room ≡ accepted
    → writer_refusal_of (with_step_of sheet e.inverted e.step) room ≡ accepted
unfolding with_steps with_step_of
one_taken e es room sheet tidy takes =
    let one = with_step_of sheet e.inverted e.step in
    let few : sheet.count < 16 = omega (arith, count_grows es one, (accepted_record (with_steps one es) room (number_of takes)).0) in
    first_taken es one room (more-is-tidy sheet tidy few e.inverted e.step) (omega arith) takes

-- Steps added one after another to a sheet that stands in a room: where the writer takes the record
-- of them all, every addition is accepted, and room and length are those that the writer gives for
-- that record.
pub added_in_turn : (e : Entry) (es : List Entry) (room : List ℕ) (len : ℕ) (sheet : Sheet) → standing_of room len ≡ reading_as accepted sheet
    → Tidy sheet → HeldSheet sheet → EachHeld (e ∷ es) → writer_refusal_of (with_steps sheet (e ∷ es)) (length room) ≡ accepted
    → all_added room len (e ∷ es)
    ≡ outcome (added_as accepted (sheet_length (with_steps sheet (e ∷ es)))) (room_after_of (with_steps sheet (e ∷ es)) room)
unfolding with_steps all_added
added_in_turn e [] room len sheet st tidy held (EachHeld.next new rest) takes = go_on e room len sheet st tidy held new takes []
added_in_turn e (d ∷ es) room len sheet st tidy held (EachHeld.next new rest) takes =
    let one = with_step_of sheet e.inverted e.step in
    let all = with_steps one (d ∷ es) in
    let t = one_taken e (d ∷ es) (length room) sheet tidy takes in
    let tidy1 = tidy_one e room len sheet st tidy held new t in
    let few = (accepted_record all (length room) (number_of takes)).0 in
    go_on e room len sheet st tidy held new t (d ∷ es)
    ∙ added_in_turn d es (room_after_of one room) (sheet_length one) one (stands_one e room len sheet st tidy held new t) tidy1 (held_one e room len sheet st tidy held new t) rest
    (ap (writer_refusal_of all) (same_room one room t) ∙ takes)
    ∙ ap (outcome (added_as accepted (sheet_length all))) (written_over one all room t takes (shorter one all (begins_all (d ∷ es) one tidy1 few)))

first_by : (e : Entry) (es : List Entry) (room : List ℕ) (len : ℕ) (none : Bool) → eqb (added_of room len e.inverted e.step).answer.refusal.number 0 ≡ none
    → (all_added room len (e ∷ es)).answer.refusal.number ≡ 0 → (added_of room len e.inverted e.step).answer.refusal.number ≡ 0
unfolding all_added
first_by e es room len true t h = eqb-true _ 0 t
first_by e es room len false t h = rw t at h

first_accepted : (e : Entry) (es : List Entry) (room : List ℕ) (len : ℕ) (sheet : Sheet) → standing_of room len ≡ reading_as accepted sheet
    → Tidy sheet → HeldSheet sheet → Held e.step → (all_added room len (e ∷ es)).answer.refusal.number ≡ 0
    → writer_refusal_of (with_step_of sheet e.inverted e.step) (length room) ≡ accepted
first_accepted e es room len sheet st tidy held new h =
    let one = with_step_of sheet e.inverted e.step in
    let first = added_of room len e.inverted e.step in
    let z = first_by e es room len (eqb first.answer.refusal.number 0) refl h in
    none_at_all one (length room)
    (ap (λ (r : Refusal). r.number) (sym (writer's_number one room len))
    ∙ ap (λ (o : AddOutcome). o.answer.refusal.number) (sym (written-first e room len sheet st tidy held new)) ∙ z)

-- and where every addition is accepted, the writer takes the record of them all
pub taken_in_turn : (e : Entry) (es : List Entry) (room : List ℕ) (len : ℕ) (sheet : Sheet) → standing_of room len ≡ reading_as accepted sheet
    → Tidy sheet → HeldSheet sheet → EachHeld (e ∷ es) → (all_added room len (e ∷ es)).answer.refusal.number ≡ 0
    → writer_refusal_of (with_steps sheet (e ∷ es)) (length room) ≡ accepted
unfolding with_steps
taken_in_turn e [] room len sheet st tidy held (EachHeld.next new rest) h = first_accepted e [] room len sheet st tidy held new h
taken_in_turn e (d ∷ es) room len sheet st tidy held (EachHeld.next new rest) h =
    let one = with_step_of sheet e.inverted e.step in
    let t = first_accepted e (d ∷ es) room len sheet st tidy held new h in
    let on = go_on e room len sheet st tidy held new t (d ∷ es) in
    sym (ap (writer_refusal_of (with_steps one (d ∷ es))) (same_room one room t))
    ∙ taken_in_turn d es (room_after_of one room) (sheet_length one) one (stands_one e room len sheet st tidy held new t)
    (tidy_one e room len sheet st tidy held new t) (held_one e room len sheet st tidy held new t) rest
    (ap (λ (o : AddOutcome). o.answer.refusal.number) (sym on) ∙ h)

nothing_stands : (room : List ℕ) → standing_of room 0 ≡ reading_as accepted blank_sheet
unfolding standing_of
nothing_stands room = refl

-- Steps added one after another to nothing: where the writer takes the record of those steps, room
-- and length are those that the writer gives for it,
pub made_as_written : (e : Entry) (es : List Entry) (room : List ℕ) → EachHeld (e ∷ es)
    → writer_refusal_of (with_steps blank_sheet (e ∷ es)) (length room) ≡ accepted
    → all_added room 0 (e ∷ es)
    ≡ outcome (added_as accepted (sheet_length (with_steps blank_sheet (e ∷ es)))) (room_after_of (with_steps blank_sheet (e ∷ es)) room)
made_as_written e es room each takes =
    added_in_turn e es room 0 blank_sheet (nothing_stands room) blank_is_tidy blank_is_held each takes

-- and all are accepted exactly where the writer takes it.
pub made_exactly_when_written : (e : Entry) (es : List Entry) (room : List ℕ) → EachHeld (e ∷ es)
    → ((all_added room 0 (e ∷ es)).answer.refusal.number ≡ 0) ↔ (writer_refusal_of (with_steps blank_sheet (e ∷ es)) (length room) ≡ accepted)
made_exactly_when_written e es room each = (
  taken_in_turn e es room 0 blank_sheet (nothing_stands room) blank_is_tidy blank_is_held each,
  λ takes. ap (λ (o : AddOutcome). o.answer.refusal.number) (made_as_written e es room each takes),
)
