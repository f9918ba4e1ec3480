-- A record with one step more: its entries, and that the writer takes a record where it takes a
-- longer one that begins with it. Working definition, which no promise cites: `Begins`. Assumes
-- nothing.
use mathlib.Core.Path.{◌≡◌, refl, sym, ap, ◌∙◌}
use Prim.Native.Nat.{ℕ, zero, suc, ◌+◌, ◌-◌, ◌<◌, ◌≤◌}
use mathlib.Core.Bool.{Bool, true, false}
use native.Mathlib.Omega.{arith}
use native.Mathlib.Nat.{zero-add, add-zero, add-suc}
use borrow.Author.Tests.{lt-ltb, le-ltb, ltb-true, ltb-false, eqb-true, eqb-false, ne_eqb}
use lib.Dec.{eqb, ltb}
use lib.ListN.{set, length-set, get_or-replicate}
use lib.Seq.{ext_get_or, get_or-set_same, get_or-set_other}
use Rattle.bodies.specs.declared.Step.{Step}
use Rattle.bodies.specs.Kinds.{kind_of, length_of}
use Rattle.bodies.specs.Held.{Held}
use Rattle.sheet.specs.declared.Entry.{Entry}
use Rattle.sheet.specs.declared.Sheet.{Sheet}
use Rattle.sheet.specs.Layout.{blank_entry, blank_sheet, entry_of, step_in, kind_in}
use Rattle.sheet_writer.specs.Bytes.{body_start, sheet_length}
use Rattle.sheet.specs.Rules.{accepted, refusal3, five_to_eight, elevens}
use Rattle.sheet_writer.specs.Rules.{record_refusal4, record_refusal5, refusal15, inverted_broken_in, writer_order, writer_refusal_of}
use Rattle.sheet.specs.Given.{Unbroken}
use Rattle.sheet.proofs.Order.{none_broken, kept_append}
use Rattle.sheet.proofs.Each.{every-step, every-eleven, every-kept, eleven-same}
use Rattle.sheet_writer.proofs.Forth.{Taken}
use Rattle.sheet_writer.specs.SameSheet.{HeldSheet, SameSheet}
use Rattle.making.specs.Adding.{entry_as, with_step_of}
use Rattle.making.specs.InTurn.{Tidy}

-- ---- a record as it is read or begun

module _ (a b : Sheet) (s : Tidy a) (t : Tidy b) (e : SameSheet a b) where
  each_same : (i : ℕ) → i < 16 → (within : Bool) → ltb i b.count ≡ within → entry_of a i ≡ entry_of b i
  each_same i h true l = e.same_entries i (ltb-true i b.count l)
  each_same i h false l =
      let past : b.count ≤ i = ltb-false i b.count l in
      s.blank i (omega (arith, e.same_count)) h ∙ sym (t.blank i past h)

  -- two such records that agree up to the step count are one
  pub tidy-same : a ≡ b
  tidy-same =
      let all : a.entries ≡ b.entries =
      ext_get_or _ a.entries b.entries (s.places ∙ sym t.places) (λ i h. each_same i (omega (arith, s.places)) (ltb i b.count) refl) in
      rw (e.same_count, all)

pub blank_is_tidy : Tidy blank_sheet
blank_is_tidy = record { places = refl; blank = λ i l h. get_or-replicate 16 i blank_entry _ h }

pub blank_is_held : HeldSheet blank_sheet
blank_is_held i h = absurd (omega arith)

-- ---- one step more

module _ (sheet : Sheet) (tidy : Tidy sheet) (few : sheet.count < 16) (inverted : ℕ) (step : Step) where
  abbrev more : Sheet
  more = with_step_of sheet inverted step

  more-count : more.count ≡ sheet.count + 1
  unfolding with_step_of
  more-count = refl

  more-entries : more.entries ≡ set sheet.entries sheet.count (entry_as inverted step)
  unfolding with_step_of
  more-entries = rw (lt-ltb sheet.count 16 few)

  pub entry_more : entry_of more sheet.count ≡ entry_as inverted step
  entry_more = rw more-entries (get_or-set_same sheet.entries sheet.count (entry_as inverted step) _ (omega (arith, tidy.places)))

  pub entry-before : (i : ℕ) → (i ≡ sheet.count → ⊥) → entry_of more i ≡ entry_of sheet i
  entry-before i h = rw more-entries (get_or-set_other sheet.entries sheet.count i (entry_as inverted step) _ h)

  pub more-is-tidy : Tidy more
  more-is-tidy =
      record {
        places = rw more-entries (length-set sheet.entries sheet.count (entry_as inverted step) ∙ tidy.places);
        blank = λ i l h. entry-before i (λ e. omega (arith, more-count, e)) ∙ tidy.blank i (omega (arith, more-count)) h;
      }

  held_at : HeldSheet sheet → Held step → (i : ℕ) → i < more.count → (last : Bool) → eqb i sheet.count ≡ last → Held (step_in more i)
  held_at held new i h true e = rw (eqb-true i sheet.count e, ap (λ (x : Entry). x.step) entry_more) new
  held_at held new i h false e =
      let other = eqb-false i sheet.count e in
      rw (ap (λ (x : Entry). x.step) (entry-before i other)) (held i (omega (arith, more-count, other)))

  pub more-is-held : HeldSheet sheet → Held step → HeldSheet more
  more-is-held held new i h = held_at held new i h (eqb i sheet.count) refl

-- ---- a record that a longer one begins with

pub record Begins (a b : Sheet) : Type 0 where
  pub fewer : a.count ≤ b.count
  pub same : (i : ℕ) → i < a.count → entry_of b i ≡ entry_of a i

pub begins_itself : (a : Sheet) → Begins a a
begins_itself a = record { fewer = omega arith; same = λ i h. refl }

pub begins_on : (a b c : Sheet) → Begins a b → Begins b c → Begins a c
begins_on a b c p q =
    record { fewer = omega (arith, p.fewer, q.fewer); same = λ i h. q.same i (omega (arith, p.fewer)) ∙ p.same i h }

pub begins_more : (sheet : Sheet) → Tidy sheet → sheet.count < 16 → (inverted : ℕ) (step : Step) → Begins sheet (with_step_of sheet inverted step)
begins_more sheet tidy few inverted step =
    record {
      fewer = omega (arith, more-count sheet tidy few inverted step);
      same = λ i h. entry-before sheet tidy few inverted step i (λ e. omega (arith, e));
    }

module _ (a b : Sheet) (begin : Begins a b) where
  step_in_lem : (i : ℕ) → i < a.count → step_in b i ≡ step_in a i
  step_in_lem i h = ap (λ (x : Entry). x.step) (begin.same i h)

  kind-in : (i : ℕ) → i < a.count → kind_in b i ≡ kind_in a i
  kind-in i h = ap kind_of (step_in_lem i h)

  -- what the writer asks of the longer record it asks of the shorter
  pub taken-before : 0 < a.count → Taken b → Taken a
  unfolding record_refusal5
  taken-before some t =
      let in_b : (i : ℕ) → i < a.count → i < b.count = λ i h. omega (arith, begin.fewer) in
      record {
        some-step = some;
        few-steps = omega (arith, begin.fewer, t.few-steps);
        turned = λ i h. rw (← begin.same i h) (t.turned i (in_b i h));
        steps = λ i h. rw (← step_in_lem i h) (t.steps i (in_b i h));
        one-deformation = λ i h. sym (eleven-same (kind_in b) (kind_in a) a.count kind-in i h) ∙ t.one-deformation i (in_b i h);
      }

  starts : (i : ℕ) → i ≤ a.count → body_start a i ≤ body_start b i
  unfolding body_start
  starts zero h = omega (arith, begin.fewer)
  starts (suc i) h = omega (arith, starts i (omega arith), ap length_of (kind-in i (omega arith)))

  grows : (i k : ℕ) → body_start b i ≤ body_start b (i + k)
  unfolding body_start
  grows i zero = rw add-zero (omega arith)
  grows i (suc k) = rw add-suc (omega (arith, grows i k))

  pub shorter : sheet_length a ≤ sheet_length b
  shorter =
      let k = b.count - a.count in
      let e : a.count + k ≡ b.count = omega (arith, begin.fewer) in
      omega (arith, starts a.count (omega arith), grows a.count k, ap (body_start b) e)

-- ---- what the writer asks, it takes

module _ (sheet : Sheet) (t : Taken sheet) where
  three : refusal3 sheet.count ≡ false
  unfolding refusal3
  three =
      let some : sheet.count ≡ 0 → ⊥ = λ z. omega (arith, t.some-step, z) in
      rw (ne_eqb sheet.count 0 some, le-ltb 16 sheet.count t.few-steps)

  four : record_refusal4 sheet ≡ false
  unfolding record_refusal4
  four = every-kept (inverted_broken_in sheet) sheet.count 0 (λ i h. rw zero-add (le-ltb 1 (entry_of sheet i).inverted (t.turned i h)))

  pub writer-takes : (room : ℕ) → sheet_length sheet ≤ room → writer_refusal_of sheet room ≡ accepted
  unfolding writer_refusal_of writer_order refusal15
  writer-takes room h =
      let n = sheet.count in
      let steps : Unbroken (five_to_eight (record_refusal5 sheet) (step_in sheet) n 0) =
      every-step (record_refusal5 sheet) (step_in sheet) n 0 (λ i l. rw zero-add (t.steps i l)) in
      let second : Unbroken (elevens (kind_in sheet) n 0) = every-eleven (kind_in sheet) n 0 (λ i l. rw zero-add (t.one-deformation i l)) in
      none_broken (writer_order sheet room)
      (Unbroken.next three (Unbroken.next four (kept_append steps (kept_append second (Unbroken.next (le-ltb room (sheet_length sheet) h) Unbroken.none)))))
