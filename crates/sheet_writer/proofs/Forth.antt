-- A record that the writer accepts is read back, step by step, from the bytes that it is written
-- as. Working definition, which no promise cites: `Taken`. Assumes nothing.
use mathlib.Core.Path.{◌≡◌, sym, ap, ◌∙◌}
use Prim.Native.Nat.{ℕ, zero, suc, ◌+◌, ◌*◌, ◌-◌, ◌^◌, ◌<◌, ◌≤◌}
use mathlib.Core.List.{List, [], ◌++◌, append-nil, append_assoc}
use mathlib.Core.Bool.{true, false, not}
use native.Mathlib.Omega.{arith}
use native.Mathlib.Nat.{zero-add, add-zero, add-suc}
use borrow.Author.Tests.{not-false, ltb-false, lt-ltb}
use lib.ListN.{length, take, drop, length-append}
use lib.Seq.{take_at, drop_at}
use Rattle.words.specs.Words.{word32, le32}
use Rattle.words.proofs.Laws.{word_back, word32_in_part}
use Rattle.bodies.specs.declared.Step.{Step}
use Rattle.bodies.specs.declared.Step.TheVariants.{Cart, Permtide, Deformation, Molodensky, Badekas, Helmert}
use Rattle.bodies.specs.Kinds.{length_of, kind_of}
use Rattle.bodies.specs.Read.{step_of}
use Rattle.body_writer.specs.Write.{bytes_of}
use Rattle.bodies.specs.Rules.{body_in_rule, step_in_rule}
use Rattle.bodies.specs.Held.{Held}
use Rattle.body_writer.proofs.Laws.{bytes-length, read_after_write, in_rule_after_write}
use Rattle.sheet.specs.declared.Entry.{Entry}
use Rattle.sheet.specs.declared.Sheet.{Sheet}
use Rattle.sheet.specs.Layout.{form_of, total_length_of, step_count_of, directory_offset_of, kind_at, inverted_at, offset_at, length_at, directory_end, body_at, step_at, entry_at, entry_of, step_in, kind_in}
use Rattle.sheet_writer.specs.Bytes.{length_in, body_start, sheet_length, header_bytes, place_bytes, directory_bytes, bodies_bytes, sheet_bytes_of}
use Rattle.sheet.specs.Rules.{end_before, refusal5, refusal5_at, refusal6, refusal7, refusal8, refusal11, five_to_eight, elevens}
use Rattle.sheet_writer.specs.Rules.{record_refusal4, record_refusal5, inverted_broken_in, writer_order, writer_refusal_of}
use Rattle.sheet.specs.Given.{Unbroken}
use Rattle.sheet.proofs.Order.{all_kept, kept_left, kept_right, count_kept}
use Rattle.sheet_writer.proofs.WriterOrder.{numbered-writer, last}
use Rattle.sheet.proofs.Each.{StepKept, each_step, each-eleven, each-kept, eleven-same}
use Rattle.sheet_writer.proofs.Writing.{length-small, start_small, bodies-length, place-length, directory-length, header-length, sheet-bytes-length}
use Rattle.sheet.proofs.Accepted.{Accepted, PlaceKept}

-- ---- a part in the middle

part : (p x q : List ℕ) (a b : ℕ) → length p ≡ a → length x ≡ b → take b (drop a (p ++ x ++ q)) ≡ x
part p x q a b e f = rw (append_assoc, drop_at p (x ++ q) a e) (take_at x q b f)

-- ---- four words

module _ (a b c d : ℕ) where
  abbrev four : List ℕ
  four = le32 a ++ le32 b ++ le32 c ++ le32 d

  first_back : a < 2 ^ 32 → word32 four 0 ≡ a
  unfolding word32 le32
  first_back h = word_back a h

  second_back : b < 2 ^ 32 → word32 four 4 ≡ b
  unfolding word32 le32
  second_back h = word_back b h

  third_back : c < 2 ^ 32 → word32 four 8 ≡ c
  unfolding word32 le32
  third_back h = word_back c h

  fourth-back : d < 2 ^ 32 → word32 four 12 ≡ d
  unfolding word32 le32
  fourth-back h = word_back d h

-- ---- kinds

kind_small : (st : Step) → kind_of st < 2 ^ 32
unfolding kind_of
kind_small (Helmert h) = omega arith
kind_small (Cart r) = omega arith
kind_small (Molodensky r) = omega arith
kind_small (Permtide r) = omega arith
kind_small (Deformation r) = omega arith
kind_small (Badekas r) = omega arith

kind_has_length : (st : Step) → length_of (kind_of st) ≡ 0 → ⊥
unfolding kind_of length_of
kind_has_length (Helmert h) e = omega arith
kind_has_length (Cart r) e = omega arith
kind_has_length (Molodensky r) e = omega arith
kind_has_length (Permtide r) e = omega arith
kind_has_length (Deformation r) e = omega arith
kind_has_length (Badekas r) e = omega arith

-- ---- what the writer asks of a record

pub record Taken (sheet : Sheet) : Type 0 where
  pub some-step : 0 < sheet.count
  pub few-steps : sheet.count ≤ 16
  pub turned : (i : ℕ) → i < sheet.count → (entry_of sheet i).inverted ≤ 1
  pub steps : (i : ℕ) → i < sheet.count → StepKept (record_refusal5 sheet i) (step_in sheet i)
  pub one-deformation : (i : ℕ) → i < sheet.count → refusal11 (kind_in sheet) i ≡ false

from_kept : (sheet : Sheet) (room : ℕ) → Unbroken (writer_order sheet room) → Taken sheet
unfolding writer_order record_refusal4
from_kept sheet room (Unbroken.next a (Unbroken.next b k)) =
    let n = sheet.count in
    let five = five_to_eight (record_refusal5 sheet) (step_in sheet) n 0 in
    let eleven = elevens (kind_in sheet) n 0 in
    let count = count_kept n a in
    let steps = kept_left five (eleven ++ last sheet room) k in
    let second = kept_left eleven (last sheet room) (kept_right five (eleven ++ last sheet room) k) in
    record {
      some-step = count.0;
      few-steps = count.1;
      turned = λ i h. ltb-false 1 (entry_of sheet i).inverted (rw zero-add at (each-kept (inverted_broken_in sheet) n 0 i b h));
      steps = λ i h. rw zero-add at (each_step (record_refusal5 sheet) (step_in sheet) n 0 i steps h);
      one-deformation = λ i h. rw zero-add at (each-eleven (kind_in sheet) n 0 i second h);
    }

pub taken : (sheet : Sheet) (room : ℕ) → (writer_refusal_of sheet room).number ≡ 0 → Taken sheet
unfolding writer_refusal_of
taken sheet room e = from_kept sheet room (all_kept (writer_order sheet room) (numbered-writer sheet room) e)

-- ---- where the bytes stand

module _ (sheet : Sheet) where
  directory-split : (i k : ℕ) → (q : List ℕ) × (directory_bytes sheet (suc (i + k)) ≡ directory_bytes sheet i ++ place_bytes sheet i ++ q)
  unfolding directory_bytes
  directory-split i zero = ([], simp (add-zero, append-nil))
  directory-split i (suc k) =
      let r = directory-split i k in (
        r.0 ++ place_bytes sheet (suc (i + k)),
        rw add-suc (rw (← append_assoc) (ap (λ (l : List ℕ). l ++ place_bytes sheet (suc (i + k))) r.1)),
      )

  bodies-split : (i k : ℕ) → (q : List ℕ) × (bodies_bytes sheet (suc (i + k)) ≡ bodies_bytes sheet i ++ bytes_of (step_in sheet i) ++ q)
  unfolding bodies_bytes
  bodies-split i zero = ([], simp (add-zero, append-nil))
  bodies-split i (suc k) =
      let r = bodies-split i k in (
        r.0 ++ bytes_of (step_in sheet (suc (i + k))),
        rw add-suc (rw (← append_assoc) (ap (λ (l : List ℕ). l ++ bytes_of (step_in sheet (suc (i + k)))) r.1)),
      )

  header_at : take 16 (drop 0 (sheet_bytes_of sheet)) ≡ header_bytes sheet
  unfolding sheet_bytes_of
  header_at =
      let n = sheet.count in
      rw append_assoc (take_at (header_bytes sheet) (directory_bytes sheet n ++ bodies_bytes sheet n) 16 (header-length sheet))

  place_at : (i : ℕ) → i < sheet.count → take 16 (drop (16 + 16 * i) (sheet_bytes_of sheet)) ≡ place_bytes sheet i
  unfolding sheet_bytes_of
  place_at i h =
      let n = sheet.count in
      let hd = header_bytes sheet in
      let r = directory-split i (n - suc i) in
      let m : n ≡ suc (i + (n - suc i)) = omega arith in
      let e : directory_bytes sheet n ≡ directory_bytes sheet i ++ place_bytes sheet i ++ r.0 = ap (directory_bytes sheet) m ∙ r.1 in
      let p : length (hd ++ directory_bytes sheet i) ≡ 16 + 16 * i = simp (length-append, header-length, directory-length) in
      ap (λ (l : List ℕ). take 16 (drop (16 + 16 * i) (hd ++ l ++ bodies_bytes sheet n))) e
      ∙ simp append_assoc (simp append_assoc at
      (part (hd ++ directory_bytes sheet i) (place_bytes sheet i) (r.0 ++ bodies_bytes sheet n) (16 + 16 * i) 16 p (place-length sheet i)))

  body-at : (i : ℕ) → i < sheet.count → take (length_in sheet i) (drop (body_start sheet i) (sheet_bytes_of sheet)) ≡ bytes_of (step_in sheet i)
  unfolding sheet_bytes_of
  body-at i h =
      let n = sheet.count in
      let front = header_bytes sheet ++ directory_bytes sheet n in
      let r = bodies-split i (n - suc i) in
      let m : n ≡ suc (i + (n - suc i)) = omega arith in
      let e : bodies_bytes sheet n ≡ bodies_bytes sheet i ++ bytes_of (step_in sheet i) ++ r.0 = ap (bodies_bytes sheet) m ∙ r.1 in
      let p : length (front ++ bodies_bytes sheet i) ≡ body_start sheet i =
      simp (length-append, header-length, directory-length) (omega (arith, bodies-length sheet i)) in
      ap (λ (l : List ℕ). take (length_in sheet i) (drop (body_start sheet i) (front ++ l))) e
      ∙ simp append_assoc (simp append_assoc at
      (part (front ++ bodies_bytes sheet i) (bytes_of (step_in sheet i)) r.0 (body_start sheet i) (length_in sheet i) p (bytes-length (step_in sheet i))))

abbrev entry : ℕ → Step → Entry
entry k st = record { inverted = k; step = st }

module _ (sheet : Sheet) (ok : Taken sheet) (held : (i : ℕ) → i < sheet.count → Held (step_in sheet i)) where
  abbrev w : List ℕ
  w = sheet_bytes_of sheet

  small : (i : ℕ) → i ≤ sheet.count → body_start sheet i ≤ 4240
  small i h = omega (arith, start_small sheet i, ok.few-steps)

  header-word : (k : ℕ) → k + 4 ≤ 16 → word32 w k ≡ word32 (header_bytes sheet) k
  header-word k h =
      ap (word32 (sheet_bytes_of sheet)) (sym (zero-add k)) ∙ sym (word32_in_part (sheet_bytes_of sheet) 0 k 16 h)
      ∙ ap (λ (l : List ℕ). word32 l k) (header_at sheet)

  form-back : form_of w ≡ 1
  unfolding header_bytes
  form-back = header-word 0 (omega arith) ∙ first_back 1 (sheet_length sheet) sheet.count 16 (omega arith)

  total-back : total_length_of w ≡ sheet_length sheet
  unfolding header_bytes
  total-back =
      header-word 4 (omega arith) ∙ second_back 1 (sheet_length sheet) sheet.count 16 (omega (arith, small sheet.count (omega arith)))

  pub count-back : step_count_of (sheet_bytes_of sheet) ≡ sheet.count
  unfolding header_bytes
  count-back = header-word 8 (omega arith) ∙ third_back 1 (sheet_length sheet) sheet.count 16 (omega (arith, ok.few-steps))

  directory-back : directory_offset_of w ≡ 16
  unfolding header_bytes
  directory-back = header-word 12 (omega arith) ∙ fourth-back 1 (sheet_length sheet) sheet.count 16 (omega arith)

  place-word : (i k : ℕ) → i < sheet.count → k + 4 ≤ 16 → word32 w (16 + 16 * i + k) ≡ word32 (place_bytes sheet i) k
  place-word i k h g =
      sym (word32_in_part (sheet_bytes_of sheet) (16 + 16 * i) k 16 g) ∙ ap (λ (l : List ℕ). word32 l k) (place_at sheet i h)

  kind-back : (i : ℕ) → i < sheet.count → kind_at w i ≡ kind_in sheet i
  unfolding place_bytes
  kind-back i h =
      ap (word32 w) (sym (add-zero (16 + 16 * i))) ∙ place-word i 0 h (omega arith)
      ∙ first_back (kind_in sheet i) (entry_of sheet i).inverted (body_start sheet i) (length_in sheet i) (kind_small (step_in sheet i))

  inverted-back : (i : ℕ) → i < sheet.count → inverted_at w i ≡ (entry_of sheet i).inverted
  unfolding place_bytes
  inverted-back i h =
      place-word i 4 h (omega arith)
      ∙ second_back (kind_in sheet i) (entry_of sheet i).inverted (body_start sheet i) (length_in sheet i) (omega (arith, ok.turned i h))

  offset-back : (i : ℕ) → i < sheet.count → offset_at w i ≡ body_start sheet i
  unfolding place_bytes
  offset-back i h =
      place-word i 8 h (omega arith)
      ∙ third_back (kind_in sheet i) (entry_of sheet i).inverted (body_start sheet i) (length_in sheet i) (omega (arith, small i (omega arith)))

  length_back : (i : ℕ) → i < sheet.count → length_at w i ≡ length_in sheet i
  unfolding place_bytes
  length_back i h =
      place-word i 12 h (omega arith)
      ∙ fourth-back (kind_in sheet i) (entry_of sheet i).inverted (body_start sheet i) (length_in sheet i) (omega (arith, length-small (kind_in sheet i)))

  body_back : (i : ℕ) → i < sheet.count → body_at w i ≡ bytes_of (step_in sheet i)
  unfolding body_at
  body_back i h =
      ap (λ (k : ℕ). take k (drop (offset_at w i) w)) (length_back i h)
      ∙ ap (λ (k : ℕ). take (length_in sheet i) (drop k w)) (offset-back i h) ∙ body-at sheet i h

  step_back : (i : ℕ) → i < sheet.count → step_at w i ≡ step_in sheet i
  step_back i h =
      ap (λ (k : ℕ). step_of k (body_at w i)) (kind-back i h) ∙ ap (step_of (kind_in sheet i)) (body_back i h)
      ∙ read_after_write (step_in sheet i) (held i h)

  end_back : (i : ℕ) → i ≤ sheet.count → end_before w i ≡ body_start sheet i
  unfolding end_before body_start
  end_back zero h = ap directory_end count-back
  end_back (suc i) h = omega (arith, offset-back i (omega arith), length_back i (omega arith))

  in-rule-back : (i : ℕ) → i < sheet.count → refusal5_at w i ≡ false
  unfolding refusal5 record_refusal5
  in-rule-back i h =
      let st = step_in sheet i in
      let rule : step_in_rule st ≡ true = not-false _ (ok.steps i h).kept5 in
      ap (λ (k : ℕ). not (body_in_rule k (body_at w i))) (kind-back i h) ∙ ap (λ (b : List ℕ). not (body_in_rule (kind_in sheet i) b)) (body_back i h)
      ∙ ap not (in_rule_after_write st (held i h) rule)

  places-back : (i : ℕ) → i < sheet.count → PlaceKept w i
  places-back i h =
      record {
        a-kind = λ e. kind_has_length (step_in sheet i) (sym (ap length_of (kind-back i h)) ∙ e);
        turned = omega (arith, inverted-back i h, ok.turned i h);
        its-length = length_back i h ∙ sym (ap length_of (kind-back i h));
        no_gap = offset-back i h ∙ sym (end_back i (omega arith));
      }

  steps_back : (i : ℕ) → i < sheet.count → StepKept (refusal5_at w i) (step_at w i)
  steps_back i h =
      let same = step_back i h in
      let rule = ok.steps i h in
      record {
        kept5 = in-rule-back i h;
        kept6 = ap refusal6 same ∙ rule.kept6;
        kept7 = ap refusal7 same ∙ rule.kept7;
        kept8 = ap refusal8 same ∙ rule.kept8;
      }

  length-w : length w ≡ sheet_length sheet
  length-w = sheet-bytes-length sheet

  -- the bytes break no rule
  pub accepted-back : Accepted (sheet_bytes_of sheet)
  accepted-back =
      let n = sheet.count in
      let long = bodies-length sheet n in
      let within : (i : ℕ) → i < step_count_of w → i < n = λ i h. omega (arith, count-back) in
      record {
        at_least = omega (arith, length-w, long);
        at_most = omega (arith, length-w, small n (omega arith));
        total = total-back ∙ sym length-w;
        form = form-back;
        some-step = omega (arith, count-back, ok.some-step);
        few-steps = omega (arith, count-back, ok.few-steps);
        directory = directory-back;
        inside = omega (arith, length-w, long, count-back);
        places = λ i h. places-back i (within i h);
        ends = ap (end_before w) count-back ∙ end_back n (omega arith) ∙ sym length-w;
        steps = λ i h. steps_back i (within i h);
        one-deformation = λ i h. eleven-same (kind_at w) (kind_in sheet) n kind-back i (within i h) ∙ ok.one-deformation i (within i h);
      }

  -- and each entry comes back
  pub entry-back : (i : ℕ) → i < sheet.count → entry_at (sheet_bytes_of sheet) i ≡ entry_of sheet i
  unfolding entry_at
  entry-back i h =
      let here : i < step_count_of w = omega (arith, count-back) in
      rw (lt-ltb i (step_count_of w) here)
      (ap (λ (k : ℕ). entry k (step_at w i)) (inverted-back i h) ∙ ap (entry (entry_of sheet i).inverted) (step_back i h))
