-- What the reader finds in a rebuilt sheet: each word of header and directory, so that rules 1 to 4
-- are kept and only a step's rules or 11 can be broken. Assumes nothing.
use mathlib.Core.Path.{◌≡◌, sym, ap, ◌∙◌}
use Prim.Native.Nat.{ℕ, zero, suc, ◌+◌, ◌*◌, ◌-◌, ◌^◌, ◌<◌, ◌≤◌}
use mathlib.Core.List.{List, [], ◌++◌, append-nil, append_assoc}
use mathlib.Core.Bool.{false}
use native.Mathlib.Omega.{arith}
use native.Mathlib.Nat.{zero-add, add-zero, add-suc}
use borrow.Author.Tests.{eq-eqb, ne_eqb, le-ltb}
use lib.ListN.{length, take, drop, length-append}
use lib.Seq.{take_at, drop_at}
use Rattle.words.specs.Words.{word32, le32}
use Rattle.words.proofs.Laws.{word_back, word32_in_part}
use Rattle.bodies.specs.Kinds.{length_of}
use Rattle.sheet.specs.Layout.{form_of, total_length_of, step_count_of, directory_offset_of, kind_at, inverted_at, offset_at, length_at, directory_end, step_at}
use Rattle.sheet.specs.Rules.{refusal1, refusal2, refusal3, refusal4, refusal5_at, end_before, place_broken, some_from, five_to_eight, elevens, reader_order, first_broken, refusal_of}
use Rattle.sheet.proofs.Order.{never_given, without_append, without-steps, without_elevens}
use Rattle.sheet.proofs.Each.{every-kept}
use Rattle.rescue.specs.Rebuilt.{count_word, kind_word, inverted_word, head_length, start_of, header_bytes, entry_bytes, directory_bytes, rebuilt_of}
use Rattle.rescue.proofs.Rebuildable.{Rebuildable, length-small, kind_small, start_small}
use Rattle.rescue.proofs.Rebuilding.{header-length, entry_length, directory-length, rebuilt-length}

-- ---- a part in the middle

part : (p x q : List ℕ) (a b : ℕ) → length p ≡ a → length x ≡ b → take b (drop a (p ++ x ++ q)) ≡ x
part p x q a b e f = rw (append_assoc, drop_at p (x ++ q) a e) (take_at x q b f)

-- ---- four words

module _ (a b c d : ℕ) where
  abbrev four : List ℕ
  four = le32 a ++ le32 b ++ le32 c ++ le32 d

  first_back : a < 2 ^ 32 → word32 four 0 ≡ a
  unfolding word32 le32
  first_back h = word_back a h

  second_back : b < 2 ^ 32 → word32 four 4 ≡ b
  unfolding word32 le32
  second_back h = word_back b h

  third_back : c < 2 ^ 32 → word32 four 8 ≡ c
  unfolding word32 le32
  third_back h = word_back c h

  fourth-back : d < 2 ^ 32 → word32 four 12 ≡ d
  unfolding word32 le32
  fourth-back h = word_back d h

-- ---- where header and entries stand

module _ (s : List ℕ) where
  directory-split : (i k : ℕ) → (q : List ℕ) × (directory_bytes s (suc (i + k)) ≡ directory_bytes s i ++ entry_bytes s i ++ q)
  unfolding directory_bytes
  directory-split i zero = ([], simp (add-zero, append-nil))
  directory-split i (suc k) =
      let r = directory-split i k in (
        r.0 ++ entry_bytes s (suc (i + k)),
        rw add-suc (rw (← append_assoc) (ap (λ (l : List ℕ). l ++ entry_bytes s (suc (i + k))) r.1)),
      )

  header_at : take 16 (drop 0 (rebuilt_of s)) ≡ header_bytes s
  unfolding rebuilt_of
  header_at = rw append_assoc (take_at (header_bytes s) (directory_bytes s (count_word s) ++ drop (head_length s) s) 16 (header-length s))

  entry-at : (i : ℕ) → i < count_word s → take 16 (drop (16 + 16 * i) (rebuilt_of s)) ≡ entry_bytes s i
  unfolding rebuilt_of
  entry-at i h =
      let n = count_word s in
      let hd = header_bytes s in
      let rest = drop (head_length s) s in
      let r = directory-split i (n - suc i) in
      let m : n ≡ suc (i + (n - suc i)) = omega arith in
      let e : directory_bytes s n ≡ directory_bytes s i ++ entry_bytes s i ++ r.0 = ap (directory_bytes s) m ∙ r.1 in
      let p : length (hd ++ directory_bytes s i) ≡ 16 + 16 * i = simp (length-append, header-length, directory-length) in
      ap (λ (l : List ℕ). take 16 (drop (16 + 16 * i) (hd ++ l ++ rest))) e
      ∙ simp append_assoc (simp append_assoc at
      (part (hd ++ directory_bytes s i) (entry_bytes s i) (r.0 ++ rest) (16 + 16 * i) 16 p (entry_length s i)))

  header-word : (k w : ℕ) → k + 4 ≤ 16 → word32 (header_bytes s) k ≡ w → word32 (rebuilt_of s) k ≡ w
  header-word k w h e =
      ap (word32 (rebuilt_of s)) (sym (zero-add k)) ∙ sym (word32_in_part (rebuilt_of s) 0 k 16 h) ∙ ap (λ (l : List ℕ). word32 l k) header_at ∙ e

  entry-word : (i k w : ℕ) → i < count_word s → k + 4 ≤ 16 → word32 (entry_bytes s i) k ≡ w → word32 (rebuilt_of s) (16 + 16 * i + k) ≡ w
  entry-word i k w l h e =
      sym (word32_in_part (rebuilt_of s) (16 + 16 * i) k 16 h) ∙ ap (λ (m : List ℕ). word32 m k) (entry-at i l) ∙ e

-- ---- the words

module _ (s : List ℕ) (ok : Rebuildable s) where
  n : ℕ
  n = count_word s

  pub form-rebuilt : form_of (rebuilt_of s) ≡ 1
  unfolding header_bytes
  form-rebuilt = header-word s 0 1 (omega arith) (first_back 1 (length s) (count_word s) 16 (omega arith))

  pub total-rebuilt : total_length_of (rebuilt_of s) ≡ length s
  unfolding header_bytes
  total-rebuilt = header-word s 4 (length s) (omega arith) (second_back 1 (length s) (count_word s) 16 (omega (arith, ok.at-most-long)))

  pub count_kept : step_count_of (rebuilt_of s) ≡ count_word s
  unfolding header_bytes
  count_kept = header-word s 8 (count_word s) (omega arith) (third_back 1 (length s) (count_word s) 16 (omega (arith, ok.few-steps)))

  pub directory-rebuilt : directory_offset_of (rebuilt_of s) ≡ 16
  unfolding header_bytes
  directory-rebuilt = header-word s 12 16 (omega arith) (fourth-back 1 (length s) (count_word s) 16 (omega arith))

  module _ (i : ℕ) (h : i < count_word s) where
    start_fits : start_of s i ≤ 4240
    start_fits = omega (arith, start_small s i, ok.few-steps)

    pub kind-kept : kind_at (rebuilt_of s) i ≡ kind_word s i
    unfolding entry_bytes
    kind-kept =
        let small = kind_small (kind_word s i) (ok.entries i h).a-kind in
        ap (word32 (rebuilt_of s)) (sym (add-zero (16 + 16 * i)))
        ∙ entry-word s i 0 (kind_word s i) h (omega arith) (first_back (kind_word s i) (inverted_word s i) (start_of s i) (length_of (kind_word s i)) (omega arith))

    pub inverted-kept : inverted_at (rebuilt_of s) i ≡ inverted_word s i
    unfolding entry_bytes
    inverted-kept =
        let small = (ok.entries i h).turned in
        entry-word s i 4 (inverted_word s i) h (omega arith) (second_back (kind_word s i) (inverted_word s i) (start_of s i) (length_of (kind_word s i)) (omega arith))

    pub offset-rebuilt : offset_at (rebuilt_of s) i ≡ start_of s i
    unfolding entry_bytes
    offset-rebuilt =
        entry-word s i 8 (start_of s i) h (omega arith) (third_back (kind_word s i) (inverted_word s i) (start_of s i) (length_of (kind_word s i)) (omega (arith, start_fits)))

    pub length-rebuilt : length_at (rebuilt_of s) i ≡ length_of (kind_word s i)
    unfolding entry_bytes
    length-rebuilt =
        let small = length-small (kind_word s i) in
        entry-word s i 12 (length_of (kind_word s i)) h (omega arith) (fourth-back (kind_word s i) (inverted_word s i) (start_of s i) (length_of (kind_word s i)) (omega arith))

  -- ---- rules 1 to 4

  as_long : length (rebuilt_of s) ≡ length s
  as_long = rebuilt-length s ok.inside

  ends : (i : ℕ) → i ≤ count_word s → end_before (rebuilt_of s) i ≡ start_of s i
  unfolding end_before start_of
  ends zero h = ap directory_end count_kept
  ends (suc i) h =
      let l : i < count_word s = omega arith in
      omega (arith, offset-rebuilt i l, length-rebuilt i l)

  place_kept : (i : ℕ) → i < count_word s → place_broken (rebuilt_of s) i ≡ false
  unfolding place_broken
  place_kept i h =
      rw (
        kind-kept i h,
        inverted-kept i h,
        ne_eqb (length_of (kind_word s i)) 0 (ok.entries i h).a-kind,
        le-ltb 1 (inverted_word s i) (ok.entries i h).turned,
        eq-eqb (length_at (rebuilt_of s) i) (length_of (kind_word s i)) (length-rebuilt i h),
        eq-eqb (offset_at (rebuilt_of s) i) (end_before (rebuilt_of s) i) (offset-rebuilt i h ∙ sym (ends i (omega arith))),
      )

  kept_one : refusal1 (rebuilt_of s) ≡ false
  unfolding refusal1
  kept_one =
      rw (
        as_long,
        le-ltb (length s) 16 ok.at_least,
        le-ltb 4240 (length s) ok.at-most-long,
        eq-eqb (total_length_of (rebuilt_of s)) (length s) total-rebuilt,
      )

  kept-two : refusal2 (rebuilt_of s) ≡ false
  unfolding refusal2
  kept-two = rw (eq-eqb (form_of (rebuilt_of s)) 1 form-rebuilt)

  kept-three : refusal3 (step_count_of (rebuilt_of s)) ≡ false
  unfolding refusal3
  kept-three =
      let some : (count_word s ≡ 0) → ⊥ = λ e. omega (arith, ok.some-step, e) in
      rw (count_kept, ne_eqb (count_word s) 0 some, le-ltb 16 (count_word s) ok.few-steps)

  kept-four : refusal4 (rebuilt_of s) ≡ false
  unfolding refusal4
  kept-four =
      let places : some_from (place_broken (rebuilt_of s)) (count_word s) 0 ≡ false =
      every-kept (place_broken (rebuilt_of s)) (count_word s) 0 (λ i l. rw zero-add (place_kept i l)) in
      rw (
        count_kept,
        as_long,
        eq-eqb (directory_offset_of (rebuilt_of s)) 16 directory-rebuilt,
        le-ltb (length s) (head_length s) ok.inside,
        places,
        eq-eqb (end_before (rebuilt_of s) (count_word s)) (total_length_of (rebuilt_of s)) (ends (count_word s) (omega arith) ∙ ok.fills ∙ sym total-rebuilt),
      )

  -- only a step's rules and 11 are left to the reader
  pub reader-left : refusal_of (rebuilt_of s)
      ≡ first_broken (five_to_eight (refusal5_at (rebuilt_of s)) (step_at (rebuilt_of s)) (step_count_of (rebuilt_of s)) 0 ++ elevens (kind_at (rebuilt_of s)) (step_count_of (rebuilt_of s)) 0)
  unfolding refusal_of reader_order first_broken
  reader-left = rw (kept_one, kept-two, kept-three, kept-four)

  -- which are 5 to 8 and 11
  pub reader-leaves : (k : ℕ) → (k ≡ 0 → ⊥) → (4 < k → k < 9 → ⊥) → (k ≡ 11 → ⊥) → (refusal_of (rebuilt_of s)).number ≡ k → ⊥
  reader-leaves k some other not11 e =
      never_given k some _
      (without_append
      (without-steps k other (refusal5_at (rebuilt_of s)) (step_at (rebuilt_of s)) (step_count_of (rebuilt_of s)) 0)
      (without_elevens k not11 (kind_at (rebuilt_of s)) (step_count_of (rebuilt_of s)) 0))
      (rw reader-left at e)
