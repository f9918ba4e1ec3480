-- A sheet that the reader accepts is rebuilt as it stands. Assumes nothing.
use mathlib.Core.Path.{◌≡◌, refl, sym, ap, ◌∙◌}
use Prim.Native.Nat.{ℕ, zero, suc, ◌+◌, ◌*◌, ◌<◌, ◌≤◌}
use mathlib.Core.Bool.{false}
use mathlib.Core.List.{List, [], ◌++◌}
use native.Mathlib.Omega.{arith}
use native.Mathlib.Nat.{zero-add}
use borrow.Author.Tests.{eq-eqb, ne_eqb, le-ltb}
use lib.ListN.{length, take, drop, take-append-drop}
use lib.Seq.{take-add, drop-drop}
use Rattle.words.specs.Words.{Bytes, word32, le32}
use Rattle.words.proofs.Laws.{le32-word32}
use Rattle.bodies.specs.Kinds.{length_of}
use Rattle.sheet.specs.Layout.{offset_at}
use Rattle.sheet.specs.Rules.{end_before, some_from}
use Rattle.sheet.proofs.Accepted.{Accepted}
use Rattle.sheet.proofs.Each.{every-kept}
use Rattle.rescue.specs.Rebuilt.{count_word, kind_word, inverted_word, head_length, start_of, header_bytes, entry_bytes, directory_bytes, rebuilt_of}
use Rattle.rescue.specs.Changes.{changes_in, changes_of}
use Rattle.rescue.specs.Rules.{entry_broken, refusal19}
use Rattle.rescue.proofs.Listing.{none_changed}

-- four words at a place are its 16 bytes
four_words : (s : List ℕ) (at : ℕ) → Bytes s → at + 16 ≤ length s
    → le32 (word32 s at) ++ le32 (word32 s (at + 4)) ++ le32 (word32 s (at + 8)) ++ le32 (word32 s (at + 12)) ≡ take 16 (drop at s)
four_words s at b h =
    let h0 : at + 4 ≤ length s = omega arith in
    let h1 : at + 4 + 4 ≤ length s = omega arith in
    let h2 : at + 8 + 4 ≤ length s = omega arith in
    let h3 : at + 12 + 4 ≤ length s = omega arith in
    rw (
      le32-word32 s at b h0,
      le32-word32 s (at + 4) b h1,
      le32-word32 s (at + 8) b h2,
      le32-word32 s (at + 12) b h3,
      ← drop-drop 4 at s,
      ← drop-drop 8 at s,
      ← drop-drop 12 at s,
      ← take-add 4 4 (drop at s),
      ← take-add 8 4 (drop at s),
      ← take-add 12 4 (drop at s),
    )

-- between a sheet and itself no word differs
none_differs : (s : List ℕ) (n : ℕ) → changes_in s s n ≡ []
unfolding changes_in
none_differs s zero = refl
none_differs s (suc n) = rw (none_differs s n, none_changed (4 * n) (word32 s (4 * n)) (word32 s (4 * n)) refl)

module _ (s : List ℕ) (ok : Accepted s) where
  -- each body starts where the sheet has it
  start-same : (i : ℕ) → i ≤ count_word s → start_of s i ≡ end_before s i
  unfolding start_of end_before
  start-same zero h = refl
  start-same (suc i) h =
      let l : i < count_word s = omega arith in
      let place = ok.places i l in
      omega (arith, start-same i (omega arith), place.no_gap, place.its-length)

  pub fills_same : start_of s (count_word s) ≡ length s
  fills_same = start-same (count_word s) (omega arith) ∙ ok.ends

  entry-in-rule : (i : ℕ) → i < count_word s → entry_broken s i ≡ false
  unfolding entry_broken
  entry-in-rule i h =
      rw (ne_eqb (length_of (kind_word s i)) 0 (ok.places i h).a-kind, le-ltb 1 (inverted_word s i) (ok.places i h).turned)

  -- it can be rebuilt
  pub whole-kept : refusal19 s ≡ false
  unfolding refusal19
  whole-kept =
      let some : (count_word s ≡ 0) → ⊥ = λ e. omega (arith, ok.some-step, e) in
      let entries : some_from (entry_broken s) (count_word s) 0 ≡ false =
      every-kept (entry_broken s) (count_word s) 0 (λ i l. rw zero-add (entry-in-rule i l)) in
      rw (
        le-ltb (length s) 16 ok.at_least,
        ne_eqb (count_word s) 0 some,
        le-ltb 16 (count_word s) ok.few-steps,
        le-ltb (length s) (head_length s) ok.inside,
        entries,
        eq-eqb (start_of s (count_word s)) (length s) fills_same,
      )

  module _ (bytes : Bytes s) where
    header-same : header_bytes s ≡ take 16 s
    unfolding header_bytes
    header-same =
        ap (λ (k : ℕ). le32 k ++ le32 (length s) ++ le32 (count_word s) ++ le32 16) (sym ok.form)
        ∙ ap (λ (k : ℕ). le32 (word32 s 0) ++ le32 k ++ le32 (count_word s) ++ le32 16) (sym ok.total)
        ∙ ap (λ (k : ℕ). le32 (word32 s 0) ++ le32 (word32 s 4) ++ le32 (count_word s) ++ le32 k) (sym ok.directory)
        ∙ four_words s 0 bytes ok.at_least

    entry_same : (i : ℕ) → i < count_word s → entry_bytes s i ≡ take 16 (drop (16 + 16 * i) s)
    unfolding entry_bytes
    entry_same i h =
        ap (λ (k : ℕ). le32 (kind_word s i) ++ le32 (inverted_word s i) ++ le32 k ++ le32 (length_of (kind_word s i)))
        (start-same i (omega arith) ∙ sym (ok.places i h).no_gap)
        ∙ ap (λ (k : ℕ). le32 (kind_word s i) ++ le32 (inverted_word s i) ++ le32 (offset_at s i) ++ le32 k) (sym (ok.places i h).its-length)
        ∙ four_words s (16 + 16 * i) bytes (omega (arith, ok.inside))

    directory-same : (i : ℕ) → i ≤ count_word s → directory_bytes s i ≡ take (16 * i) (drop 16 s)
    unfolding directory_bytes
    directory-same zero h = refl
    directory-same (suc i) h =
        let l : i < count_word s = omega arith in
        let m : 16 * suc i ≡ 16 * i + 16 = omega arith in
        rw (directory-same i (omega arith), entry_same i l, m, ← drop-drop (16 * i) 16 s) (sym (take-add (16 * i) 16 (drop 16 s)))

    -- and what is rebuilt is the sheet itself
    pub rebuilt-same : rebuilt_of s ≡ s
    unfolding rebuilt_of
    rebuilt-same =
        ap (λ (x : List ℕ). x ++ directory_bytes s (count_word s) ++ drop (head_length s) s) header-same
        ∙ ap (λ (x : List ℕ). take 16 s ++ x ++ drop (head_length s) s) (directory-same (count_word s) (omega arith))
        ∙ ap (λ (x : List ℕ). x ++ drop (head_length s) s) (sym (take-add 16 (16 * count_word s) s))
        ∙ take-append-drop (head_length s) s

    -- so no word is changed
    pub whole-unchanged : changes_of s ≡ []
    unfolding changes_of
    whole-unchanged = ap (λ (r : List ℕ). changes_in s r (4 + 4 * count_word s)) rebuilt-same ∙ none_differs s (4 + 4 * count_word s)
