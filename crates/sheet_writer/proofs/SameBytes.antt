-- A sheet read and written is the same bytes. Assumes nothing.
use mathlib.Core.Path.{◌≡◌, refl, sym, ap, ◌∙◌}
use Prim.Native.Nat.{ℕ, zero, suc, ◌+◌, ◌*◌, ◌<◌, ◌≤◌}
use mathlib.Core.List.{List, ◌++◌}
use native.Mathlib.Omega.{arith}
use lib.ListN.{length, take, drop, length-append}
use lib.Seq.{take-add, take_all, drop-drop}
use Rattle.words.specs.Words.{Bytes, word32, le32}
use Rattle.words.proofs.Laws.{le32-word32}
use Rattle.bodies.specs.Kinds.{length_of}
use Rattle.body_writer.specs.Write.{bytes_of}
use Rattle.body_writer.proofs.Laws.{bytes-length, write_after_read}
use Rattle.sheet.specs.Layout.{form_of, total_length_of, step_count_of, kind_at, inverted_at, offset_at, length_at, directory_end, body_at, record_of, entry_of, step_in}
use Rattle.sheet_writer.specs.Bytes.{length_in, body_start, sheet_length, header_bytes, place_bytes, directory_bytes, bodies_bytes, sheet_bytes_of}
use Rattle.sheet.specs.Rules.{end_before}
use Rattle.sheet_writer.proofs.Writing.{bodies-length}
use Rattle.sheet.proofs.Accepted.{Accepted}
use Rattle.sheet.proofs.Back.{bytes-part, step_same, inverted-same, in_rule, kind-same, count_same}

-- four words at a place are its 16 bytes
four_words : (s : List ℕ) (at : ℕ) → Bytes s → at + 16 ≤ length s
    → le32 (word32 s at) ++ le32 (word32 s (at + 4)) ++ le32 (word32 s (at + 8)) ++ le32 (word32 s (at + 12)) ≡ take 16 (drop at s)
four_words s at b h =
    let h0 : at + 4 ≤ length s = omega arith in
    let h1 : at + 4 + 4 ≤ length s = omega arith in
    let h2 : at + 8 + 4 ≤ length s = omega arith in
    let h3 : at + 12 + 4 ≤ length s = omega arith in
    rw (
      le32-word32 s at b h0,
      le32-word32 s (at + 4) b h1,
      le32-word32 s (at + 8) b h2,
      le32-word32 s (at + 12) b h3,
      ← drop-drop 4 at s,
      ← drop-drop 8 at s,
      ← drop-drop 12 at s,
      ← take-add 4 4 (drop at s),
      ← take-add 8 4 (drop at s),
      ← take-add 12 4 (drop at s),
    )

module _ (s : List ℕ) (bytes : Bytes s) (ok : Accepted s) where
  length-same : (i : ℕ) → i < step_count_of s → length_in (record_of s) i ≡ length_at s i
  length-same i h = ap length_of (kind-same s bytes ok i h) ∙ sym (ok.places i h).its-length

  body_same : (i : ℕ) → i < step_count_of s → bytes_of (step_in (record_of s) i) ≡ body_at s i
  unfolding body_at
  body_same i h =
      ap bytes_of (step_same s bytes ok i h) ∙ write_after_read (kind_at s i) (body_at s i) (bytes-part s (length_at s i) (offset_at s i) bytes) (in_rule s bytes ok i h)

  -- each body starts where the sheet has it
  start-same : (i : ℕ) → i ≤ step_count_of s → body_start (record_of s) i ≡ end_before s i
  unfolding body_start end_before
  start-same zero h = ap directory_end (count_same s bytes ok)
  start-same (suc i) h =
      let l : i < step_count_of s = omega arith in
      omega (arith, start-same i (omega arith), (ok.places i l).no_gap, length-same i l)

  offset-same : (i : ℕ) → i < step_count_of s → body_start (record_of s) i ≡ offset_at s i
  offset-same i h = start-same i (omega arith) ∙ sym (ok.places i h).no_gap

  pub sheet-length-same : sheet_length (record_of s) ≡ length s
  sheet-length-same = ap (body_start (record_of s)) (count_same s bytes ok) ∙ start-same (step_count_of s) (omega arith) ∙ ok.ends

  header-same : header_bytes (record_of s) ≡ take 16 s
  unfolding header_bytes
  header-same =
      ap (λ (k : ℕ). le32 k ++ le32 (sheet_length (record_of s)) ++ le32 (record_of s).count ++ le32 16) (sym ok.form)
      ∙ ap (λ (k : ℕ). le32 (form_of s) ++ le32 k ++ le32 (record_of s).count ++ le32 16) (sheet-length-same ∙ sym ok.total)
      ∙ ap (λ (k : ℕ). le32 (form_of s) ++ le32 (total_length_of s) ++ le32 k ++ le32 16) (count_same s bytes ok)
      ∙ ap (λ (k : ℕ). le32 (form_of s) ++ le32 (total_length_of s) ++ le32 (step_count_of s) ++ le32 k) (sym ok.directory)
      ∙ four_words s 0 bytes ok.at_least

  place_same : (i : ℕ) → i < step_count_of s → place_bytes (record_of s) i ≡ take 16 (drop (16 + 16 * i) s)
  unfolding place_bytes
  place_same i h =
      ap (λ (k : ℕ). le32 k ++ le32 (entry_of (record_of s) i).inverted ++ le32 (body_start (record_of s) i) ++ le32 (length_in (record_of s) i)) (kind-same s bytes ok i h)
      ∙ ap (λ (k : ℕ). le32 (kind_at s i) ++ le32 k ++ le32 (body_start (record_of s) i) ++ le32 (length_in (record_of s) i)) (inverted-same s bytes ok i h)
      ∙ ap (λ (k : ℕ). le32 (kind_at s i) ++ le32 (inverted_at s i) ++ le32 k ++ le32 (length_in (record_of s) i)) (offset-same i h)
      ∙ ap (λ (k : ℕ). le32 (kind_at s i) ++ le32 (inverted_at s i) ++ le32 (offset_at s i) ++ le32 k) (length-same i h)
      ∙ four_words s (16 + 16 * i) bytes (omega (arith, ok.inside))

  directory-same : (i : ℕ) → i ≤ step_count_of s → directory_bytes (record_of s) i ≡ take (16 * i) (drop 16 s)
  unfolding directory_bytes
  directory-same zero h = refl
  directory-same (suc i) h =
      let l : i < step_count_of s = omega arith in
      let m : 16 * suc i ≡ 16 * i + 16 = omega arith in
      rw (directory-same i (omega arith), place_same i l, m, ← drop-drop (16 * i) 16 s) (sym (take-add (16 * i) 16 (drop 16 s)))

  bodies-same : (i : ℕ) → i ≤ step_count_of s
      → bodies_bytes (record_of s) i ≡ take (length (bodies_bytes (record_of s) i)) (drop (directory_end (step_count_of s)) s)
  unfolding bodies_bytes body_at
  bodies-same zero h = refl
  bodies-same (suc i) h =
      let l : i < step_count_of s = omega arith in
      let r = record_of s in
      let base = directory_end (step_count_of s) in
      let m = length (bodies_bytes r i) in
      let from : offset_at s i ≡ base + m = omega (arith, bodies-length r i, offset-same i l, ap directory_end (count_same s bytes ok)) in
      let here : bytes_of (step_in r i) ≡ take (length_at s i) (drop m (drop base s)) =
      body_same i l ∙ ap (λ (k : ℕ). take (length_at s i) (drop k s)) from ∙ ap (take (length_at s i)) (sym (drop-drop m base s)) in
      let long : length (bodies_bytes r i ++ bytes_of (step_in r i)) ≡ m + length_at s i =
      length-append (bodies_bytes r i) (bytes_of (step_in r i)) ∙ ap (λ (k : ℕ). m + k) (bytes-length (step_in r i) ∙ length-same i l) in
      ap (λ (x : List ℕ). x ++ bytes_of (step_in r i)) (bodies-same i (omega arith))
      ∙ ap (λ (x : List ℕ). take m (drop base s) ++ x) here
      ∙ sym (take-add m (length_at s i) (drop base s))
      ∙ ap (λ (k : ℕ). take k (drop base s)) (sym long)

  pub bytes_same : sheet_bytes_of (record_of s) ≡ s
  unfolding sheet_bytes_of
  bytes_same =
      let n = step_count_of s in
      let r = record_of s in
      let m = length (bodies_bytes r n) in
      let all : length s ≤ 16 + 16 * n + m = omega (arith, bodies-length r n, sheet-length-same, ap (body_start r) (count_same s bytes ok), ap directory_end (count_same s bytes ok)) in
      ap (λ (k : ℕ). header_bytes r ++ directory_bytes r k ++ bodies_bytes r k) (count_same s bytes ok)
      ∙ ap (λ (x : List ℕ). x ++ directory_bytes r n ++ bodies_bytes r n) header-same
      ∙ ap (λ (x : List ℕ). take 16 s ++ x ++ bodies_bytes r n) (directory-same n (omega arith))
      ∙ ap (λ (x : List ℕ). x ++ bodies_bytes r n) (sym (take-add 16 (16 * n) s))
      ∙ ap (λ (x : List ℕ). take (16 + 16 * n) s ++ x) (bodies-same n (omega arith))
      ∙ sym (take-add (16 + 16 * n) m s)
      ∙ take_all (16 + 16 * n + m) s all
