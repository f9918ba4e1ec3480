-- The rebuilt sheet as it is put together: how long each part is, a turn of each loop, and the
-- parts one after another. Assumes nothing.
use mathlib.Core.Path.{◌≡◌, sym, ap, ◌∙◌}
use Prim.Native.Nat.{ℕ, zero, suc, ◌+◌, ◌*◌, ◌≤◌, ◌<◌}
use mathlib.Core.List.{List, [], ◌∷◌, ◌++◌}
use native.Mathlib.Omega.{arith}
use native.Mathlib.Nat.{zero-add}
use native.Mathlib.Numerals.{add-one}
use lib.ListN.{length, take, drop, get_or, set, length-append, length-drop}
use lib.Seq.{take-suc, take_at, drop_at, sets-eq, length-take-le}
use Rattle.words.specs.Words.{put}
use Rattle.words.proofs.Laws.{length-le32, put-put}
use Rattle.rescue.specs.Rebuilt.{count_word, head_length, header_bytes, entry_bytes, directory_bytes, rebuilt_of}

-- ---- lengths

module _ (s : List ℕ) where
  pub header-length : length (header_bytes s) ≡ 16
  unfolding header_bytes
  header-length = simp (length-append, length-le32)

  pub entry_length : (i : ℕ) → length (entry_bytes s i) ≡ 16
  unfolding entry_bytes
  entry_length i = simp (length-append, length-le32)

  pub directory-length : (n : ℕ) → length (directory_bytes s n) ≡ 16 * n
  unfolding directory_bytes
  directory-length zero = omega arith
  directory-length (suc n) = simp (length-append, entry_length) (omega (arith, directory-length n))

  pub head-length : length (header_bytes s ++ directory_bytes s (count_word s)) ≡ head_length s
  head-length = simp (length-append, header-length, directory-length)

  -- the rebuilt sheet is as long as the damaged one
  pub rebuilt-length : head_length s ≤ length s → length (rebuilt_of s) ≡ length s
  unfolding rebuilt_of
  rebuilt-length h = simp (length-append, header-length, directory-length, length-drop) (omega arith)

  -- and past header and directory it is the same bytes
  pub bodies_kept : drop (head_length s) (rebuilt_of s) ≡ drop (head_length s) s
  unfolding rebuilt_of
  bodies_kept = drop_at (header_bytes s ++ directory_bytes s (count_word s)) (drop (head_length s) s) (head_length s) head-length

  -- ---- a turn of the directory's loop

  pub directory-next : (l : List ℕ) (i : ℕ) → 16 + 16 * i ≤ length l
      → put (put l 16 (directory_bytes s i)) (16 + 16 * i) (entry_bytes s i) ≡ put l 16 (directory_bytes s (i + 1))
  unfolding directory_bytes
  directory-next l i h = rw add-one (put-put l (directory_bytes s i) (entry_bytes s i) 16 (16 * i) (directory-length i) h)

  -- ---- header, directory and bodies, one after the other, are the rebuilt sheet

  pub three-puts : (l : List ℕ) → head_length s ≤ length l
      → put (put (put l 0 (header_bytes s)) 16 (directory_bytes s (count_word s))) (head_length s) (drop (head_length s) s) ≡ put l 0 (rebuilt_of s)
  unfolding rebuilt_of
  three-puts l h =
      let from : 0 + head_length s ≡ head_length s = omega arith in
      let first : put (put l 0 (header_bytes s)) 16 (directory_bytes s (count_word s)) ≡ put l 0 (header_bytes s ++ directory_bytes s (count_word s)) =
      put-put l (header_bytes s) (directory_bytes s (count_word s)) 0 16 header-length (omega arith) in
      rw first
      (rw from at
      (put-put l (header_bytes s ++ directory_bytes s (count_word s)) (drop (head_length s) s) 0 (head_length s) head-length (omega arith)))

-- ---- bytes copied

-- a byte set is a put
one_put : (l : List ℕ) (at b : ℕ) → at < length l → set l at b ≡ put l at (b ∷ [])
unfolding put
one_put l at b h = sets-eq (b ∷ []) l at (omega arith)

-- a turn of the copying loop
pub copied_next : (l bytes : List ℕ) (at i : ℕ) → i < length bytes → at + length bytes ≤ length l → (m : List ℕ) → m ≡ put l at (take i bytes)
    → length m ≡ length l → set m (at + i) (get_or bytes i 0) ≡ put l at (take (i + 1) bytes)
copied_next l bytes at i h room m e same =
    let far : length (take i bytes) ≡ i = length-take-le i bytes (omega arith) in
    one_put m (at + i) (get_or bytes i 0) (omega arith)
    ∙ ap (λ (k : List ℕ). put k (at + i) (get_or bytes i 0 ∷ [])) e
    ∙ put-put l (take i bytes) (get_or bytes i 0 ∷ []) at i far (omega arith)
    ∙ ap (put l at) (sym (take-suc bytes i 0 h) ∙ ap (λ (k : ℕ). take k bytes) (sym (add-one i)))

-- what was put at the start stands there
pub put_stands : (l bs : List ℕ) (n : ℕ) → length bs ≡ n → take n (put l 0 bs) ≡ bs
unfolding put
put_stands l bs n e = take_at bs (drop (0 + length bs) l) n e

-- and what lies behind it is not touched
pub behind : (l bs : List ℕ) (n : ℕ) → length bs ≡ n → drop n (put l 0 bs) ≡ drop n l
unfolding put
behind l bs n e = drop_at bs (drop (0 + length bs) l) n e ∙ ap (λ (k : ℕ). drop k l) (zero-add (length bs) ∙ e)

-- three words set one after another are one put
pub three-set : (l : List ℕ) (at a b c : ℕ) → at + 3 ≤ length l → set (set (set l at a) (at + 1) b) (at + 2) c ≡ put l at (a ∷ b ∷ c ∷ [])
unfolding put
three-set l at a b c h =
    let e1 : at + 1 ≡ suc at = omega arith in
    let e2 : at + 2 ≡ suc (suc at) = omega arith in
    rw (e1, e2) (sets-eq (a ∷ b ∷ c ∷ []) l at h)
