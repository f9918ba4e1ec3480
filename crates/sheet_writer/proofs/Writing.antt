-- The bytes of a record as the writer's loops meet them: where each part starts, how long it is,
-- and a turn of each loop. Assumes nothing.
use mathlib.Core.Path.{◌≡◌, refl}
use Prim.Native.Nat.{ℕ, zero, suc, ◌+◌, ◌*◌, ◌-◌, ◌≤◌, ◌<◌}
use mathlib.Core.List.{List, ◌++◌}
use mathlib.Core.Bool.{Bool, true, false, cond}
use native.Mathlib.Omega.{arith}
use native.Mathlib.Nat.{add-zero, add-suc}
use native.Mathlib.Numerals.{add-one}
use lib.Dec.{eqb}
use lib.ListN.{length, length-append}
use Rattle.words.specs.Words.{put}
use Rattle.words.proofs.Laws.{length-le32, put-put}
use Rattle.bodies.specs.Kinds.{length_of}
use Rattle.body_writer.specs.Write.{bytes_of}
use Rattle.body_writer.proofs.Laws.{bytes-length}
use Rattle.sheet.specs.declared.Sheet.{Sheet}
use Rattle.sheet.specs.Layout.{step_in, kind_in}
use Rattle.sheet_writer.specs.Bytes.{length_in, body_start, sheet_length, header_bytes, place_bytes, directory_bytes, bodies_bytes, sheet_bytes_of}

at_most_lem : (b : Bool) (x y m : ℕ) → x ≤ m → y ≤ m → cond b x y ≤ m
at_most_lem true x y m p q = p
at_most_lem false x y m p q = q

-- no body is longer than Helmert's
pub length-small : (kind : ℕ) → length_of kind ≤ 248
unfolding length_of
length-small kind =
    at_most_lem (eqb kind 1) _ _ 248 (omega arith) (at_most_lem (eqb kind 2) _ _ 248 (omega arith) (at_most_lem (eqb kind 3) _ _ 248 (omega arith)
    (at_most_lem (eqb kind 4) _ _ 248 (omega arith) (at_most_lem (eqb kind 5) _ _ 248 (omega arith)
    (at_most_lem (eqb kind 6) _ _ 248 (omega arith) (omega arith))))))

module _ (sheet : Sheet) where
  pub start-next : (i : ℕ) → body_start sheet (i + 1) ≡ body_start sheet i + length_in sheet i
  unfolding body_start
  start-next i = rw add-one

  pub start_small : (i : ℕ) → body_start sheet i ≤ 16 + 16 * sheet.count + 248 * i
  unfolding body_start
  start_small zero = omega arith
  start_small (suc i) = omega (arith, start_small i, length-small (kind_in sheet i))

  start-grows : (i k : ℕ) → body_start sheet i ≤ body_start sheet (i + k)
  unfolding body_start
  start-grows i zero = rw add-zero (omega arith)
  start-grows i (suc k) = rw add-suc (omega (arith, start-grows i k))

  -- the body of step i ends within n steps' bodies
  pub ends-within : (i n : ℕ) → i < n → body_start sheet i + length_in sheet i ≤ body_start sheet n
  ends-within i n h =
      let k : n ≡ i + 1 + (n - (i + 1)) = omega arith in
      rw k (rw (← start-next i) (start-grows (i + 1) (n - (i + 1))))

  pub bodies-length : (n : ℕ) → 16 + 16 * sheet.count + length (bodies_bytes sheet n) ≡ body_start sheet n
  unfolding bodies_bytes body_start
  bodies-length zero = omega arith
  bodies-length (suc n) = simp (length-append, bytes-length) (omega (arith, bodies-length n))

  pub place-length : (i : ℕ) → length (place_bytes sheet i) ≡ 16
  unfolding place_bytes
  place-length i = simp (length-append, length-le32)

  pub directory-length : (n : ℕ) → length (directory_bytes sheet n) ≡ 16 * n
  unfolding directory_bytes
  directory-length zero = omega arith
  directory-length (suc n) = simp (length-append, place-length) (omega (arith, directory-length n))

  pub header-length : length (header_bytes sheet) ≡ 16
  unfolding header_bytes
  header-length = simp (length-append, length-le32)

  pub sheet-bytes-length : length (sheet_bytes_of sheet) ≡ sheet_length sheet
  unfolding sheet_bytes_of
  sheet-bytes-length =
      simp (length-append, header-length, directory-length) (omega (arith, bodies-length sheet.count))

  -- ---- a turn of each loop

  pub directory-next : (l : List ℕ) (i : ℕ) → 16 + 16 * i ≤ length l
      → put (put l 16 (directory_bytes sheet i)) (16 + 16 * i) (place_bytes sheet i) ≡ put l 16 (directory_bytes sheet (i + 1))
  unfolding directory_bytes
  directory-next l i h = rw add-one (put-put l (directory_bytes sheet i) (place_bytes sheet i) 16 (16 * i) (directory-length i) h)

  pub bodies-next : (l : List ℕ) (i : ℕ) → body_start sheet i ≤ length l
      → put (put l (16 + 16 * sheet.count) (bodies_bytes sheet i)) (body_start sheet i) (bytes_of (step_in sheet i))
      ≡ put l (16 + 16 * sheet.count) (bodies_bytes sheet (i + 1))
  unfolding bodies_bytes
  bodies-next l i h =
      let e = bodies-length i in
      rw (add-one, ← e)
      (put-put l (bodies_bytes sheet i) (bytes_of (step_in sheet i)) (16 + 16 * sheet.count) (length (bodies_bytes sheet i)) refl (omega arith))

  -- header, directory and bodies, one after the other, are the sheet
  pub three-puts : (l : List ℕ) → sheet_length sheet ≤ length l
      → put (put (put l 0 (header_bytes sheet)) 16 (directory_bytes sheet sheet.count)) (16 + 16 * sheet.count) (bodies_bytes sheet sheet.count)
      ≡ put l 0 (sheet_bytes_of sheet)
  unfolding sheet_bytes_of
  three-puts l h =
      let d = bodies-length sheet.count in
      let from : 0 + (16 + 16 * sheet.count) ≡ 16 + 16 * sheet.count = omega arith in
      let short : length (header_bytes sheet ++ directory_bytes sheet sheet.count) ≡ 16 + 16 * sheet.count =
      simp (length-append, header-length, directory-length) in
      let first : put (put l 0 (header_bytes sheet)) 16 (directory_bytes sheet sheet.count) ≡ put l 0 (header_bytes sheet ++ directory_bytes sheet sheet.count) =
      put-put l (header_bytes sheet) (directory_bytes sheet sheet.count) 0 16 header-length (omega arith) in
      rw first
      (rw from at
      (put-put l (header_bytes sheet ++ directory_bytes sheet sheet.count) (bodies_bytes sheet sheet.count) 0 (16 + 16 * sheet.count) short (omega arith)))
