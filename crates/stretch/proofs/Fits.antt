-- The tests by which a public function asks whether what it is lent fits together: what each tells,
-- and that it holds where that is so. Assumes nothing.
use Prim.Native.Nat.{ℕ, ◌%◌, ◌≤◌, ◌<◌}
use mathlib.Core.Bool.{Bool, true, false, ◌&&◌, true≢false}
use mathlib.Core.Path.{◌≡◌, refl, sym, ◌∙◌}
use mathlib.Core.List.{List}
use lib.Dec.{eqb, ltb, leb}
use lib.ListN.{length}
use lib.Ieee.{Float}
use borrow.Author.Tests.{eqb-true, eq-eqb, leb-true, le-leb, ltb-true}
use Rattle.columns.specs.Columns.{Columns, columns, columns_of, Level, flat_of}
use Rattle.columns.proofs.Laws.{back-x, back-y, back-z, back-t}
use Rattle.stretch.specs.Kept.{as_long_of}
use Rattle.stretch.specs.Rows.{of_rows_of, has_rows}
use Rattle.stretch.specs.KeptColumns.{KeptColumns, LevelColumns, AllLevel, rows_beside_of, all_level_of}
use Rattle.stretch.proofs.Data.{and_true}

-- ---- a contract that says one thing where a test holds and another where it does not

module _ {A B : Type 0} {test : Bool} where
  pub where-true : test ≡ true → A → (test ≡ true → A) × (test ≡ false → B)
  where-true e a = (λ _. a, λ d. absurd (true≢false (sym e ∙ d)))

  pub where-false : test ≡ false → B → (test ≡ true → A) × (test ≡ false → B)
  where-false e b = (λ d. absurd (true≢false (sym d ∙ e)), λ _. b)

-- ---- two flat lists

pub as_long_told : (list other : ℕ) → as_long_of list other ≡ true → (list % 4 ≡ 0) × (other ≡ list)
unfolding as_long_of
as_long_told list other e = let h = and_true (eqb (list % 4) 0) (eqb other list) e in (eqb-true _ _ h.0, eqb-true _ _ h.1)

pub as_long : (list other : ℕ) → list % 4 ≡ 0 → other ≡ list → as_long_of list other ≡ true
unfolding as_long_of
as_long list other h k = rw (eq-eqb _ _ h, eq-eqb _ _ k)

-- ---- columns of n rows

pub of_rows_told : (n : ℕ) (x y z t : List Float) → of_rows_of n (length x) (length y) (length z) (length t) ≡ true → Level x y z t × (length x ≡ n)
unfolding of_rows_of
of_rows_told n x y z t e =
    let h = and_true (eqb (length x) n && eqb (length y) n && eqb (length z) n) (eqb (length t) n) e in
    let k = and_true (eqb (length x) n && eqb (length y) n) (eqb (length z) n) h.0 in
    let l = and_true (eqb (length x) n) (eqb (length y) n) k.0 in
    let ex = eqb-true (length x) n l.0 in
    ((eqb-true _ _ l.1 ∙ sym ex, eqb-true _ _ k.1 ∙ sym ex, eqb-true _ _ h.1 ∙ sym ex), ex)

pub of_rows_test : (n : ℕ) (x y z t : List Float) → Level x y z t → length x ≡ n → of_rows_of n (length x) (length y) (length z) (length t) ≡ true
unfolding of_rows_of
of_rows_test n x y z t h e = rw (h.0, h.1, h.2, eq-eqb _ _ e)

-- ---- columns beside columns

module _ (a b : Columns) (start end : ℕ) where
  pub rows-beside-told : rows_beside_of a b start end ≡ true
      → LevelColumns a × LevelColumns b × (length b.x ≡ length a.x) × (start ≤ end) × (end ≤ length a.x)
  unfolding rows_beside_of
  rows-beside-told e =
      let n = length a.x in
      let h = and_true (has_rows n a && has_rows n b && leb start end) (leb end n) e in
      let k = and_true (has_rows n a && has_rows n b) (leb start end) h.0 in
      let l = and_true (has_rows n a) (has_rows n b) k.0 in
      let la = of_rows_told n a.x a.y a.z a.t l.0 in
      let lb = of_rows_told n b.x b.y b.z b.t l.1 in
      (la.0, lb.0, lb.1, leb-true _ _ k.1, leb-true _ _ h.1)

  pub rows-beside : LevelColumns a → LevelColumns b → length b.x ≡ length a.x → start ≤ end → end ≤ length a.x → rows_beside_of a b start end ≡ true
  unfolding rows_beside_of
  rows-beside la lb e first last =
      let n = length a.x in
      rw (of_rows_test n a.x a.y a.z a.t la refl, of_rows_test n b.x b.y b.z b.t lb e, le-leb _ _ first, le-leb _ _ last)

pub all_level_told : (k : KeptColumns) → all_level_of k ≡ true → AllLevel k
unfolding all_level_of
all_level_told k e =
    let n = length k.list.x in
    let h = and_true (has_rows n k.list && has_rows n k.results) (has_rows n k.track) e in
    let i = and_true (has_rows n k.list) (has_rows n k.results) h.0 in
    let l = of_rows_told n k.list.x k.list.y k.list.z k.list.t i.0 in
    let r = of_rows_told n k.results.x k.results.y k.results.z k.results.t i.1 in
    let t = of_rows_told n k.track.x k.track.y k.track.z k.track.t h.1 in
    (l.0, r.0, t.0, r.1, t.1)

pub all_level_test : (k : KeptColumns) → AllLevel k → all_level_of k ≡ true
unfolding all_level_of
all_level_test k h =
    let n = length k.list.x in
    rw (of_rows_test n k.list.x k.list.y k.list.z k.list.t h.0 refl, of_rows_test n k.results.x k.results.y k.results.z k.results.t h.1 h.3, of_rows_test n k.track.x k.track.y k.track.z k.track.t h.2 h.4)

-- a fix stands at an index of them
pub fix-there : (k : KeptColumns) (index : ℕ) → all_level_of k && ltb index (length k.list.x) ≡ true → AllLevel k × (index < length k.list.x)
fix-there k index e = let h = and_true (all_level_of k) (ltb index (length k.list.x)) e in (all_level_told k h.0, ltb-true _ _ h.1)

-- ---- columns of one length are the columns of the flat list that they stand for

pub columns_of_lem : (x y z t : List Float) {l : List Float} → Level x y z t → flat_of x y z t ≡ l → columns x y z t ≡ columns_of l
columns_of_lem x y z t h e = rw (← e, back-x x y z t h, back-y x y z t h, back-z x y z t h, back-t x y z t h)
