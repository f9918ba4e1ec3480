-- What a sheet that rule 19 keeps has, and where its bodies start. Working definition, which no
-- promise cites: `Rebuildable`. Assumes nothing.
use mathlib.Core.Path.{◌≡◌, refl}
use Prim.Native.Nat.{ℕ, zero, suc, ◌+◌, ◌*◌, ◌<◌, ◌≤◌}
use mathlib.Core.Bool.{Bool, true, false, cond}
use mathlib.Core.List.{List}
use native.Mathlib.Omega.{arith}
use native.Mathlib.Nat.{zero-add, add-zero, add-suc}
use native.Mathlib.Numerals.{add-one}
use borrow.Author.Tests.{eqb-true, eqb-false, ltb-false, not-false}
use lib.Dec.{eqb}
use lib.ListN.{length}
use Rattle.bodies.specs.Kinds.{length_of}
use Rattle.sheet.proofs.Order.{neither}
use Rattle.sheet.proofs.Each.{each-kept}
use Rattle.rescue.specs.Rebuilt.{count_word, kind_word, inverted_word, head_length, start_of}
use Rattle.rescue.specs.Rules.{entry_broken, refusal19}

-- ---- kinds

at_most_lem : (b : Bool) (x y m : ℕ) → x ≤ m → y ≤ m → cond b x y ≤ m
at_most_lem true x y m p q = p
at_most_lem false x y m p q = q

-- no body is longer than Helmert's
pub length-small : (kind : ℕ) → length_of kind ≤ 248
unfolding length_of
length-small kind =
    at_most_lem (eqb kind 1) _ _ 248 (omega arith) (at_most_lem (eqb kind 2) _ _ 248 (omega arith) (at_most_lem (eqb kind 3) _ _ 248 (omega arith)
    (at_most_lem (eqb kind 4) _ _ 248 (omega arith) (at_most_lem (eqb kind 5) _ _ 248 (omega arith)
    (at_most_lem (eqb kind 6) _ _ 248 (omega arith) (omega arith))))))

or_less : (b : Bool) (kind k x y m : ℕ) → eqb kind k ≡ b → k ≤ m → ((y ≡ 0 → ⊥) → kind ≤ m) → (cond b x y ≡ 0 → ⊥) → kind ≤ m
or_less true kind k x y m e h rest some = let same = eqb-true kind k e in omega arith
or_less false kind k x y m e h rest some = rest some

-- a kind that has a length is a small number
pub kind_small : (kind : ℕ) → (length_of kind ≡ 0 → ⊥) → kind ≤ 6
unfolding length_of
kind_small kind some =
    or_less (eqb kind 1) kind 1 _ _ 6 refl (omega arith) (or_less (eqb kind 2) kind 2 _ _ 6 refl (omega arith)
    (or_less (eqb kind 3) kind 3 _ _ 6 refl (omega arith) (or_less (eqb kind 4) kind 4 _ _ 6 refl (omega arith)
    (or_less (eqb kind 5) kind 5 _ _ 6 refl (omega arith) (or_less (eqb kind 6) kind 6 _ _ 6 refl (omega arith)
    (λ no. absurd (no refl))))))) some

-- ---- where bodies start

module _ (s : List ℕ) where
  pub start-next : (i : ℕ) → start_of s (i + 1) ≡ start_of s i + length_of (kind_word s i)
  unfolding start_of
  start-next i = rw add-one

  pub start_small : (i : ℕ) → start_of s i ≤ 16 + 16 * count_word s + 248 * i
  unfolding start_of
  start_small zero = omega arith
  start_small (suc i) = omega (arith, start_small i, length-small (kind_word s i))

  start-grows : (i k : ℕ) → start_of s i ≤ start_of s (i + k)
  unfolding start_of
  start-grows i zero = rw add-zero (omega arith)
  start-grows i (suc k) = rw add-suc (omega (arith, start-grows i k))

  -- no body starts before the directory ends
  pub start-past : (i : ℕ) → head_length s ≤ start_of s i
  unfolding start_of
  start-past i = rw zero-add at (start-grows 0 i)

-- ---- 19 kept

-- an entry that the step's place and length follow from
pub record EntryKept (s : List ℕ) (i : ℕ) : Type 0 where
  pub a-kind : length_of (kind_word s i) ≡ 0 → ⊥
  pub turned : inverted_word s i ≤ 1

-- a sheet that can be rebuilt
pub record Rebuildable (s : List ℕ) : Type 0 where
  pub at_least : 16 ≤ length s
  pub some-step : 0 < count_word s
  pub few-steps : count_word s ≤ 16
  pub inside : head_length s ≤ length s
  pub entries : (i : ℕ) → i < count_word s → EntryKept s i
  pub fills : start_of s (count_word s) ≡ length s
  pub at-most-long : length s ≤ 4240

entry_kept : (s : List ℕ) (i : ℕ) → entry_broken s i ≡ false → EntryKept s i
unfolding entry_broken
entry_kept s i e =
    let p = neither _ _ e in
    record { a-kind = eqb-false _ _ p.0; turned = ltb-false _ _ p.1 }

pub can_be_rebuilt : (s : List ℕ) → refusal19 s ≡ false → Rebuildable s
unfolding refusal19
can_be_rebuilt s e =
    let n = count_word s in
    let a = neither _ _ e in
    let b = neither _ _ a.0 in
    let c = neither _ _ b.0 in
    let d = neither _ _ c.0 in
    let count = neither _ _ d.1 in
    let some = eqb-false n 0 count.0 in
    let few : n ≤ 16 = ltb-false 16 n count.1 in
    let fills : start_of s n ≡ length s = eqb-true _ _ (not-false _ a.1) in
    record {
      at_least = ltb-false _ _ d.0;
      some-step = omega (arith, some);
      few-steps = few;
      inside = ltb-false _ _ c.1;
      entries = λ i h. entry_kept s i (rw zero-add at (each-kept (entry_broken s) n 0 i b.1 h));
      fills = fills;
      at-most-long = omega (arith, start_small s n, fills, few);
    }
