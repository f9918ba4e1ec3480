-- The order of a rescue, as `rescue` and `give` go through it. Assumes nothing.
use mathlib.Core.Path.{◌≡◌}
use Prim.Native.Nat.{ℕ, ◌+◌, ◌*◌}
use mathlib.Core.Bool.{true, false}
use mathlib.Core.List.{List}
use borrow.Author.Tests.{eq-eqb, ne_eqb}
use lib.ListN.{length}
use Rattle.words.specs.Words.{put}
use Rattle.sheet.specs.Rules.{of_call, first_broken, refusal_of}
use Rattle.rescue.specs.Rebuilt.{count_word, rebuilt_of}
use Rattle.rescue.specs.Changes.{changes_in, changes_of, list_of}
use Rattle.rescue.specs.Rules.{refusal19, refusal15, rescue_order, rescue_refusal_of, rescued_as, outcome, rescue_of}

-- the changes of a rescue, by what the loops are handed
pub changes_are : (s r : List ℕ) (n : ℕ) → r ≡ rebuilt_of s → n ≡ 4 + 4 * count_word s → changes_in s r n ≡ changes_of s
unfolding changes_of
changes_are s r n e f = rw (e, f)

module _ (s : List ℕ) (m k : ℕ) where
  pub refused-19 : refusal19 s ≡ true → rescue_refusal_of s m k ≡ of_call 19
  unfolding rescue_refusal_of rescue_order first_broken
  refused-19 e = rw e

  pub refused-15 : refusal19 s ≡ false → refusal15 s m k ≡ true → rescue_refusal_of s m k ≡ of_call 15
  unfolding rescue_refusal_of rescue_order first_broken
  refused-15 e f = rw (e, f)

  pub left-to-reader : refusal19 s ≡ false → refusal15 s m k ≡ false → rescue_refusal_of s m k ≡ refusal_of (rebuilt_of s)
  unfolding rescue_refusal_of rescue_order first_broken refusal_of
  left-to-reader e f = rw (e, f)

module _ (s room list : List ℕ) where
  pub gives-19 : refusal19 s ≡ true → rescue_of s room list ≡ outcome (rescued_as (of_call 19) 0) room list
  unfolding rescue_of
  gives-19 e = rw (refused-19 s (length room) (length list) e)

  module _ (kept : refusal19 s ≡ false) where
    pub gives-15 : refusal15 s (length room) (length list) ≡ true → rescue_of s room list ≡ outcome (rescued_as (of_call 15) 0) room list
    unfolding rescue_of
    gives-15 e = rw (refused-15 s (length room) (length list) kept e)

    module _ (fits : refusal15 s (length room) (length list) ≡ false) where
      pub gives-reader : ((refusal_of (rebuilt_of s)).number ≡ 0 → ⊥) → rescue_of s room list ≡ outcome (rescued_as (refusal_of (rebuilt_of s)) 0) room list
      unfolding rescue_of
      gives-reader d = rw (left-to-reader s (length room) (length list) kept fits, ne_eqb (refusal_of (rebuilt_of s)).number 0 d)

      pub gives-sheet : (refusal_of (rebuilt_of s)).number ≡ 0
          → rescue_of s room list
          ≡ outcome (rescued_as (refusal_of (rebuilt_of s)) (length (changes_of s))) (put room 0 (rebuilt_of s)) (put list 0 (list_of (changes_of s)))
      unfolding rescue_of
      gives-sheet d = rw (left-to-reader s (length room) (length list) kept fits, eq-eqb (refusal_of (rebuilt_of s)).number 0 d)
