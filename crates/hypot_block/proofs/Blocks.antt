-- A loop that fills a block with the usual case's lengths and tells whether all are usual: the
-- start, a turn, the end. Assumes nothing.
use Prim.Native.Nat.{ℕ, ◌+◌, ◌<◌, ◌≤◌}
use mathlib.Core.Path.{◌≡◌, refl, sym, ap}
use mathlib.Core.Bool.{Bool, true, false, cond, not, ◌&&◌, true≢false}
use mathlib.Core.List.{List}
use lib.ListN.{set, length}
use lib.Ieee.{Float}
use Rattle.floats.specs.Binary64.{bits}
use Rattle.blocks.specs.Each.{at, Each}
use Rattle.blocks.proofs.Laws.{none_filled, one_more, all_filled, told}
use Rattle.blocks.proofs.All.{asked, none_asked, one_asked, all_asked, each_of_all}
use Rattle.std.specs.Prelude.{Option, Some, None}
use Rattle.std.specs.Option.{is_some, unwrap_or}
use Rattle.hypot.specs.Hypot.{squares_of, ordinary, usual_of, hypot_of}
use Rattle.hypot_block.specs.Block.{usual_at, UsualUpTo}

pub none_usual : {x y l : List Float} → length l ≡ 16 → UsualUpTo 0 x y l true
none_usual b = record { lengths = none_filled b; ordinary = none_asked }

pub one_more_usual : {x y l : List Float} {i : ℕ} {v : Option Float} {u : Bool} → i < 16 → v ≡ usual_at x y i → UsualUpTo i x y l u → UsualUpTo (i + 1) x y (set l i (unwrap_or v (bits 0))) (u && is_some v)
one_more_usual {v = v} {u = u} room value before =
    record {
      lengths = one_more room (ap (λ (w : Option Float). unwrap_or w (bits 0)) value) before.lengths;
      ordinary = one_asked room (asked u (is_some v)) (ap is_some value) before.ordinary;
    }

pub all_told : {x y l : List Float} {i : ℕ} {u : Bool} → 16 ≤ i → UsualUpTo i x y l u → UsualUpTo 16 x y l u
all_told h s = record { lengths = all_filled h s.lengths; ordinary = all_asked h s.ordinary }

-- in the usual case the length is `hypot`'s
usual_is : (x y : Float) → is_some (usual_of x y) ≡ true → unwrap_or (usual_of x y) (bits 0) ≡ hypot_of x y
unfolding usual_of
usual_is x y h = go (ordinary (squares_of x y)) h
  where
    go : (b : Bool) → is_some (cond b (Some (hypot_of x y)) None) ≡ true → unwrap_or (cond b (Some (hypot_of x y)) None) (bits 0) ≡ hypot_of x y
    go true h = refl
    go false h = absurd (true≢false (sym h))

granted : (u : Bool) → not u ≡ false → u ≡ true
granted true h = refl
granted false h = absurd (true≢false h)

-- a block whose usual case is not refused
pub usual_lengths : {x y l : List Float} {u : Bool} → UsualUpTo 16 x y l u → not u ≡ false → Each l (λ (j : ℕ). hypot_of (at x j) (at y j))
usual_lengths {x} {y} {l} {u} s h = told (λ j k. usual_is (at x j) (at y j) (each_of_all s.ordinary (granted u h) j k)) s.lengths
