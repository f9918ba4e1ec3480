-- A track written anew from an index on, in columns: the part from there, and what was before it.
-- Working definition, which no promise cites: `later_of`. Assumes nothing.
use Prim.Native.Nat.{ℕ, ◌+◌, ◌-◌, ◌*◌, ◌≤◌}
use native.Mathlib.Omega.{arith}
use mathlib.Core.Bool.{Bool}
use mathlib.Core.Path.{◌≡◌, refl, ap, ◌∙◌}
use mathlib.Core.List.{List, [], ◌++◌, append-nil}
use lib.ListN.{length, take, drop, length-drop, drop_of_length-le}
use lib.Ieee.{Float}
use Rattle.helmert.specs.declared.Shift.{Shift}
use Rattle.helmert.specs.declared.State.{State}
use Rattle.columns.specs.Columns.{Level, flat_of}
use Rattle.columns.proofs.Laws.{flat-length}
use Rattle.stretch.specs.Track.{Retracked, retracked, retrack_of}
use Rattle.stretch.proofs.Track.{rewritten}
use Rattle.stretch.proofs.Parts.{flat-drop, flat-between, part_to_end}

abbrev pub later_of : Shift → State → List Float → List Float → ℕ → Retracked
later_of shift from times track index = retrack_of shift from (drop index times) (drop (4 * index) track)

module _ (shift : Shift) (from : State) (times x y z t : List Float) (h : Level x y z t) (long : length x ≡ length times) (index : ℕ) (k : index ≤ length times)
    {n : ℕ} {met : Bool} {state : State} (px py pz pt : List Float)
    (lx : length px ≡ length (take (length x - index) (drop index x))) (ly : length py ≡ length (take (length y - index) (drop index y)))
    (lz : length pz ≡ length (take (length z - index) (drop index z))) (lt : length pt ≡ length (take (length t - index) (drop index t)))
    (e : retracked n met state (flat_of px py pz pt)
    ≡ retrack_of shift from (take (length times - index) (drop index times))
    (flat_of (take (length x - index) (drop index x)) (take (length y - index) (drop index y)) (take (length z - index) (drop index z)) (take (length t - index) (drop index t)))) where
  told : retracked n met state (flat_of px py pz pt) ≡ later_of shift from times (flat_of x y z t) index
  told =
      e
      ∙ rw (part_to_end times index, part_to_end x index, part_to_end y index, part_to_end z index, part_to_end t index, flat-drop x y z t h index)

  pub from-track : flat_of (take index x ++ (px ++ drop (length x - index) (drop index x))) (take index y ++ (py ++ drop (length y - index) (drop index y)))
      (take index z ++ (pz ++ drop (length z - index) (drop index z))) (take index t ++ (pt ++ drop (length t - index) (drop index t)))
      ≡ take (4 * index) (flat_of x y z t) ++ (later_of shift from times (flat_of x y z t) index).track
  from-track =
      let f = flat-length x y z t h in
      let none : drop (4 * length x) (flat_of x y z t) ≡ [] = drop_of_length-le (flat_of x y z t) {i = 4 * length x} (omega (arith, f)) in
      rw (h.0, h.1, h.2)
      (flat-between x y z t h index (length x) (omega (arith, long)) (omega arith) px py pz pt lx (rw h.0 at ly) (rw h.1 at lz) (rw h.2 at lt) refl
      ∙ rw (none, append-nil, ap (λ (d : Retracked). d.track) told))

  pub from-count : n ≡ (later_of shift from times (flat_of x y z t) index).count
  from-count = ap (λ (d : Retracked). d.count) told

  pub from_within : index + n ≤ length times
  from_within =
      let f = flat-length x y z t h in
      let d4 = length-drop (4 * index) (flat_of x y z t) in
      let d1 = length-drop index times in
      let r = rewritten shift from (drop index times) (drop (4 * index) (flat_of x y z t)) (omega (arith, f, d4, d1, long)) in
      let c = from-count in
      omega (arith, r.few, c, d1)
