-- Every tuple counts: permtide and Molodensky over a list count as many tuples as it has, both
-- ways. Assumes nothing.
use Prim.Native.Nat.{ℕ, ◌/◌}
use mathlib.Core.Path.{◌≡◌}
use mathlib.Core.Bool.{Bool, true, false}
use mathlib.Core.List.{List}
use lib.ListN.{length}
use lib.Ieee.{Float}
use Rattle.permtide.specs.declared.Permtide.{Permtide}
use Rattle.permtide.specs.Step.{tide_of, fwd_of, inv_of}
use Rattle.molodensky.specs.declared.Molodensky.{Molodensky}
use Rattle.molodensky.specs.Step.{moped_of, common_of}
use Rattle.helmert.specs.declared.State.{State}
use Rattle.helmert.proofs.Counts.{all_count}
use Rattle.lists.specs.Run.{count_of}
use Rattle.turns.specs.Turns.{permtide_turns, molodensky_turns}

pub every_permtide_tuple_counts : (inverse : Bool) (r : Permtide) (k : ℕ) (state : State) (l : List Float) → count_of (permtide_turns inverse r) k state l ≡ length l / 4
every_permtide_tuple_counts true r = all_count (inv_of (tide_of r))
every_permtide_tuple_counts false r = all_count (fwd_of (tide_of r))

pub every_molodensky_tuple_counts : (inverse : Bool) (r : Molodensky) (k : ℕ) (state : State) (l : List Float) → count_of (molodensky_turns inverse r) k state l ≡ length l / 4
every_molodensky_tuple_counts inverse r = all_count (common_of (moped_of r) inverse)
