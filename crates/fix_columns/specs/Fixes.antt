-- A step that sees a fix's index and its tuple alone, as turns over a list. Nothing is computed here.
use Rattle.std.specs.Prelude.{ℕ, Bool}
use Rattle.tuple.specs.declared.Tuple.{Tuple}
use Rattle.tuple.specs.declared.Shifted.{Shifted}
use Rattle.helmert.specs.declared.State.{State}
use Rattle.lists.specs.Run.{Turns}

-- the step says whether the fix counts
abbrev pub fix_turns : (ℕ → Tuple → Shifted) → Turns State
fix_turns f k state v = record { state = state; tuple = (f k v).tuple; counted = (f k v).counted }

-- the same with "met" in place of "counted": `count_of` of these is how many fixes met it
abbrev pub fix_met_turns : (ℕ → Tuple → Shifted) → (ℕ → Tuple → Bool) → Turns State
fix_met_turns f met k state v = record { state = state; tuple = (f k v).tuple; counted = met k v }
