-- Invariant of the first loop, sixteen rows a turn: the rows of the blocks before this one have
-- passed, and n of them count (`Passed`). Invariant of the second, one row a turn: the same of the
-- rows before i. Each turn's own rows join by `passed_on`. When no row is left, the list is the run
-- of the whole and n its count (`passed-list`, `passed-count`). n is at most the number of rows that
-- have passed, so it does not overflow. Assumes nothing.
use Prim.Native.Nat.{◌*◌}
use Rattle.helmert.specs.Turns.{no_state}
use Rattle.turns.specs.Turns.{plain_turns}
use Rattle.columns.specs.Columns.{Level, flat_of}
use Rattle.columns.specs.Passed.{Passed}
use Rattle.point_columns.proofs.run_level.Given as goal

abbrev pub invariant-loop-block : goal.invariant-loop-block
invariant-loop-block g l =
    Level l.x l.y l.z l.t
    × Passed (plain_turns (g.S.PointStep.shifted l.step)) 0 no_state (flat_of l.fn.x l.fn.y l.fn.z l.t) (16 * l.block) no_state (flat_of l.x l.y l.z l.t) l.n

abbrev pub invariant-loop-i : goal.invariant-loop-i
invariant-loop-i g l =
    Level l.x l.y l.z l.t
    × Passed (plain_turns (g.S.PointStep.shifted l.step)) 0 no_state (flat_of l.fn.x l.fn.y l.fn.z l.t) l.i no_state (flat_of l.x l.y l.z l.t) l.n
