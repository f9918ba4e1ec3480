-- Invariant of the first loop, sixteen rows a turn: the rows of the blocks before this one have
-- passed (`Passed`), and each counts. Invariant of the second, one row a turn: the same of the rows
-- before i. Each turn's own rows join by `passed_on`. When no row is left, the list is the run of
-- the whole (`passed-list`); `either_turns` tells it by the direction. Assumes nothing.
use Prim.Native.Nat.{◌*◌}
use Rattle.helmert.specs.Turns.{no_state, all_turns}
use Rattle.columns.specs.Columns.{Level, flat_of}
use Rattle.columns.specs.Passed.{Passed}
use Rattle.permtide_columns.specs.Heights.{shifted_of}
use Rattle.permtide_columns.proofs.permtide_level.Given as goal

abbrev pub invariant-loop-block : goal.invariant-loop-block
invariant-loop-block l =
    Level l.x l.y l.z l.t × Passed (all_turns (shifted_of l.op l.inverse)) 0 no_state (flat_of l.x l.y l.fn.z l.t) (16 * l.block) no_state (flat_of l.x l.y l.z l.t) (16 * l.block)

abbrev pub invariant-loop-i : goal.invariant-loop-i
invariant-loop-i l =
    Level l.x l.y l.z l.t × Passed (all_turns (shifted_of l.op l.inverse)) 0 no_state (flat_of l.x l.y l.fn.z l.t) l.i no_state (flat_of l.x l.y l.z l.t) l.i
