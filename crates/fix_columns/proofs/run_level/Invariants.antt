-- Invariant of the first loop, sixteen rows a turn: the rows of the blocks before this one have
-- passed, n of them count and met of them met what is told beside (`Passed`, of either's turns).
-- Invariant of the second, one row a turn: the same of the rows before i. Each turn's own rows join
-- by `passed_on`. When no row is left, the list is the run of the whole and n its count
-- (`passed-list`, `passed-count`). n and met are at most the number of rows that have passed, so
-- neither overflows. Assumes nothing.
use Prim.Native.Nat.{◌*◌}
use Rattle.helmert.specs.Turns.{no_state}
use Rattle.columns.specs.Columns.{Level, flat_of}
use Rattle.columns.specs.Passed.{Passed}
use Rattle.fix_columns.specs.Fixes.{fix_turns, fix_met_turns}
use Rattle.fix_columns.proofs.run_level.Given as goal

abbrev pub invariant-loop-block : goal.invariant-loop-block
invariant-loop-block g l =
    let f = g.S.FixStep.shifted l.step in
    Level l.x l.y l.z l.t
    × Passed (fix_turns f) 0 no_state (flat_of l.fn.x l.fn.y l.fn.z l.fn.t) (16 * l.block) no_state (flat_of l.x l.y l.z l.t) l.n
    × Passed (fix_met_turns f (g.S.FixStep.met l.step)) 0 no_state (flat_of l.fn.x l.fn.y l.fn.z l.fn.t) (16 * l.block) no_state (flat_of l.x l.y l.z l.t) l.met

abbrev pub invariant-loop-i : goal.invariant-loop-i
invariant-loop-i g l =
    let f = g.S.FixStep.shifted l.step in
    Level l.x l.y l.z l.t
    × Passed (fix_turns f) 0 no_state (flat_of l.fn.x l.fn.y l.fn.z l.fn.t) l.i no_state (flat_of l.x l.y l.z l.t) l.n
    × Passed (fix_met_turns f (g.S.FixStep.met l.step)) 0 no_state (flat_of l.fn.x l.fn.y l.fn.z l.fn.t) l.i no_state (flat_of l.x l.y l.z l.t) l.met
