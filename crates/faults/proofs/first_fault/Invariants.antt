-- Invariant: end is where the body before entry i ends (`end_before`), and the first fault from
-- entry 0 on is the first from entry i on (`first_fault`). A fault at entry i is the answer
-- (`fault_here`); if there is none, the search goes on at entry i + 1 with the end that `end_at`
-- gives (`fault_later`). With no entry left the answer is byte 4 (`fault_none`); n is at most 16,
-- so every answer is below 2^32. Assumes nothing.
use mathlib.Core.Path.{◌≡◌}
use Prim.Native.Nat.{◌-◌, ◌≤◌}
use Rattle.sheet.specs.Rules.{end_before}
use Rattle.faults.specs.Faults.{first_fault}
use Rattle.faults.proofs.first_fault.Given as goal

abbrev pub invariant-loop-i : goal.invariant-loop-i
invariant-loop-i l = (l.i ≤ l.n) × (l.end ≡ end_before l.s l.i) × (first_fault l.s l.n 0 ≡ first_fault l.s (l.n - l.i) l.i)
