-- Invariant: the fixes from i on, seen after what is seen so far, give what all give after the
-- report that came in (`fixes_of`, `seen_all`). A turn sees the next fix (`seen-on`); with none left
-- the report is there (`seen_end`). Assumes nothing.
use mathlib.Core.Path.{◌≡◌}
use Prim.Native.Nat.{◌-◌}
use Rattle.closure_report.specs.Report.{fixes_of, seen_all}
use Rattle.closure_report.proofs.add.Given as goal

abbrev pub invariant-loop-i : goal.invariant-loop-i
invariant-loop-i l = seen_all l.initial.r (fixes_of l.list l.start l.end l.i-end 0) ≡ seen_all l.r (fixes_of l.list l.start l.end (l.i-end - l.i) l.i)
