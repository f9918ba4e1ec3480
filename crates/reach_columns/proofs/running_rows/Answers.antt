-- No row; all rows at one time (`one-time-count`); each at another than the one before; or any.
-- Assumes nothing.
use native.Mathlib.Omega.{arith}
use mathlib.Core.Path.{sym, ap, ◌∙◌}
use mathlib.Core.Bool.{Bool, cond}
use lib.ListN.{length}
use Prim.Native.Nat.{◌<◌}
use Rattle.columns.specs.Columns.{flat_of}
use Rattle.columns.proofs.Laws.{flat-length}
use Rattle.helmert.specs.Turns.{helmert_turns}
use Rattle.reach.specs.Met.{meeting_of, helmert_met}
use Rattle.lists.proofs.Laws.{count_short}
use Rattle.reach_columns.proofs.Times.{one-time-count}
use Rattle.reach_columns.proofs.running_rows.Goals as goal

pub returns-then-t-eq0 : goal.returns-then-t-eq0
returns-then-t-eq0 c =
    let a = c.args in
    let f = meeting_of (helmert_met a.shift) (helmert_turns a.inverse a.shift) in
    let l = flat_of a.x.now a.y.now a.z.now a.t.now in
    let short : length l < 4 = rw (flat-length a.x.now a.y.now a.z.now a.t.now c.requires.0) (omega (arith, c.requires.0.2, c.if-t-eq0.true)) in
    sym (count_short f 0 a.from l short)

pub returns-then-rotation_at_out : goal.returns-then-rotation_at_out
returns-then-rotation_at_out c =
    let a = c.args in
    let p = c.requires in
    let out = sym c.rotation_at_out.ensures ∙ c.if-rotation_at_out.true in
    ap (λ (b : Bool). cond b (length a.t.now) 0) (sym out)
    ∙ one-time-count a.inverse a.shift a.from a.x.now a.y.now a.z.now a.t.now p.0 p.1 p.2 p.3 c.next-first.result (sym c.next-first.ensures) (c.one_time.ensures c.if-one_time.true) (omega (arith, c.if-t-eq0.false))

pub returns-then-one_time : goal.returns-then-one_time
returns-then-one_time c =
    let a = c.args in
    let p = c.requires in
    let out = sym c.rotation_at_out.ensures ∙ c.if-rotation_at_out.false in
    ap (λ (b : Bool). cond b (length a.t.now) 0) (sym out)
    ∙ one-time-count a.inverse a.shift a.from a.x.now a.y.now a.z.now a.t.now p.0 p.1 p.2 p.3 c.next-first.result (sym c.next-first.ensures) (c.one_time.ensures c.if-one_time.true) (omega (arith, c.if-t-eq0.false))

pub returns-in-Some : goal.returns-in-Some
returns-in-Some c = rw c.in-Some.is at c.running_apart.ensures

pub returns-in-None : goal.returns-in-None
returns-in-None c = c.running_any.ensures
