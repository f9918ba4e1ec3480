use native.Mathlib.Omega.{arith}
use mathlib.Core.Path.{sym, ◌∙◌}
use Rattle.columns.specs.Columns.{Level}
use Rattle.columns.proofs.Laws.{level_told, flat-uneven}
use Rattle.reach_columns.proofs.Along.{along_start, asked_again, asked_end}
use Rattle.reach_columns.proofs.rows_where.Goals as goal

pub returns-then-not-level : goal.returns-then-not-level
returns-then-not-level g c p told = rw (flat-uneven _ _ _ _ (sym c.level.ensures ∙ c.if-not-level.true))

pub loop-i-init : goal.loop-i-init
loop-i-init g c = ((λ p told. along_start _ _ _), omega arith)

pub bounds-y-i : goal.bounds-y-i
bounds-y-i g c = omega (arith, (level_told _ _ _ _ (sym c.level.ensures ∙ c.if-not-level.false)).0, c.loop-i-test.true)

pub bounds-z-i : goal.bounds-z-i
bounds-z-i g c = omega (arith, (level_told _ _ _ _ (sym c.level.ensures ∙ c.if-not-level.false)).1, c.loop-i-test.true)

pub bounds-t-i : goal.bounds-t-i
bounds-t-i g c = omega (arith, (level_told _ _ _ _ (sym c.level.ensures ∙ c.if-not-level.false)).2, c.loop-i-test.true)

pub loop-i-preserved : goal.loop-i-preserved
loop-i-preserved g c =
    let a = c.args in
    let l = c.loop-i in
    let level : Level a.x.now a.y.now a.z.now a.t.now = level_told _ _ _ _ (sym c.level.ensures ∙ c.if-not-level.false) in (
      (λ p told. asked_again p a.x.now a.y.now a.z.now a.t.now level l.i c.loop-i-test.true (told _ _ c.holds.ensures) c.one_if-n.ensures.0 (l.invariant.0 p told)),
      omega (arith, c.one_if-n.ensures.1, l.invariant.1),
    )

pub returns : goal.returns
returns g c p told =
    let a = c.args in
    let level : Level a.x.now a.y.now a.z.now a.t.now = level_told _ _ _ _ (sym c.level.ensures ∙ c.if-not-level.false) in
    asked_end p a.x.now a.y.now a.z.now a.t.now level c.loop-i.i (omega (arith, c.loop-i-test.false)) (c.loop-i.invariant.0 p told)
