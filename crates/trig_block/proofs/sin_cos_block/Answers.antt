-- Place by place, what the three loops reach is the pair. Assumes nothing.
use mathlib.Core.Path.{ap}
use Rattle.blocks.proofs.Laws.{told}
use Rattle.blocks.proofs.All.{each_of_all}
use Rattle.trig.specs.declared.SinCos.{SinCos}
use Rattle.trig_block.proofs.Joined.{joined, joined_usual}
use Rattle.trig_block.proofs.sin_cos_block.Goals as goal

pub returns-then-all_usual : goal.returns-then-all_usual
returns-then-all_usual c =
    let r = c.rows.ensures in
    let a = c.smalls.ensures in
    let usual = each_of_all c.all_usual.ensures c.if-all_usual.true in (
      told (λ j k. ap (λ (q : SinCos). q.s) (joined_usual _ (usual j k) (a.0.held j k) (a.1.held j k) (a.2.held j k) (r.0.held j k) (r.1.held j k) (r.2.held j k) (r.3.held j k))) c.usual_sums.ensures.0,
      told (λ j k. ap (λ (q : SinCos). q.c) (joined_usual _ (usual j k) (a.0.held j k) (a.1.held j k) (a.2.held j k) (r.0.held j k) (r.1.held j k) (r.2.held j k) (r.3.held j k))) c.usual_sums.ensures.1,
    )

pub returns-else-all_usual : goal.returns-else-all_usual
returns-else-all_usual c =
    let r = c.rows.ensures in
    let a = c.smalls.ensures in (
      told (λ j k. ap (λ (q : SinCos). q.s) (joined _ (a.0.held j k) (a.1.held j k) (a.2.held j k) (r.0.held j k) (r.1.held j k) (r.2.held j k) (r.3.held j k))) c.sums.ensures.0,
      told (λ j k. ap (λ (q : SinCos). q.c) (joined _ (a.0.held j k) (a.1.held j k) (a.2.held j k) (r.0.held j k) (r.1.held j k) (r.2.held j k) (r.3.held j k))) c.sums.ensures.1,
    )
