-- One case for each way through the tests. Each by `laid`, from what the calls ensure.
-- Assumes nothing.
use Rattle.std.proofs.Common.{ℕ, ◌*◌, sym, ap, ◌∙◌, arith, length-take-le}
use Rattle.vectors.specs.Replay.{replay_of}
use Rattle.vectors.proofs.Turns.{laid}
use Rattle.vectors.proofs.record.replay.Goals as goal

pub slice_bounds-list-end : goal.slice_bounds-list-end
slice_bounds-list-end c = omega (arith, laid _ _ (sym c.laid_out.ensures ∙ c.if-laid_out.true), c.length_at-numbers.ensures.0)

pub slice_bounds-beside-end : goal.slice_bounds-beside-end
slice_bounds-beside-end c = sym (length-take-le _ _ (omega (arith, laid _ _ (sym c.laid_out.ensures ∙ c.if-laid_out.true), c.length_at-numbers.ensures.0, c.room-list.ensures)))

pub slice_bounds-velocities-end : goal.slice_bounds-velocities-end
slice_bounds-velocities-end c = omega (arith, laid _ _ (sym c.laid_out.ensures ∙ c.if-laid_out.true), c.length_at-speeds.ensures.0)

pub slice_bounds-beside-end-then-laid_out : goal.slice_bounds-beside-end-then-laid_out
slice_bounds-beside-end-then-laid_out c = sym (length-take-le _ _ (omega (arith, laid _ _ (sym c.laid_out.ensures ∙ c.if-laid_out.true), c.length_at-speeds.ensures.0, c.room-velocities.ensures)))

pub beside-requires : goal.beside-requires
beside-requires c =
    let l = laid _ _ (sym c.laid_out.ensures ∙ c.if-laid_out.true) in
    record {
      list_len = (
        length-take-le _ _ (omega (arith, l, c.length_at-numbers.ensures.0, c.room-list.ensures)) ∙ ap (λ (n : ℕ). 4 * n) c.length_at-numbers.ensures.0,
        length-take-le _ _ (omega (arith, l, c.length_at-speeds.ensures.0, c.room-velocities.ensures)) ∙ ap (λ (n : ℕ). 3 * n) c.length_at-speeds.ensures.0,
      );
      job_bound = (l.tuples, l.velocities, l.whole);
    }

pub returns-then-laid_out : goal.returns-then-laid_out
unfolding replay_of
returns-then-laid_out c = rw (sym c.laid_out.ensures ∙ c.if-laid_out.true) c.beside.ensures

pub returns : goal.returns
unfolding replay_of
returns c = rw (sym c.laid_out.ensures ∙ c.if-laid_out.false)
