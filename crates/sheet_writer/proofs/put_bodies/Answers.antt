use native.Mathlib.Omega.{arith}
use mathlib.Core.Path.{◌≡◌, refl, sym, ap, ◌∙◌}
use Prim.Native.Nat.{ℕ, ◌+◌, ◌*◌, ◌≤◌}
use Rattle.sheet_writer.specs.Bytes.{body_start, bodies_bytes}
use Rattle.sheet_writer.proofs.Writing.{start-next, bodies-next, ends-within}
use lib.ListN.{length}
use Rattle.words.specs.Words.{put}
use Rattle.words.proofs.Laws.{put_none}
use Rattle.sheet_writer.proofs.put_bodies.Goals as goal

pub loop-i-init : goal.loop-i-init
unfolding body_start bodies_bytes
loop-i-init c = (omega arith, (omega arith, (omega arith, (refl, sym (put_none _ _)))))

pub put_body-requires : goal.put_body-requires
put_body-requires c =
    let a = c.args in
    (omega arith, omega (arith, ends-within a.sheet c.loop-i.i a.sheet.count (omega arith)))

pub loop-i-preserved : goal.loop-i-preserved
loop-i-preserved c =
    let a = c.args in
    let p = c.put_body in
    let fits : body_start a.sheet c.loop-i.i ≤ length a.room.now = omega (arith, ends-within a.sheet c.loop-i.i a.sheet.count (omega arith)) in
    (omega arith, (omega (arith, start-next a.sheet c.loop-i.i), (omega arith, (omega arith, rw (p.ensures, c.loop-i.invariant.1.1.1.1, c.loop-i.invariant.1.0, c.requires.1.0) (bodies-next _ _ _ (fits))))))

pub returns : goal.returns
returns c =
    let a = c.args in
    let all : c.loop-i.i ≡ a.n = omega arith in
    c.loop-i.invariant.1.1.1.1 ∙ ap (λ (k : ℕ). put a.room.now (16 + 16 * a.n) (bodies_bytes a.sheet k)) all
