use native.Mathlib.Omega.{arith}
use mathlib.Core.Path.{◌≡◌, refl, sym, ap, ◌∙◌}
use Prim.Native.Nat.{ℕ}
use Rattle.sheet_writer.specs.Bytes.{body_start, directory_bytes}
use Rattle.sheet_writer.proofs.Writing.{start-next, directory-next}
use Rattle.words.specs.Words.{put}
use Rattle.words.proofs.Laws.{put_none}
use Rattle.sheet_writer.proofs.put_directory.Goals as goal

pub loop-i-init : goal.loop-i-init
unfolding body_start directory_bytes
loop-i-init c = (omega arith, (omega arith, (omega arith, (refl, sym (put_none _ _)))))

pub loop-i-preserved : goal.loop-i-preserved
loop-i-preserved c =
    let a = c.args in
    let p = c.put_place in
    (omega arith, (omega (arith, start-next a.sheet c.loop-i.i), (omega arith, (omega arith, rw (p.ensures, c.loop-i.invariant.1.1.1.1) (directory-next _ _ _ (omega arith))))))

pub returns : goal.returns
returns c =
    let a = c.args in
    let all : c.loop-i.i ≡ a.n = omega arith in
    c.loop-i.invariant.1.1.1.1 ∙ ap (λ (k : ℕ). put a.room.now 16 (directory_bytes a.sheet k)) all
