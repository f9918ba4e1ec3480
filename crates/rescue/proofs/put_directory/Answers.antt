use native.Mathlib.Omega.{arith}
use mathlib.Core.Path.{◌≡◌, refl, sym, ap, ◌∙◌}
use Prim.Native.Nat.{ℕ}
use Rattle.words.specs.Words.{put}
use Rattle.words.proofs.Laws.{put_none}
use Rattle.rescue.specs.Rebuilt.{start_of, directory_bytes}
use Rattle.rescue.proofs.Rebuildable.{start-next}
use Rattle.rescue.proofs.Rebuilding.{directory-next}
use Rattle.rescue.proofs.put_directory.Goals as goal

pub loop-i-init : goal.loop-i-init
unfolding start_of directory_bytes
loop-i-init c = (omega arith, (omega arith, (omega arith, (refl, sym (put_none _ _)))))

pub loop-i-preserved : goal.loop-i-preserved
loop-i-preserved c =
    let p = c.put_entry in
    let l = c.loop-i in
    let a = c.args in
    (omega arith, (omega (arith, start-next a.s.now l.i), (omega arith, (omega arith, rw (p.ensures, l.invariant.1.1.1.1) (directory-next _ _ _ (omega arith))))))

pub returns : goal.returns
returns c =
    let l = c.loop-i in
    let a = c.args in
    let all : l.i ≡ a.n = omega arith in
    l.invariant.1.1.1.1 ∙ ap (λ (k : ℕ). put a.r.now 16 (directory_bytes a.s.now k)) all
