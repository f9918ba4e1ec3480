use native.Mathlib.Omega.{arith}
use mathlib.Core.Path.{◌≡◌, refl, sym, ap, ◌∙◌}
use Prim.Native.Nat.{ℕ, ◌+◌, ◌*◌}
use mathlib.Core.List.{List}
use Rattle.words.specs.Words.{put}
use Rattle.words.proofs.Laws.{put_none}
use Rattle.rescue.specs.Changes.{change_at, changes_in, list_of}
use Rattle.rescue.proofs.Listing.{reaches-next, within_all, listed_next}
use Rattle.rescue.proofs.list_changes.Goals as goal

pub loop-i-init : goal.loop-i-init
unfolding changes_in list_of
loop-i-init c = (omega arith, (refl, (refl, sym (put_none _ _))))

pub list_change-at-requires : goal.list_change-at-requires
list_change-at-requires c =
    let l = c.loop-i in
    let a = c.args in
    rw (c.read32-in-loop-i.ensures, c.read32.ensures)
    (omega (arith, l.invariant.1.0, l.invariant.1.1.0, c.requires.1, reaches-next a.s.now a.r.now l.i, within_all a.s.now a.r.now (l.i + 1) a.n (omega arith)))

pub loop-i-preserved : goal.loop-i-preserved
loop-i-preserved c =
    let l = c.loop-i in
    let a = c.args in
    let old = c.read32.ensures in
    let new = c.read32-in-loop-i.ensures in
    let e = rw (new, old) at c.list_change-at.ensures in
    let next = reaches-next a.s.now a.r.now l.i in
    let all = within_all a.s.now a.r.now (l.i + 1) a.n (omega arith) in (
      omega arith,
      (
        e.1 ∙ omega (arith, l.invariant.1.0, next),
        (
          omega arith,
          e.0
              ∙ ap (λ (m : List ℕ). put m l.at (list_of (change_at a.s.now a.r.now (4 * l.i)))) l.invariant.1.1.1
              ∙ listed_next a.s.now a.r.now a.list.now l.i l.at l.invariant.1.0 (omega (arith, c.requires.1, l.invariant.1.0, next, all)),
        ),
      ),
    )

pub returns : goal.returns
returns c =
    let l = c.loop-i in
    let a = c.args in
    let all : l.i ≡ a.n = omega arith in
    l.invariant.1.1.1 ∙ ap (λ (k : ℕ). put a.list.now 0 (list_of (changes_in a.s.now a.r.now k))) all
