-- A turn adds what `differing` finds for one more (`differing_next`). At i = 16 n is
-- `differing_counts`, at most 16. Assumes nothing.
use Rattle.std.proofs.Common.{◌≡◌, ℕ, ◌+◌, ◌*◌, get_or, arith, rules}
use Rattle.words.specs.Words.{word32}
use Rattle.vectors.specs.Replay.{differ, differing_of}
use Rattle.vectors.proofs.Turns.{differing_next}
use Rattle.vectors.proofs.record.differing_counts.Goals as goal

pub loop-i-init : goal.loop-i-init
unfolding differing_of
loop-i-init c = (search rules, search rules, search rules)

pub loop-i-preserved : goal.loop-i-preserved
loop-i-preserved c =
    let l = c.loop-i in
    let a = c.args in
    let told : c.differing-n.result ≡ differ (get_or a.counts.now l.i 0) (word32 a.s.now (a.at + 4 * l.i)) = rw (← c.read32.ensures, ← c.wide64.ensures.0, ← c.long.ensures) c.differing-n.ensures.0 in
    (omega arith, omega (arith, c.differing-n.ensures.1), omega (arith, differing_next (λ (i : ℕ). get_or a.counts.now i 0) (λ (i : ℕ). word32 a.s.now (a.at + 4 * i)) l.i, told))

pub returns : goal.returns
returns c =
    let l = c.loop-i in
    let e : l.i ≡ 16 = omega arith in
    (rw (← e) l.invariant.2, omega arith)
