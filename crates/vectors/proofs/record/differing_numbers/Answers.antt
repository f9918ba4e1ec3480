-- A turn adds what `differing` finds for one more (`differing_next`). At the list's length n is
-- `differing_numbers`, and at most 96 because the list is no longer. Assumes nothing.
use Rattle.std.proofs.Common.{◌≡◌, ℕ, ◌+◌, ◌*◌, length, get_or, arith, rules}
use lib.Ieee.{nan, binary64, to_bits}
use Rattle.words.specs.Words.{word64}
use Rattle.vectors.specs.Replay.{differ, differing_of}
use Rattle.vectors.proofs.Turns.{differing_next}
use Rattle.vectors.proofs.record.differing_numbers.Goals as goal

pub loop-i-init : goal.loop-i-init
unfolding differing_of
loop-i-init c = (search rules, search rules, search rules)

pub loop-i-preserved : goal.loop-i-preserved
loop-i-preserved c =
    let l = c.loop-i in
    let a = c.args in
    let told : c.differing-n.result ≡ differ (to_bits binary64 (get_or a.list.now l.i nan)) (word64 a.s.now (a.at + 8 * l.i)) = rw (← c.read64.ensures, ← c.to_bits.ensures) c.differing-n.ensures.0 in
    (omega arith, omega (arith, c.differing-n.ensures.1), omega (arith, differing_next (λ (i : ℕ). to_bits binary64 (get_or a.list.now i nan)) (λ (i : ℕ). word64 a.s.now (a.at + 8 * i)) l.i, told))

pub returns : goal.returns
returns c =
    let l = c.loop-i in
    let e : l.i ≡ length c.args.list.now = omega arith in
    (rw (← e) l.invariant.2, omega arith)
