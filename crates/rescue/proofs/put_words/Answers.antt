-- By `run_starts` and `run_word`, from what the calls ensure. Assumes nothing.
use mathlib.Core.Path.{◌∙◌, ap, sym}
use Prim.Native.Nat.{ℕ}
use Rattle.words.specs.Words.{le32, put_of}
use native.Mathlib.Omega.{arith}
use native.Mathlib.Nat.{add-zero}
use Rattle.words.proofs.Laws.{run_starts, run_word}
use Rattle.rescue.proofs.put_words.Goals as goal

pub returns : goal.returns
returns c =
    let a = c.args in
    let r0 = run_starts a.r.now a.at 16 (omega arith) in
    let r1 = run_word a.a r0 tt (c.put32.ensures ∙ ap (λ (k : ℕ). put_of a.r.now k (le32 a.a)) (sym (add-zero a.at))) in
    let r2 = run_word a.b r1 tt c.put32-2.ensures in
    let r3 = run_word a.c r2 tt c.put32-3.ensures in
    let r4 = run_word a.d r3 tt c.put32-4.ensures in
    r4.became
