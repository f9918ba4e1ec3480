use native.Mathlib.Omega.{arith}
use mathlib.Core.Path.{◌≡◌, refl, sym, ap, ◌∙◌}
use Prim.Native.Nat.{ℕ, ◌≤◌, ◌<◌}
use native.Mathlib.Numerals.{add-one}
use lib.ListN.{length, take, length-set}
use lib.Seq.{take_all, take-suc, take-suc-set}
use Rattle.codes.specs.Codes.{narrow_of}
use Rattle.codes.proofs.Counts.{narrow_length, narrow_at}
use Rattle.codes.proofs.narrow.Goals as goal

pub loop-i-init : goal.loop-i-init
loop-i-init c = (omega arith, (refl, refl))

pub loop-i-preserved : goal.loop-i-preserved
loop-i-preserved c =
    let l = c.loop-i in
    let counts = c.args.counts in
    let here : l.i < length (narrow_of counts) = rw (narrow_length counts) (omega arith) in
    let there : l.i < length l.out = omega arith in
    (omega arith, (rw length-set l.invariant.1.0, rw (add-one, take-suc-set l.out l.i _ there, l.invariant.1.1, take-suc (narrow_of counts) l.i 0 here, narrow_at counts l.i (omega arith)) refl))

pub returns : goal.returns
returns c =
    let l = c.loop-i in
    let counts = c.args.counts in
    let end : l.i ≡ 16 = omega arith in
    let long : length (narrow_of counts) ≤ 16 = rw (narrow_length counts) (omega arith) in
    sym (take_all 16 l.out (omega arith)) ∙ ap (λ (i : ℕ). take i l.out) (sym end) ∙ l.invariant.1.1 ∙ ap (λ (i : ℕ). take i (narrow_of counts)) end ∙ take_all 16 (narrow_of counts) long
