-- Where the scan is through, every time was equal to the one. Assumes nothing.
use borrow.Author.Rules.{rules}
use borrow.Author.Tests.{tests}
use native.Mathlib.Omega.{arith}
use mathlib.Core.Path.{◌≡◌, ap}
use mathlib.Core.Bool.{true, false, not}
use lib.Ieee.{Float, eq, ne}
use Rattle.std.proofs.lemmas.Bool.{MatchBool-at_true}
use Rattle.std.proofs.lemmas.Iterator.{cases_from_all, YieldsList-from_slice}
use Rattle.reach_columns.proofs.one_time.Goals as goal

pub returns : goal.returns
unfolding ne
returns c h j k =
    let last = c.args.last in
    let all = cases_from_all _ _ _ (λ (x : Float). eq x last ≡ true) (λ (x : Float). eq x last ≡ false) c.all.ensures.ran (YieldsList-from_slice c.args.t.now cc) (λ x q b. search (rules, tests)) (λ x q b. search (rules, tests)) in
    ap not (MatchBool-at_true _ _ h all j _ (omega arith) k)
