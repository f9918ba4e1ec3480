-- Each number is that of the tally there (`each_is`). Assumes nothing.
use borrow.Author.Rules.{rules}
use mathlib.Core.Path.{refl}
use Rattle.tally.specs.declared.Tally.{Tally}
use Rattle.tally.specs.Tallies.{no_tally}
use Rattle.tally.proofs.Laws.{each_is}
use Rattle.tally.proofs.counts.Goals as goal

pub returns : goal.returns
returns c =
    let m = c.map.ensures.items in
    each_is (λ (a : Tally). a.count) _ refl (search rules) m.long (λ i h. search (rules, m.at i no_tally 0 h))
