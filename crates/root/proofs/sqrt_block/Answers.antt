use Rattle.std.proofs.Common.{ℕ, ◌+◌, ◌<◌, List, set, sym, refl, ◌∙◌, subst, not-suc-le-zero, arith, length-set, rules}
use Rattle.blocks.proofs.Laws.{one_more_held, none_filled, one_more, all_filled}
use Rattle.root.specs.Whole.{Digits}
use Rattle.root.proofs.sqrt_block.Invariants.{Guesses}
use Rattle.root.proofs.sqrt_block.Goals as goal

one-guess-more : {l : List ℕ} {i v : ℕ} → i < 16 → Digits v → Guesses i l → Guesses (i + 1) (set l i v)
one-guess-more {l} {i} {v} room d before =
    record {
      block = length-set l i v ∙ before.block;
      held = one_more_held (λ (j : ℕ) (n : ℕ). Digits n) 0 v l i (subst (λ (n : ℕ). i < n) (sym before.block) room) d before.held;
    }

pub loop-i-init : goal.loop-i-init
loop-i-init c = record { block = refl; held = λ j h. absurd (not-suc-le-zero h) }

pub loop-i-preserved : goal.loop-i-preserved
loop-i-preserved c = one-guess-more (search rules) c.guess.ensures c.loop-i.invariant

pub loop-j-init : goal.loop-j-init
loop-j-init c = none_filled refl

pub from_guess-requires : goal.from_guess-requires
from_guess-requires c = c.loop-i.invariant.held c.loop-j.j (omega arith)

pub loop-j-preserved : goal.loop-j-preserved
loop-j-preserved c = one_more (search rules) c.from_guess.ensures c.loop-j.invariant

pub returns : goal.returns
returns c = all_filled (search rules) c.loop-j.invariant
