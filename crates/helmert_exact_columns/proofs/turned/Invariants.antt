-- Invariant: the first j numbers of a are the angles r + d·rate at the first j lapses (`UpTo`). A
-- turn writes the angle at lapse j with the definition's own roundings (`one_more`). At j = 16 the
-- whole block is filled (`all_filled`). Assumes nothing.
use Prim.Native.Nat.{ℕ}
use Rattle.floats.specs.Binary64.{◌⊕◌, ◌⊗◌}
use Rattle.blocks.specs.Each.{at, UpTo}
use Rattle.helmert_exact_columns.proofs.turned.Given as goal

abbrev pub invariant-loop-j : goal.invariant-loop-j
invariant-loop-j l = UpTo l.j l.a (λ (k : ℕ). l.r ⊕ at l.d k ⊗ l.rate)
