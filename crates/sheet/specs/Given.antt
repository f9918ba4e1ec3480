-- When a refusal is given, in words: its rule is broken, and no rule before it is.
use Rattle.std.specs.Prelude.{◌≡◌, true, false, List, [], ◌∷◌, ◌++◌}
use Rattle.sheet.specs.declared.Refusal.{Refusal}
use Rattle.sheet.specs.Rules.{Rule}

-- no rule of a list is broken
pub data Unbroken : List Rule → Type 0 where
  none : Unbroken []
  next : {r : Rule} {l : List Rule} → r.broken ≡ false → Unbroken l → Unbroken (r ∷ l)

-- in the order l, r is the answer of a rule that is broken, and no rule before that one is
pub record FirstBroken (l : List Rule) (r : Refusal) : Type 0 where
  pub before : List Rule
  pub its-rule : Rule
  pub after : List Rule
  pub in_order : l ≡ before ++ (its-rule ∷ after)
  pub kept-before : Unbroken before
  pub is-broken : its-rule.broken ≡ true
  pub answers : its-rule.answer ≡ r
