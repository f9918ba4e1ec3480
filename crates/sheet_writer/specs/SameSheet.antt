-- What the round trips of a record speak of: a record that memory can hold, and two records that
-- are the same.
use Rattle.std.specs.Prelude.{◌≡◌, ℕ, ◌<◌}
use Rattle.bodies.specs.Held.{Held}
use Rattle.sheet.specs.declared.Sheet.{Sheet}
use Rattle.sheet.specs.Layout.{entry_of, step_in}

-- what every record in memory meets: a theorem over records takes it as its premise
abbrev pub HeldSheet : Sheet → Type 0
HeldSheet sheet = (i : ℕ) → i < sheet.count → Held (step_in sheet i)

-- the same record up to its step count
pub record SameSheet (a b : Sheet) : Type 0 where
  pub same_count : a.count ≡ b.count
  pub same_entries : (i : ℕ) → i < b.count → entry_of a i ≡ entry_of b i
