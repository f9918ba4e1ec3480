-- Any corrections, one after another, of a kept run.
use Rattle.std.specs.Prelude.{Bool, List, [], ◌∷◌, ℕ}
use Rattle.stretch.specs.Kept.{Kept, put_fix, Correction}
use Rattle.kept.specs.Entries.{correct_of}

-- what is kept after them
abbrev pub kept_after_of : Bool → List ℕ → Kept → List Correction → Kept
kept_after_of inverse s kept [] = kept
kept_after_of inverse s kept (c ∷ later) = kept_after_of inverse s (correct_of inverse s kept c.index c.fix).kept later

-- the list as it stands after them
abbrev pub stands_after_of : Kept → List Correction → Kept
stands_after_of old [] = old
stands_after_of old (c ∷ later) = stands_after_of (put_fix old c.index c.fix) later
