-- Known rescues, evaluated, of P1's sheet: every word that is rebuilt damaged, and the form alone.
-- Assumes nothing.
use mathlib.Core.Path.{◌≡◌, refl}
use mathlib.Core.List.{List, [], ◌∷◌, ◌++◌}
use mathlib.Core.Bool.{true}
use Prim.Native.Nat.{ℕ}
use lib.ListN.{take}
use Rattle.words.specs.Words.{le32, word32}
use Rattle.bodies.specs.Kinds.{length_of}
use Rattle.sheet.specs.Rules.{some_from}
use Rattle.rescue.specs.Rebuilt.{start_of, header_bytes, entry_bytes, directory_bytes, rebuilt_of}
use Rattle.rescue.specs.Changes.{changed_of, changes_in, changes_of, list_of}
use Rattle.rescue.specs.Rules.{entry_broken, refusal19}

-- a sheet's bytes, given as words
bytes : List ℕ → List ℕ
bytes [] = []
bytes (w ∷ ws) = le32 w ++ bytes ws

-- P1: GRS80 cart
p1 : List ℕ
p1 = bytes (1 ∷ 40 ∷ 1 ∷ 16 ∷ 2 ∷ 0 ∷ 32 ∷ 8 ∷ 1 ∷ 0 ∷ [])

-- form 2, total length 41, directory offset 0, body offset 2^32 - 1, body length 7
damaged : List ℕ
damaged = bytes (2 ∷ 41 ∷ 1 ∷ 0 ∷ 2 ∷ 0 ∷ 4294967295 ∷ 7 ∷ 1 ∷ 0 ∷ [])

rebuilt_is_P1 : rebuilt_of damaged ≡ p1
unfolding damaged p1 bytes le32 word32 length_of start_of header_bytes entry_bytes directory_bytes rebuilt_of
rebuilt_is_P1 = refl

five_changes : list_of (changes_of damaged) ≡ 0 ∷ 2 ∷ 1 ∷ 4 ∷ 41 ∷ 40 ∷ 12 ∷ 0 ∷ 16 ∷ 24 ∷ 4294967295 ∷ 32 ∷ 28 ∷ 7 ∷ 8 ∷ []
unfolding damaged bytes le32 word32 length_of start_of header_bytes entry_bytes directory_bytes rebuilt_of changed_of changes_in changes_of list_of
five_changes = refl

-- P1's own words are not changed
no_change : list_of (changes_of p1) ≡ []
unfolding p1 bytes le32 word32 length_of start_of header_bytes entry_bytes directory_bytes rebuilt_of changed_of changes_in changes_of list_of
no_change = refl

-- a byte short, and the bodies no longer fill what is left
cut_is_lost : refusal19 (take 39 damaged) ≡ true
unfolding damaged bytes le32 word32 length_of start_of some_from entry_broken refusal19
cut_is_lost = refl
