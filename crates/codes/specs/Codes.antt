-- How an answer is handed to C: a refusal as one word, a direction as a number, counts as 32 bits
-- each.
use Rattle.std.specs.Prelude.{ℕ, Result, Ok, Err, ◌+◌, ◌*◌, ◌%◌, ◌<◌, Bool, not, List, [], ◌∷◌, eqb, get_or}
use Rattle.sheet.specs.declared.Refusal.{Refusal}

-- 0 is done; otherwise the refusal's number plus 65536 times the step
abbrev pub code_of : Refusal → ℕ
code_of r = r.number % 65536 + r.step % 65536 * 65536

-- the same of what a call answered: 0 where it is done
abbrev pub code_in : Result Unit Refusal → ℕ
code_in (Ok done) = 0
code_in (Err r) = code_of r

-- 0 is forward, anything else inverse
abbrev pub is_inverse : ℕ → Bool
is_inverse n = not (eqb n 0)

-- each count's lower 32 bits
unfoldable pub narrow_of : List ℕ → List ℕ
narrow_of [] = []
narrow_of (n ∷ counts) = n % 4294967296 ∷ narrow_of counts

-- counts that 32 bits hold
abbrev pub Small : List ℕ → Type 0
Small counts = (i : ℕ) → get_or counts i 0 < 4294967296
