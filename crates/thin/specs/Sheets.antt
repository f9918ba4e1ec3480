-- What the loop over a sheet's steps goes by: the rules, how many steps are run, which comes next
-- and in which direction.
use Rattle.std.specs.Prelude.{ℕ, ◌*◌, ◌-◌, Bool, cond, List, eqb, replicate, Float}
use Rattle.std.specs.Float.{nan}
use Rattle.sheet.specs.declared.Refusal.{Refusal}
use Rattle.sheet.specs.Layout.{step_count_of, kind_at, entry_at}
use Rattle.sheet.specs.Rules.{has_deformation, refusal_of}
use Rattle.chain.specs.Chain.{reversed_of}
use Rattle.chain.specs.Rules.{shift_refusal_of}
use Rattle.thin.specs.declared.Todo.{Todo}

-- the flat entry's refusal of as many tuples: the rules read the list's length and nothing else of
-- it
unfoldable pub thin_refusal_of : List ℕ → ℕ → List Float → List ℕ → Refusal
thin_refusal_of s tuples velocities marks =
    shift_refusal_of (refusal_of s) (has_deformation (kind_at s) (step_count_of s)) (replicate (4 * tuples) nan) velocities marks

-- how many steps are run: none of a refused call
unfoldable pub steps_of : List ℕ → Refusal → ℕ
steps_of s refusal = cond (eqb refusal.number 0) (step_count_of s) 0

-- the place of the step that comes i-th of n: the first first, inverse the last first
abbrev pub step_index_of : Bool → ℕ → ℕ → ℕ
step_index_of inverse n i = cond inverse (n - 1 - i) i

-- that step, in the chain's direction, turned round where its inverted word is 1
unfoldable pub todo_of : Bool → List ℕ → ℕ → ℕ → Todo
todo_of inverse s n i =
    let entry = entry_at s (step_index_of inverse n i) in
    record { place = step_index_of inverse n i; inverse = reversed_of inverse entry; step = entry.step }
