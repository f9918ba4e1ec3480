-- The pass: a count over a list that is read and not written, and that the two numbers go by the
-- times alone. Assumes nothing.
use Prim.Native.Nat.{ℕ, suc, ◌+◌, ◌/◌, ◌≤◌}
use native.Mathlib.Omega.{arith}
use native.Mathlib.Nat.{add_assoc}
use mathlib.Core.Path.{◌≡◌, refl, ap, ◌∙◌}
use mathlib.Core.Bool.{Bool, cond}
use mathlib.Core.List.{List, [], ◌∷◌}
use lib.ListN.{length}
use lib.Ieee.{Float}
use borrow.Author.Tests.{eq-eqb, ne_eqb}
use Rattle.tuple.specs.declared.Tuple.{Tuple}
use Rattle.helmert.specs.declared.Shift.{Shift}
use Rattle.helmert.specs.declared.State.{State}
use Rattle.helmert.specs.Modes.{start_of}
use Rattle.helmert.specs.Turns.{helmert_turns}
use Rattle.lists.specs.Flat.{four_of, tuple_at}
use Rattle.lists.specs.Run.{Turns, count_of}
use Rattle.lists.proofs.Laws.{Counted, count-open}
use Rattle.blocks.proofs.Counts.{at_most_one}
use Rattle.reach.specs.Met.{helmert_met}
use Rattle.tally.specs.declared.Tally.{Tally}
use Rattle.tally.specs.Tallies.{no_tally}
use Rattle.plans.specs.Passes.{Pass, meets, tally_of}
use Rattle.stretch.specs.Kept.{Kept}
use Rattle.stretch.proofs.Track.{turn_moves}
use Rattle.kept.specs.Entries.{keep_refusal_of, shift_in, reversed_in}
use Rattle.kept_reach.specs.Reach.{keep_tally_of, time_pass}

-- what one turn finds carries the count to the next place
pub count_along : {S : Type 0} {f : Turns S} {start state : S} {l₀ l : List Float} {i : ℕ} (h : i + 4 ≤ length l) {counted : Bool} {n m : ℕ}
    → counted ≡ (f (i / 4) state (tuple_at l i)).counted → m ≡ cond counted 1 0 → Counted f start l₀ i state l n
    → Counted f start l₀ (i + 4) (f (i / 4) state (tuple_at l i)).state l (n + m)
count_along {S} {f} {start} {state} {l₀} {l} {i} h {counted} {n} ec em now =
    record {
      total = rw (em, ec, add_assoc n) (rw (count-open f state l i h) at now.total);
      few = omega (arith, em, at_most_one counted, now.few);
    }

-- two steps that count alike and hand the same state on, whatever the index, count the same
count_as : (f g : Turns State) → ((j k : ℕ) (state : State) (v : Tuple) → (f j state v).counted ≡ (g k state v).counted)
    → ((j k : ℕ) (state : State) (v : Tuple) → (f j state v).state ≡ (g k state v).state)
    → (j k : ℕ) (state : State) (l : List Float) → count_of f j state l ≡ count_of g k state l
count_as f g ec es j k state (x ∷ y ∷ z ∷ t ∷ rest) =
    let v = four_of x y z t in
    let more = count_as f g ec es (suc j) (suc k) (f j state v).state rest ∙ ap (λ (next : State). count_of g (suc k) next rest) (es j k state v) in
    λ i. cond (ec j k state v i) 1 0 + more i
count_as f g ec es j k state (x ∷ y ∷ z ∷ []) = refl
count_as f g ec es j k state (x ∷ y ∷ []) = refl
count_as f g ec es j k state (x ∷ []) = refl
count_as f g ec es j k state [] = refl

-- the sheet's step
abbrev pub shift_pass : Bool → Shift → Pass
shift_pass inverse shift = record { turns = helmert_turns inverse shift; met = helmert_met shift }

module _ (inverse : Bool) (shift : Shift) (j k : ℕ) (state : State) (l : List Float) where
  pub by-times-met : count_of (meets (time_pass shift)) j state l ≡ count_of (meets (shift_pass inverse shift)) k state l
  by-times-met = count_as (meets (time_pass shift)) (meets (shift_pass inverse shift)) (λ j k state v. refl) (λ j k state v. turn_moves shift inverse k state v) j k state l

  pub by-times : tally_of (time_pass shift) j state l ≡ tally_of (shift_pass inverse shift) k state l
  by-times =
      let ec = count_as (time_pass shift).turns (helmert_turns inverse shift) (λ j k state v. refl) (λ j k state v. turn_moves shift inverse k state v) j k state l in
      λ i. record { count = ec i; met = by-times-met i }

-- ---- what a fresh run tells

module _ (inverse : Bool) (s : List ℕ) (old : Kept) where
  pub keep-none : {tally : Tally} → tally ≡ no_tally → ((keep_refusal_of s old).number ≡ 0 → ⊥) → tally ≡ keep_tally_of inverse s old
  unfolding keep_tally_of
  keep-none e h = rw (ne_eqb _ _ h) e

  pub keep-tally : {tally : Tally} → (keep_refusal_of s old).number ≡ 0 → tally ≡ tally_of (time_pass (shift_in s)) 0 (start_of (shift_in s)) old.list → tally ≡ keep_tally_of inverse s old
  unfolding keep_tally_of
  keep-tally h e = rw (eq-eqb _ _ h) (e ∙ by-times (reversed_in inverse s) (shift_in s) 0 0 (start_of (shift_in s)) old.list)
