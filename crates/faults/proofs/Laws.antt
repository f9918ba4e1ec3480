-- Where rule 4 is broken, the place that is named is that of a word outside its rule, the first in
-- the rule's own order, and the sheet has that word. No entry before it is broken. Assumes nothing.
use mathlib.Core.Path.{◌≡◌, refl, sym, ap, ◌∙◌}
use Prim.Native.Nat.{ℕ, zero, suc, ◌+◌, ◌<◌, ◌≤◌}
use native.Mathlib.Omega.{arith}
use native.Mathlib.Nat.{zero-add}
use mathlib.Core.Bool.{Bool, true, false, not, cond, ◌||◌, true≢false}
use mathlib.Core.List.{List, [], ◌∷◌, ◌++◌}
use borrow.Author.Count.{below_more}
use borrow.Author.Tests.{eqb-true, eqb-false, ltb-true, ltb-false, le-ltb, eq-eqb}
use lib.Dec.{eqb, ltb}
use lib.ListN.{length}
use Rattle.bodies.specs.declared.Step.{Step}
use Rattle.bodies.specs.Kinds.{length_of}
use Rattle.sheet.specs.Layout.{step_count_of, total_length_of, directory_offset_of, directory_end, entry_offset, kind_at, inverted_at, offset_at, length_at, step_at}
use Rattle.sheet.specs.declared.Refusal.{Refusal}
use Rattle.sheet.specs.Rules.{Rule, of_call, end_before, place_broken, some_from, refusal1, refusal2, refusal3, refusal4, refusal5_at, rules_of_step, five_to_eight, elevens, reader_order, first_broken, refusal_of}
use Rattle.sheet.proofs.Order.{neither, count_kept}
use Rattle.faults.specs.Faults.{entry_fault, first_fault, fault_of}

abbrev word : Bool → Bool → Bool → Bool → ℕ
word a b c d = cond a 0 (cond b 4 (cond c 12 (cond d 8 16)))

no_word : (a b c d : Bool) → word a b c d ≡ 16 → a || b || c || d ≡ false
no_word true b c d e = absurd (omega arith)
no_word false true c d e = absurd (omega arith)
no_word false false true d e = absurd (omega arith)
no_word false false false true e = absurd (omega arith)
no_word false false false false e = refl

some_word : (a b c d : Bool) → a || b || c || d ≡ false → word a b c d ≡ 16
some_word true b c d e = let z : ◌≡◌ {A = ℕ} 0 1 = cc in absurd (omega arith)
some_word false true c d e = let z : ◌≡◌ {A = ℕ} 0 1 = cc in absurd (omega arith)
some_word false false true d e = let z : ◌≡◌ {A = ℕ} 0 1 = cc in absurd (omega arith)
some_word false false false true e = let z : ◌≡◌ {A = ℕ} 0 1 = cc in absurd (omega arith)
some_word false false false false e = refl

-- an entry with no fault keeps rule 4
pub no_fault_in_an_entry : (s : List ℕ) (i : ℕ) → entry_fault s i ≡ 16 → place_broken s i ≡ false
unfolding entry_fault place_broken
no_fault_in_an_entry s i e =
    no_word (eqb (length_of (kind_at s i)) 0) (ltb 1 (inverted_at s i)) (not (eqb (length_at s i) (length_of (kind_at s i)))) (not (eqb (offset_at s i) (end_before s i))) e

-- an entry that keeps rule 4 has no fault
pub kept_entry_has_no_fault : (s : List ℕ) (i : ℕ) → place_broken s i ≡ false → entry_fault s i ≡ 16
unfolding entry_fault place_broken
kept_entry_has_no_fault s i e =
    some_word (eqb (length_of (kind_at s i)) 0) (ltb 1 (inverted_at s i)) (not (eqb (length_at s i) (length_of (kind_at s i)))) (not (eqb (offset_at s i) (end_before s i))) e

-- ---- the word that is named

-- the word of entry i at k bytes into it is outside its rule, and those that the rule asks before
-- it are not
pub data OutsideInEntry (s : List ℕ) (i : ℕ) : ℕ → Type 0 where
  kind : length_of (kind_at s i) ≡ 0 → OutsideInEntry s i 0
  inverted : (length_of (kind_at s i) ≡ 0 → ⊥) → 1 < inverted_at s i → OutsideInEntry s i 4
  body-length : (length_of (kind_at s i) ≡ 0 → ⊥) → inverted_at s i ≤ 1 → (length_at s i ≡ length_of (kind_at s i) → ⊥) → OutsideInEntry s i 12
  body-offset : (length_of (kind_at s i) ≡ 0 → ⊥) → inverted_at s i ≤ 1 → length_at s i ≡ length_of (kind_at s i)
      → (offset_at s i ≡ end_before s i → ⊥) → OutsideInEntry s i 8

-- the word of a sheet at an offset is outside its rule, and those that rule 4 asks before it are
-- not
pub data Outside (s : List ℕ) : ℕ → Type 0 where
  directory-offset : (directory_offset_of s ≡ 16 → ⊥) → Outside s 12
  step_count : directory_offset_of s ≡ 16 → length s < directory_end (step_count_of s) → Outside s 8
  entry : directory_offset_of s ≡ 16 → directory_end (step_count_of s) ≤ length s
      → (i k : ℕ) → i < step_count_of s → ((j : ℕ) → j < i → place_broken s j ≡ false) → OutsideInEntry s i k → Outside s (entry_offset i + k)
  total-length : directory_offset_of s ≡ 16 → directory_end (step_count_of s) ≤ length s
      → ((j : ℕ) → j < step_count_of s → place_broken s j ≡ false) → (end_before s (step_count_of s) ≡ total_length_of s → ⊥) → Outside s 4

-- ---- in an entry

word_outside : (s : List ℕ) (i : ℕ) (a b c d : Bool) → eqb (length_of (kind_at s i)) 0 ≡ a → ltb 1 (inverted_at s i) ≡ b
    → eqb (length_at s i) (length_of (kind_at s i)) ≡ c → eqb (offset_at s i) (end_before s i) ≡ d
    → (word a b (not c) (not d) ≡ 16 → ⊥) → OutsideInEntry s i (word a b (not c) (not d))
word_outside s i true b c d p q r t h = OutsideInEntry.kind (eqb-true _ _ p)
word_outside s i false true c d p q r t h = OutsideInEntry.inverted (eqb-false _ _ p) (ltb-true _ _ q)
word_outside s i false false false d p q r t h = OutsideInEntry.body-length (eqb-false _ _ p) (ltb-false _ _ q) (eqb-false _ _ r)
word_outside s i false false true false p q r t h =
    OutsideInEntry.body-offset (eqb-false _ _ p) (ltb-false _ _ q) (eqb-true _ _ r) (eqb-false _ _ t)
word_outside s i false false true true p q r t h = absurd (h refl)

-- an entry's fault is the first of its words that is outside its rule
pub fault_in_an_entry : (s : List ℕ) (i : ℕ) → (entry_fault s i ≡ 16 → ⊥) → OutsideInEntry s i (entry_fault s i)
unfolding entry_fault
fault_in_an_entry s i h =
    word_outside s i (eqb (length_of (kind_at s i)) 0) (ltb 1 (inverted_at s i)) (eqb (length_at s i) (length_of (kind_at s i))) (eqb (offset_at s i) (end_before s i))
    refl refl refl refl h

word-within : {s : List ℕ} {i k : ℕ} → OutsideInEntry s i k → k + 4 ≤ 16
word-within (OutsideInEntry.kind p) = omega arith
word-within (OutsideInEntry.inverted p q) = omega arith
word-within (OutsideInEntry.body-length p q r) = omega arith
word-within (OutsideInEntry.body-offset p q r t) = omega arith

-- ---- in the directory

differ : (a b : ℕ) → not (eqb a b) ≡ true → a ≡ b → ⊥
differ a b p e = true≢false (sym p ∙ ap not (eq-eqb a b e))

module _ (s : List ℕ) (at-16 : directory_offset_of s ≡ 16) (inside : directory_end (step_count_of s) ≤ length s) where
  turn : (k i : ℕ) → i < step_count_of s → ((j : ℕ) → j < i → place_broken s j ≡ false)
      → (place_broken s i ≡ false → Outside s (first_fault s k (i + 1)))
      → (none : Bool) → eqb (entry_fault s i) 16 ≡ none
      → Outside s (cond none (first_fault s k (i + 1)) (entry_offset i + entry_fault s i))
  turn k i h before later true e = later (no_fault_in_an_entry s i (eqb-true (entry_fault s i) 16 e))
  turn k i h before later false e =
      Outside.entry at-16 inside i (entry_fault s i) h before (fault_in_an_entry s i (eqb-false (entry_fault s i) 16 e))

  -- the search over the k entries that are left, those before entry i being in rule
  found : (k i : ℕ) → i + k ≡ step_count_of s → ((j : ℕ) → j < i → place_broken s j ≡ false)
      → some_from (place_broken s) k i || not (eqb (end_before s (step_count_of s)) (total_length_of s)) ≡ true
      → Outside s (first_fault s k i)
  unfolding first_fault some_from
  found zero i e before broken =
      Outside.total-length at-16 inside (λ j h. before j (omega arith)) (differ (end_before s (step_count_of s)) (total_length_of s) broken)
  found (suc k) i e before broken =
      turn k i (omega arith) before
      (λ here. found k (i + 1) (omega arith) (below_more (λ (j : ℕ). place_broken s j ≡ false) i before here) (rw here at broken))
      (eqb (entry_fault s i) 16) refl

module _ (s : List ℕ) where
  named_by : (a b : Bool) → eqb (directory_offset_of s) 16 ≡ a → ltb (length s) (directory_end (step_count_of s)) ≡ b
      → not a || b || some_from (place_broken s) (step_count_of s) 0 || not (eqb (end_before s (step_count_of s)) (total_length_of s)) ≡ true
      → Outside s (cond (not a) 12 (cond b 8 (first_fault s (step_count_of s) 0)))
  named_by false b p q broken = Outside.directory-offset (eqb-false _ _ p)
  named_by true true p q broken = Outside.step_count (eqb-true _ _ p) (ltb-true _ _ q)
  named_by true false p q broken =
      found s (eqb-true _ _ p) (ltb-false _ _ q) (step_count_of s) 0 (zero-add (step_count_of s)) (λ j h. absurd (omega arith)) broken

  named : refusal3 (step_count_of s) ≡ false → refusal4 s ≡ true → Outside s (fault_of s)
  unfolding refusal4 fault_of
  named three four =
      rw (le-ltb 16 (step_count_of s) (count_kept (step_count_of s) three).1)
      (named_by (eqb (directory_offset_of s) 16) (ltb (length s) (directory_end (step_count_of s))) refl refl four)

there : {s : List ℕ} {at : ℕ} → 16 ≤ length s → Outside s at → at + 4 ≤ length s
there h (Outside.directory-offset p) = omega arith
there h (Outside.step_count p q) = omega arith
there h (Outside.entry p q i k l before w) = omega (arith, word-within w)
there h (Outside.total-length p q before e) = omega arith

header_there : (s : List ℕ) → refusal1 s ≡ false → 16 ≤ length s
unfolding refusal1
header_there s e = ltb-false (length s) 16 (neither _ _ (neither _ _ e).0).0

-- Where rule 4 is broken and rules 1 and 3 are kept, the place named is that of the first word
-- outside its rule, in the rule's own order, and the sheet has it.
pub fault_in_the_directory : (s : List ℕ) → refusal1 s ≡ false → refusal3 (step_count_of s) ≡ false → refusal4 s ≡ true
    → Outside s (fault_of s) × (fault_of s + 4 ≤ length s)
fault_in_the_directory s one three four =
    let word = named s three four in
    (word, there (header_there s one) word)

-- ---- where the reader answers 4

-- no rule of a list answers 4 or less
data Later : List Rule → Type 0 where
  none : Later []
  next : {r : Rule} {l : List Rule} → 4 < r.answer.number → Later l → Later (r ∷ l)

later-append : {l m : List Rule} → Later l → Later m → Later (l ++ m)
later-append none k = k
later-append (next h l) k = next h (later-append l k)

past_four : (n : ℕ) → 4 < suc (suc (suc (suc (suc n))))
past_four n = omega arith

later-steps : (five : ℕ → Bool) (step : ℕ → Step) (k i : ℕ) → Later (five_to_eight five step k i)
unfolding five_to_eight rules_of_step
later-steps five step zero i = none
later-steps five step (suc k) i =
    next (past_four 0) (next (past_four 1) (next (past_four 2) (next (past_four 3) (later-steps five step k (i + 1)))))

later-elevens : (kinds : ℕ → ℕ) (k i : ℕ) → Later (elevens kinds k i)
unfolding elevens
later-elevens kinds zero i = none
later-elevens kinds (suc k) i = next (past_four 6) (later-elevens kinds k (i + 1))

not_four : (b : Bool) (r x : Refusal) → 4 < r.number → (x.number ≡ 4 → ⊥) → (cond b r x).number ≡ 4 → ⊥
not_four true r x h k e = omega arith
not_four false r x h k e = k e

later_answers : (l : List Rule) → Later l → (first_broken l).number ≡ 4 → ⊥
unfolding first_broken
later_answers [] none e = omega arith
later_answers (r ∷ l) (next h k) e = not_four r.broken r.answer (first_broken l) h (later_answers l k) e

by_four : (a b c d : Bool) (x : Refusal) → (x.number ≡ 4 → ⊥)
    → (cond a (of_call 1) (cond b (of_call 2) (cond c (of_call 3) (cond d (of_call 4) x)))).number ≡ 4
    → (a ≡ false) × ((c ≡ false) × (d ≡ true))
by_four true b c d x h e = absurd (omega arith)
by_four false true c d x h e = absurd (omega arith)
by_four false false true d x h e = absurd (omega arith)
by_four false false false true x h e = (refl, (refl, refl))
by_four false false false false x h e = absurd (h e)

-- The same of every sheet that the reader refuses by 4.
pub fault_where_refused_by_4 : (s : List ℕ) → (refusal_of s).number ≡ 4 → Outside s (fault_of s) × (fault_of s + 4 ≤ length s)
unfolding refusal_of reader_order first_broken
fault_where_refused_by_4 s e =
    let rest = later-append (later-steps (refusal5_at s) (step_at s) (step_count_of s) 0) (later-elevens (kind_at s) (step_count_of s) 0) in
    let p = by_four (refusal1 s) (refusal2 s) (refusal3 (step_count_of s)) (refusal4 s) _ (later_answers _ rest) e in
    fault_in_the_directory s p.0 p.1.0 p.1.1
