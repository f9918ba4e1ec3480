-- Lists of rules in their order, as the loops meet them: the first broken rule of two lists one
-- after the other, and a turn of each loop. Working definitions, which no promise cites: `Without`,
-- `Numbered`, `by_number`, `own_rule`. Assumes nothing.
use mathlib.Core.Path.{◌≡◌, refl, sym, ap, ◌∙◌}
use mathlib.Core.Logic.{◌↔◌}
use Prim.Native.Nat.{ℕ, zero, suc, ◌+◌, ◌<◌, ◌≤◌}
use mathlib.Core.List.{List, [], ◌∷◌, ◌++◌}
use mathlib.Core.Bool.{Bool, true, false, not, cond, ◌||◌, true≢false}
use native.Mathlib.Omega.{arith}
use native.Mathlib.Numerals.{add-one}
use borrow.Author.Tests.{eqb-true, eqb-false, eq-eqb, ne_eqb, lt-ltb, ltb-false, not-true, not-false}
use lib.Dec.{eqb, ltb}
use Rattle.bodies.specs.declared.Step.{Step}
use Rattle.bodies.specs.Read.{step_of}
use Rattle.bodies.specs.Rules.{body_in_rule, lacks_convention, lacks_epoch, lacks_duration, lowest_broken}
use Rattle.sheet.specs.declared.Refusal.{Refusal}
use Rattle.sheet.specs.Layout.{offset_at, length_at, step_count_of, kind_at, step_at}
use Rattle.sheet.specs.Rules.{Rule, rule, of_step, of_index, accepted, first_broken, rules_of_step, five_to_eight, elevens, refusal11, has_deformation, some_from, end_before, refusal1, refusal2, refusal3, refusal4, refusal5, refusal5_at, reader_order, refusal_of}
use Rattle.sheet.specs.Given.{Unbroken}

-- ---- numbers that a list of rules does not give

-- no rule of a list that is broken has the number n
pub data Without (n : ℕ) : List Rule → Type 0 where
  none : Without n []
  next : {r : Rule} {l : List Rule} → (r.broken ≡ true → r.answer.number ≡ n → ⊥) → Without n l → Without n (r ∷ l)

-- every rule that is broken has a number
abbrev pub Numbered : List Rule → Type 0
Numbered = Without 0

pub not_zero : (n : ℕ) → suc n ≡ 0 → ⊥
not_zero n e = omega arith

-- a rule of another number
pub without_rule : {n : ℕ} {step : ℕ} {broken : Bool} {l : List Rule} (m : ℕ) → (m ≡ n → ⊥) → Without n l
    → Without n (rule (record { number = m; step = step }) broken ∷ l)
without_rule m other w = next (λ b e. other e) w

pub without_append : {n : ℕ} {l m : List Rule} → Without n l → Without n m → Without n (l ++ m)
without_append none w = w
without_append (next h l) w = next h (without_append l w)

-- a step's rules have the numbers 5 to 8
module _ (n : ℕ) (other : 4 < n → n < 9 → ⊥) where
  without-step : (i : ℕ) (five : Bool) (step : Step) → Without n (rules_of_step i five step)
  unfolding rules_of_step
  without-step i five step =
      without_rule 5 (λ e. other (omega arith) (omega arith))
      (without_rule 6 (λ e. other (omega arith) (omega arith))
      (without_rule 7 (λ e. other (omega arith) (omega arith)) (without_rule 8 (λ e. other (omega arith) (omega arith)) none)))

  pub without-steps : (five : ℕ → Bool) (step : ℕ → Step) (k i : ℕ) → Without n (five_to_eight five step k i)
  unfolding five_to_eight
  without-steps five step zero i = none
  without-steps five step (suc k) i = without_append (without-step i (five i) (step i)) (without-steps five step k (i + 1))

pub without_elevens : (n : ℕ) → (n ≡ 11 → ⊥) → (kind : ℕ → ℕ) (k i : ℕ) → Without n (elevens kind k i)
unfolding elevens
without_elevens n other kind zero i = none
without_elevens n other kind (suc k) i = without_rule 11 (λ e. other (sym e)) (without_elevens n other kind k (i + 1))

-- the reader's rules have the numbers 1 to 8 and 11
pub without_reader : (n : ℕ) → (0 < n → n < 9 → ⊥) → (n ≡ 11 → ⊥) → (s : List ℕ) → Without n (reader_order s)
unfolding reader_order
without_reader n other not11 s =
    without_rule 1 (λ e. other (omega arith) (omega arith))
    (without_rule 2 (λ e. other (omega arith) (omega arith))
    (without_rule 3 (λ e. other (omega arith) (omega arith))
    (without_rule 4 (λ e. other (omega arith) (omega arith))
    (without_append (without-steps n (λ a b. other (omega arith) b) (refusal5_at s) (step_at s) (step_count_of s) 0)
    (without_elevens n not11 (kind_at s) (step_count_of s) 0)))))

pub numbered_step : (i : ℕ) (five : Bool) (step : Step) → Numbered (rules_of_step i five step)
numbered_step = without-step 0 (λ a b. omega arith)

pub numbered_steps : (five : ℕ → Bool) (step : ℕ → Step) (k i : ℕ) → Numbered (five_to_eight five step k i)
numbered_steps = without-steps 0 (λ a b. omega arith)

pub numbered_elevens : (kind : ℕ → ℕ) (k i : ℕ) → Numbered (elevens kind k i)
numbered_elevens = without_elevens 0 (λ e. omega arith)

pub numbered_reader : (s : List ℕ) → Numbered (reader_order s)
numbered_reader = without_reader 0 (λ a b. omega arith) (λ e. omega arith)

-- ---- one list after another

kept_one : (b : Bool) (a x y z : Refusal) → (b ≡ true → a.number ≡ 0 → ⊥) → (cond b a x).number ≡ 0 → (x.number ≡ 0 → y ≡ z) → cond b a y ≡ z
kept_one true a x y z h e k = absurd (h refl e)
kept_one false a x y z h e k = k e

-- where the first list is kept the second answers
pub kept_then : (l m : List Rule) → Numbered l → (first_broken l).number ≡ 0 → first_broken (l ++ m) ≡ first_broken m
unfolding first_broken
kept_then [] m n e = refl
kept_then (r ∷ l) m (next h n) e =
    kept_one r.broken r.answer (first_broken l) (first_broken (l ++ m)) (first_broken m) h e (kept_then l m n)

broken_one : (b : Bool) (a x y : Refusal) → ((cond b a x).number ≡ 0 → ⊥) → ((x.number ≡ 0 → ⊥) → y ≡ x) → cond b a y ≡ cond b a x
broken_one true a x y h k = refl
broken_one false a x y h k = k h

-- where the first list is broken it answers
pub broken_first : (l m : List Rule) → ((first_broken l).number ≡ 0 → ⊥) → first_broken (l ++ m) ≡ first_broken l
unfolding first_broken
broken_first [] m h = absurd (h refl)
broken_first (r ∷ l) m h =
    broken_one r.broken r.answer (first_broken l) (first_broken (l ++ m)) h (broken_first l m)

-- ---- a step's refusal

-- at an index that a sheet can have it is of the step
pub of_index_lem : (number i : ℕ) → i < 16 → of_index number i ≡ of_step number i
unfolding of_index
of_index_lem number i h = rw (lt-ltb i 16 h)

-- ---- a body

-- a refusal of step i by its number, 0 being none
abbrev pub by_number : ℕ → ℕ → Refusal
by_number i n = cond (eqb n 0) accepted (of_step n i)

by_lowest : (i : ℕ) (five six seven eight : Bool)
    → cond (not five) (of_step 5 i) (cond six (of_step 6 i) (cond seven (of_step 7 i) (cond eight (of_step 8 i) accepted)))
    ≡ by_number i (cond five (cond six 6 (cond seven 7 (cond eight 8 0))) 5)
by_lowest i false six seven eight = refl
by_lowest i true true seven eight = refl
by_lowest i true false true eight = refl
by_lowest i true false false true = refl
by_lowest i true false false false = refl

-- of a body's rules 5 to 8 the first that is broken is the lowest
pub lowest_first : (i kind : ℕ) (b : List ℕ)
    → first_broken (rules_of_step i (refusal5 kind b) (step_of kind b)) ≡ by_number i (lowest_broken kind b)
unfolding first_broken rules_of_step refusal5 lowest_broken
lowest_first i kind b =
    by_lowest i (body_in_rule kind b) (lacks_convention (step_of kind b)) (lacks_epoch (step_of kind b)) (lacks_duration (step_of kind b))

-- ---- a turn of each loop

module _ (five : ℕ → Bool) (step : ℕ → Step) where
  pub steps_on : (n k i : ℕ) (r : Refusal) → n ≡ suc k → r ≡ first_broken (rules_of_step i (five i) (step i)) → r.number ≡ 0
      → first_broken (five_to_eight five step n i) ≡ first_broken (five_to_eight five step k (i + 1))
  unfolding five_to_eight
  steps_on n k i r e p q =
      rw e (kept_then (rules_of_step i (five i) (step i)) (five_to_eight five step k (i + 1)) (numbered_step i (five i) (step i)) (rw p at q))

  pub steps-off : (n k i : ℕ) (r : Refusal) → n ≡ suc k → r ≡ first_broken (rules_of_step i (five i) (step i)) → (r.number ≡ 0 → ⊥)
      → first_broken (five_to_eight five step n i) ≡ r
  unfolding five_to_eight
  steps-off n k i r e p q =
      rw e (broken_first (rules_of_step i (five i) (step i)) (five_to_eight five step k (i + 1)) (rw p at q) ∙ sym p)

  pub steps-end : (n i : ℕ) → n ≡ 0 → first_broken (five_to_eight five step n i) ≡ accepted
  unfolding five_to_eight first_broken
  steps-end n i e = rw e

module _ (kind : ℕ → ℕ) where
  pub elevens-on : (n k i : ℕ) → n ≡ suc k → refusal11 kind i ≡ false
      → first_broken (elevens kind n i) ≡ first_broken (elevens kind k (i + 1))
  unfolding elevens first_broken
  elevens-on n k i e p = rw (e, p)

  pub elevens-off : (n k i : ℕ) → n ≡ suc k → refusal11 kind i ≡ true → first_broken (elevens kind n i) ≡ of_step 11 i
  unfolding elevens first_broken
  elevens-off n k i e p = rw (e, p)

  pub elevens-end : (n i : ℕ) → n ≡ 0 → first_broken (elevens kind n i) ≡ accepted
  unfolding elevens first_broken
  elevens-end n i e = rw e

  pub before-next : (i : ℕ) → has_deformation kind (i + 1) ≡ (has_deformation kind i || eqb (kind i) 5)
  unfolding has_deformation
  before-next i = rw add-one

module _ (broken : ℕ → Bool) where
  pub some-on : (n k i : ℕ) → n ≡ suc k → broken i ≡ false → some_from broken n i ≡ some_from broken k (i + 1)
  unfolding some_from
  some-on n k i e p = rw (e, p)

  pub some-off : (n k i : ℕ) → n ≡ suc k → broken i ≡ true → some_from broken n i ≡ true
  unfolding some_from
  some-off n k i e p = rw (e, p)

  pub some_end : (n i : ℕ) → n ≡ 0 → some_from broken n i ≡ false
  unfolding some_from
  some_end n i e = rw e

-- the body of step i ends where its offset and length say
pub end_next : (s : List ℕ) (i : ℕ) → end_before s (i + 1) ≡ offset_at s i + length_at s i
unfolding end_before
end_next s i = rw add-one

-- ---- kept: no rule of a list is broken

kept_head : (b : Bool) (a x : Refusal) → (b ≡ true → a.number ≡ 0 → ⊥) → (cond b a x).number ≡ 0 → (b ≡ false) × (x.number ≡ 0)
kept_head true a x h e = absurd (h refl e)
kept_head false a x h e = (refl, e)

-- where nothing is answered nothing is broken
pub all_kept : (l : List Rule) → Numbered l → (first_broken l).number ≡ 0 → Unbroken l
unfolding first_broken
all_kept [] n e = Unbroken.none
all_kept (r ∷ l) (next h n) e =
    let p = kept_head r.broken r.answer (first_broken l) h e in
    Unbroken.next p.0 (all_kept l n p.1)

-- and where nothing is broken nothing is answered
pub none_broken : (l : List Rule) → Unbroken l → first_broken l ≡ accepted
unfolding first_broken
none_broken [] k = refl
none_broken (r ∷ l) (Unbroken.next h k) = rw h (none_broken l k)

pub kept_append : {l m : List Rule} → Unbroken l → Unbroken m → Unbroken (l ++ m)
kept_append Unbroken.none k = k
kept_append (Unbroken.next h l) k = Unbroken.next h (kept_append l k)

pub kept_left : (l m : List Rule) → Unbroken (l ++ m) → Unbroken l
kept_left [] m k = Unbroken.none
kept_left (r ∷ l) m (Unbroken.next h k) = Unbroken.next h (kept_left l m k)

pub kept_right : (l m : List Rule) → Unbroken (l ++ m) → Unbroken m
kept_right [] m k = k
kept_right (r ∷ l) m (Unbroken.next h k) = kept_right l m k

pub kept_first : {r : Rule} {l : List Rule} → Unbroken (r ∷ l) → r.broken ≡ false
kept_first (Unbroken.next h k) = h

pub kept-rest : {r : Rule} {l : List Rule} → Unbroken (r ∷ l) → Unbroken l
kept-rest (Unbroken.next h k) = k

pub neither : (a b : Bool) → (a || b) ≡ false → (a ≡ false) × (b ≡ false)
neither true b e = absurd (true≢false e)
neither false b e = (refl, e)

-- ---- the reader's order

pub count_kept : (n : ℕ) → refusal3 n ≡ false → (0 < n) × (n ≤ 16)
unfolding refusal3
count_kept n e =
    let p = neither (eqb n 0) (ltb 16 n) e in
    (omega (arith, eqb-false n 0 p.0), ltb-false 16 n p.1)

module _ (s : List ℕ) (kept1 : refusal1 s ≡ false) (kept2 : refusal2 s ≡ false) (kept3 : refusal3 (step_count_of s) ≡ false) (kept4 : refusal4 s ≡ false)
    (n : ℕ) (count : n ≡ step_count_of s) (r : Refusal) (answer : r ≡ first_broken (five_to_eight (refusal5_at s) (step_at s) n 0)) where
  passed-four : refusal_of s ≡ first_broken (five_to_eight (refusal5_at s) (step_at s) (step_count_of s) 0 ++ elevens (kind_at s) (step_count_of s) 0)
  unfolding refusal_of reader_order first_broken
  passed-four = rw (kept1, kept2, kept3, kept4)

  -- after 1 to 4 a step answers
  pub reader-step : (r.number ≡ 0 → ⊥) → refusal_of s ≡ r
  reader-step h =
      passed-four ∙ rw (← count) (broken_first (five_to_eight (refusal5_at s) (step_at s) n 0) (elevens (kind_at s) n 0) (rw answer at h) ∙ sym answer)

  -- or 11
  pub reader-eleven : r.number ≡ 0 → refusal_of s ≡ first_broken (elevens (kind_at s) n 0)
  reader-eleven h =
      passed-four
      ∙ rw (← count)
      (kept_then (five_to_eight (refusal5_at s) (step_at s) n 0) (elevens (kind_at s) n 0) (numbered_steps (refusal5_at s) (step_at s) n 0) (rw answer at h))

kept_count : (s : List ℕ) → Unbroken (reader_order s) → refusal3 (step_count_of s) ≡ false
unfolding reader_order
kept_count s (Unbroken.next a (Unbroken.next b (Unbroken.next c k))) = c

-- an accepted sheet has 1 to 16 steps
pub accepted_count : (s : List ℕ) → (refusal_of s).number ≡ 0 → step_count_of s ≤ 16
unfolding refusal_of
accepted_count s e = (count_kept (step_count_of s) (kept_count s (all_kept (reader_order s) (numbered_reader s) e))).1

-- ---- given exactly when

-- where every rule before it is kept a broken rule answers
pub give : (before : List Rule) (r : Rule) (after : List Rule) → Unbroken before → r.broken ≡ true
    → first_broken (before ++ (r ∷ after)) ≡ r.answer
unfolding first_broken
give [] r after k e = rw e
give (q ∷ before) r after (Unbroken.next h k) e = rw h (give before r after k e)

by_number_lem : {A : Type 0} (b : Bool) (a x : Refusal) (n : ℕ) → (b ≡ true → a.number ≡ n → A) → (b ≡ false → x.number ≡ n → A)
    → (cond b a x).number ≡ n → A
by_number_lem true a x n p q e = p refl e
by_number_lem false a x n p q e = q refl e

-- a number that no broken rule has is not given
pub never_given : (n : ℕ) → (n ≡ 0 → ⊥) → (l : List Rule) → Without n l → (first_broken l).number ≡ n → ⊥
unfolding first_broken
never_given n some [] w e = some (sym e)
never_given n some (r ∷ l) (next h w) e = by_number_lem r.broken r.answer (first_broken l) n h (λ b. never_given n some l w) e

module _ (r : Rule) (after : List Rule) (some : r.answer.number ≡ 0 → ⊥) (later : Without r.answer.number after) where
  only_then : (before : List Rule) → Without r.answer.number before → (first_broken (before ++ (r ∷ after))).number ≡ r.answer.number
      → Unbroken before × (r.broken ≡ true)
  unfolding first_broken
  only_then [] w e =
      by_number_lem r.broken r.answer (first_broken after) r.answer.number (λ b d. (Unbroken.none, b))
      (λ b d. absurd (never_given r.answer.number some after later d)) e
  only_then (q ∷ before) (next h w) e =
      by_number_lem q.broken q.answer (first_broken (before ++ (r ∷ after))) r.answer.number (λ b d. absurd (h b d))
      (λ b d. let p = only_then before w d in (Unbroken.next b p.0, p.1)) e

-- A rule's number is given exactly when every rule before it is kept and it is broken, where no
-- other rule of the order has its number.
pub number_given_exactly_when : (before : List Rule) (r : Rule) (after : List Rule) → (r.answer.number ≡ 0 → ⊥)
    → Without r.answer.number before → Without r.answer.number after
    → ((first_broken (before ++ (r ∷ after))).number ≡ r.answer.number) ↔ (Unbroken before × (r.broken ≡ true))
number_given_exactly_when before r after some w later = (
  only_then r after some later before w,
  λ k. ap (λ (x : Refusal). x.number) (give before r after k.0 k.1),
)

-- and none exactly when all are kept
pub none_given_exactly_when : (l : List Rule) → Numbered l → ((first_broken l).number ≡ 0) ↔ Unbroken l
none_given_exactly_when l n = (all_kept l n, λ k. ap (λ (x : Refusal). x.number) (none_broken l k))

-- the reader gives no other numbers than 1 to 8 and 11
pub reader_never_gives : (n : ℕ) → (n ≡ 0 → ⊥) → (0 < n → n < 9 → ⊥) → (n ≡ 11 → ⊥) → (s : List ℕ) → (refusal_of s).number ≡ n → ⊥
unfolding refusal_of
reader_never_gives n some other not11 s e = never_given n some (reader_order s) (without_reader n other not11 s) e

-- ---- the sheet's own refusal as the first rule of a call's order

abbrev pub own_rule : List ℕ → Rule
own_rule s = rule (refusal_of s) (not (eqb (refusal_of s).number 0))

-- it is kept exactly when the sheet is accepted
pub own_kept : (s : List ℕ) → (own_rule s).broken ≡ false → (refusal_of s).number ≡ 0
own_kept s e = eqb-true _ _ (not-false _ e)

pub keep_own : (s : List ℕ) → (refusal_of s).number ≡ 0 → (own_rule s).broken ≡ false
keep_own s e = rw (eq-eqb _ _ e)

-- it gives no other number than the reader's, and none where it is broken
pub own_without : (n : ℕ) → (0 < n → n < 9 → ⊥) → (n ≡ 11 → ⊥) → (s : List ℕ) → (own_rule s).broken ≡ true → (refusal_of s).number ≡ n → ⊥
own_without zero other not11 s b e = eqb-false _ _ (not-true _ b) e
own_without (suc n) other not11 s b e = reader_never_gives (suc n) (not_zero n) other not11 s e

-- a number that no later rule has is given exactly when the reader gives it
pub own_given_exactly_when : (s : List ℕ) (later : List Rule) (n : ℕ) → (n ≡ 0 → ⊥) → Without n later
    → ((first_broken (own_rule s ∷ later)).number ≡ n) ↔ ((refusal_of s).number ≡ n)
unfolding first_broken
own_given_exactly_when s later n some w = (
  by_number_lem (own_rule s).broken (refusal_of s) (first_broken later) n (λ b e. e) (λ b e. absurd (never_given n some later w e)),
  λ e. let b : eqb (refusal_of s).number 0 ≡ false = ne_eqb _ _ (λ z. some (sym e ∙ z)) in rw b e,
)
