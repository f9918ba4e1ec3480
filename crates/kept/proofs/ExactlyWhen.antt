-- When `keep` and `correct` give which number. The rules of both in their order are the sheet's own
-- refusal, 12, 9 and 13; a correction asks 14 after them. One of them answers exactly when it is
-- broken and every rule before it is kept (sheet, `number_given_exactly_when`). Assumes nothing.
use Prim.Native.Nat.{ℕ}
use native.Mathlib.Omega.{arith}
use mathlib.Core.Path.{◌≡◌, refl, sym, ◌∙◌}
use mathlib.Core.Logic.{◌↔◌}
use mathlib.Core.Bool.{Bool, true, false, cond}
use mathlib.Core.List.{List, [], ◌∷◌}
use lib.Dec.{eqb}
use lib.ListN.{length}
use Rattle.tuple.specs.declared.Tuple.{Tuple}
use Rattle.sheet.specs.declared.Refusal.{Refusal}
use Rattle.sheet.specs.Rules.{Rule, rule, of_call, first_broken, refusal_of}
use Rattle.sheet.specs.Given.{Unbroken}
use Rattle.sheet.proofs.Order.{Without, without_rule, Numbered, kept_first, kept-rest, number_given_exactly_when, none_given_exactly_when, own_given_exactly_when, own_rule, own_kept, keep_own, own_without}
use Rattle.chain.specs.Rules.{refusal9}
use Rattle.stretch.specs.Kept.{Kept, corrected_of}
use Rattle.kept.specs.Entries.{refusal12, refusal13, refusal14, kept_order, keep_refusal_of, correct_refusal_of, shift_in, reversed_in, outcome, corrected_as, correct_of}

-- ---- the rules of both entries, whatever is asked after them

module _ (s : List ℕ) (list results track : ℕ) (later : List Rule) where
  abbrev given : ℕ
  given = (first_broken (kept_order s list results track later)).number

  abbrev twelve : Rule
  twelve = rule (of_call 12) (refusal12 s)

  abbrev nine : Rule
  nine = rule (of_call 9) (refusal9 list)

  abbrev thirteen : Rule
  thirteen = rule (of_call 13) (refusal13 list results track)

  own-when : (n : ℕ) → (n ≡ 0 → ⊥) → (n ≡ 12 → ⊥) → (n ≡ 9 → ⊥) → (n ≡ 13 → ⊥) → Without n later → (given ≡ n) ↔ ((refusal_of s).number ≡ n)
  own-when n some not12 not9 not13 w =
      own_given_exactly_when s (twelve ∷ nine ∷ thirteen ∷ later) n some
      (without_rule 12 (λ e. not12 (sym e)) (without_rule 9 (λ e. not9 (sym e)) (without_rule 13 (λ e. not13 (sym e)) w)))

  twelve-when : Without 12 later → (given ≡ 12) ↔ (((refusal_of s).number ≡ 0) × (refusal12 s ≡ true))
  twelve-when w =
      let law =
      number_given_exactly_when (own_rule s ∷ []) twelve (nine ∷ thirteen ∷ later) (λ e. omega arith)
      (Without.next (own_without 12 (λ a b. omega arith) (λ e. omega arith) s) Without.none)
      (without_rule 9 (λ e. omega arith) (without_rule 13 (λ e. omega arith) w)) in (
        λ e. let k = law.0 e in (own_kept s (kept_first k.0), k.1),
        λ h. law.1 (Unbroken.next (keep_own s h.0) Unbroken.none, h.1),
      )

  nine-when : Without 9 later → (given ≡ 9) ↔ (((refusal_of s).number ≡ 0) × (refusal12 s ≡ false) × (refusal9 list ≡ true))
  nine-when w =
      let law =
      number_given_exactly_when (own_rule s ∷ twelve ∷ []) nine (thirteen ∷ later) (λ e. omega arith)
      (Without.next (own_without 9 (λ a b. omega arith) (λ e. omega arith) s) (without_rule 12 (λ e. omega arith) Without.none))
      (without_rule 13 (λ e. omega arith) w) in (
        λ e. let k = law.0 e in (own_kept s (kept_first k.0), kept_first (kept-rest k.0), k.1),
        λ h. law.1 (Unbroken.next (keep_own s h.0) (Unbroken.next h.1 Unbroken.none), h.2),
      )

  thirteen-when : Without 13 later
      → (given ≡ 13) ↔ (((refusal_of s).number ≡ 0) × (refusal12 s ≡ false) × (refusal9 list ≡ false) × (refusal13 list results track ≡ true))
  thirteen-when w =
      let law =
      number_given_exactly_when (own_rule s ∷ twelve ∷ nine ∷ []) thirteen later (λ e. omega arith)
      (Without.next (own_without 13 (λ a b. omega arith) (λ e. omega arith) s)
      (without_rule 12 (λ e. omega arith) (without_rule 9 (λ e. omega arith) Without.none)))
      w in (
        λ e.
            let k = law.0 e in
            (own_kept s (kept_first k.0), kept_first (kept-rest k.0), kept_first (kept-rest (kept-rest k.0)), k.1),
        λ h. law.1 (Unbroken.next (keep_own s h.0) (Unbroken.next h.1 (Unbroken.next h.2 Unbroken.none)), h.3),
      )

  none-when : Numbered later
      → (given ≡ 0)
      ↔ (((refusal_of s).number ≡ 0) × (refusal12 s ≡ false) × (refusal9 list ≡ false) × (refusal13 list results track ≡ false) × Unbroken later)
  none-when w =
      let law =
      none_given_exactly_when (kept_order s list results track later)
      (Without.next (own_without 0 (λ a b. omega arith) (λ e. omega arith) s)
      (without_rule 12 (λ e. omega arith) (without_rule 9 (λ e. omega arith) (without_rule 13 (λ e. omega arith) w)))) in (
        λ e.
            let k = law.0 e in
            let l = kept-rest (kept-rest k) in
            (own_kept s (kept_first k), kept_first (kept-rest k), kept_first l, kept_first (kept-rest l), kept-rest (kept-rest l)),
        λ h. law.1 (Unbroken.next (keep_own s h.0) (Unbroken.next h.1 (Unbroken.next h.2 (Unbroken.next h.3 h.4)))),
      )

-- ---- keep

module _ (s : List ℕ) (old : Kept) where
  abbrev n : ℕ
  n = length old.list

  abbrev broken13 : Bool
  broken13 = refusal13 n (length old.results) (length old.track)

  -- the numbers of the sheet, 1 to 8 and 11: the reader gives them
  pub keep-own-exactly-when : (k : ℕ) → (k ≡ 0 → ⊥) → (k ≡ 12 → ⊥) → (k ≡ 9 → ⊥) → (k ≡ 13 → ⊥)
      → ((keep_refusal_of s old).number ≡ k) ↔ ((refusal_of s).number ≡ k)
  unfolding keep_refusal_of
  keep-own-exactly-when k some not12 not9 not13 = own-when s n _ _ [] k some not12 not9 not13 Without.none

  -- 12: the sheet is accepted, and it is not one Helmert or kind 6 step
  pub keep-twelve-exactly-when : ((keep_refusal_of s old).number ≡ 12) ↔ (((refusal_of s).number ≡ 0) × (refusal12 s ≡ true))
  unfolding keep_refusal_of
  keep-twelve-exactly-when = twelve-when s n _ _ [] Without.none

  -- 9: 12 is kept too, and the list is not of whole tuples or is over 2,048
  pub keep-nine-exactly-when :
      ((keep_refusal_of s old).number ≡ 9) ↔ (((refusal_of s).number ≡ 0) × (refusal12 s ≡ false) × (refusal9 n ≡ true))
  unfolding keep_refusal_of
  keep-nine-exactly-when = nine-when s n _ _ [] Without.none

  -- 13: 9 is kept too, and results or track are not as long as the list
  pub keep-thirteen-exactly-when :
      ((keep_refusal_of s old).number ≡ 13)
      ↔ (((refusal_of s).number ≡ 0) × (refusal12 s ≡ false) × (refusal9 n ≡ false) × (broken13 ≡ true))
  unfolding keep_refusal_of
  keep-thirteen-exactly-when = thirteen-when s n _ _ [] Without.none

  -- no refusal: all of them are kept
  pub kept-exactly-when :
      ((keep_refusal_of s old).number ≡ 0)
      ↔ (((refusal_of s).number ≡ 0) × (refusal12 s ≡ false) × (refusal9 n ≡ false) × (broken13 ≡ false))
  unfolding keep_refusal_of
  kept-exactly-when =
      let law = none-when s n (length old.results) (length old.track) [] Without.none in (
        λ e. let k = law.0 e in (k.0, k.1, k.2, k.3),
        λ h. law.1 (h.0, h.1, h.2, h.3, Unbroken.none),
      )

-- ---- correct

-- corrected or refused, the answer's number is that of the call's refusal
number_of : (b : Bool) (r : Refusal) (n : ℕ) (new old : Kept)
    → (cond b (outcome (corrected_as r n) new) (outcome (corrected_as r 0) old)).answer.refusal.number ≡ r.number
number_of true r n new old = refl
number_of false r n new old = refl

module _ (inverse : Bool) (s : List ℕ) (old : Kept) (index : ℕ) (fix : Tuple) where
  abbrev count : ℕ
  count = length old.list

  abbrev lengths-broken : Bool
  lengths-broken = refusal13 count (length old.results) (length old.track)

  abbrev fourteen : Rule
  fourteen = rule (of_call 14) (refusal14 count index)

  abbrev answered : ℕ
  answered = (correct_of inverse s old index fix).answer.refusal.number

  in_order : answered ≡ given s count (length old.results) (length old.track) (fourteen ∷ [])
  unfolding correct_of correct_refusal_of
  in_order =
      let done = corrected_of (shift_in s) (reversed_in inverse s) old index fix in
      number_of (eqb (correct_refusal_of s old index).number 0) (correct_refusal_of s old index) done.count done.kept old

  through : {n : ℕ} {A : Type 0} → (given s count (length old.results) (length old.track) (fourteen ∷ []) ≡ n) ↔ A → (answered ≡ n) ↔ A
  through law = (λ e. law.0 (sym in_order ∙ e), λ h. in_order ∙ law.1 h)

  -- the numbers of the sheet, 1 to 8 and 11: the reader gives them
  pub correct-own-exactly-when : (k : ℕ) → (k ≡ 0 → ⊥) → (k ≡ 12 → ⊥) → (k ≡ 9 → ⊥) → (k ≡ 13 → ⊥) → (k ≡ 14 → ⊥)
      → (answered ≡ k) ↔ ((refusal_of s).number ≡ k)
  correct-own-exactly-when k some not12 not9 not13 not14 =
      through (own-when s count _ _ (fourteen ∷ []) k some not12 not9 not13 (without_rule 14 (λ e. not14 (sym e)) Without.none))

  -- 12, 9 and 13 as for a fresh run
  pub correct-twelve-exactly-when : (answered ≡ 12) ↔ (((refusal_of s).number ≡ 0) × (refusal12 s ≡ true))
  correct-twelve-exactly-when = through (twelve-when s count _ _ (fourteen ∷ []) (without_rule 14 (λ e. omega arith) Without.none))

  pub correct-nine-exactly-when : (answered ≡ 9) ↔ (((refusal_of s).number ≡ 0) × (refusal12 s ≡ false) × (refusal9 count ≡ true))
  correct-nine-exactly-when = through (nine-when s count _ _ (fourteen ∷ []) (without_rule 14 (λ e. omega arith) Without.none))

  pub correct-thirteen-exactly-when :
      (answered ≡ 13) ↔ (((refusal_of s).number ≡ 0) × (refusal12 s ≡ false) × (refusal9 count ≡ false) × (lengths-broken ≡ true))
  correct-thirteen-exactly-when = through (thirteen-when s count _ _ (fourteen ∷ []) (without_rule 14 (λ e. omega arith) Without.none))

  -- 14: 13 is kept too, and the index is not below the count
  pub fourteen-exactly-when :
      (answered ≡ 14)
      ↔ (((refusal_of s).number ≡ 0) × (refusal12 s ≡ false) × (refusal9 count ≡ false) × (lengths-broken ≡ false) × (refusal14 count index ≡ true))
  fourteen-exactly-when =
      let law =
      number_given_exactly_when (kept_order s count (length old.results) (length old.track) []) fourteen [] (λ e. omega arith)
      (Without.next (own_without 14 (λ a b. omega arith) (λ e. omega arith) s)
      (without_rule 12 (λ e. omega arith) (without_rule 9 (λ e. omega arith) (without_rule 13 (λ e. omega arith) Without.none))))
      Without.none in (
        λ e.
            let k = law.0 (sym in_order ∙ e) in
            let l = kept-rest (kept-rest k.0) in
            (own_kept s (kept_first k.0), kept_first (kept-rest k.0), kept_first l, kept_first (kept-rest l), k.1),
        λ h.
            in_order
            ∙ law.1
            (Unbroken.next (keep_own s h.0) (Unbroken.next h.1 (Unbroken.next h.2 (Unbroken.next h.3 Unbroken.none))), h.4),
      )

  -- no refusal: all of them are kept
  pub corrected-exactly-when :
      (answered ≡ 0)
      ↔ (((refusal_of s).number ≡ 0) × (refusal12 s ≡ false) × (refusal9 count ≡ false) × (lengths-broken ≡ false) × (refusal14 count index ≡ false))
  corrected-exactly-when =
      let law =
      none-when s count (length old.results) (length old.track) (fourteen ∷ []) (without_rule 14 (λ e. omega arith) Without.none) in (
        λ e. let k = law.0 (sym in_order ∙ e) in (k.0, k.1, k.2, k.3, kept_first k.4),
        λ h. in_order ∙ law.1 (h.0, h.1, h.2, h.3, Unbroken.next h.4 Unbroken.none),
      )
