-- When `shift` gives which number. The rules of a call in their order are the sheet's own refusal,
-- 9 and 10, and one of them answers exactly when it is broken and every rule before it is kept
-- (sheet, `number_given_exactly_when`). Assumes nothing.
use Prim.Native.Nat.{ℕ, ◌≤◌, ◌<◌}
use native.Mathlib.Omega.{arith}
use mathlib.Core.Path.{◌≡◌, refl, sym, ◌∙◌}
use mathlib.Core.Logic.{◌↔◌}
use mathlib.Core.Bool.{Bool, true, false, cond}
use mathlib.Core.List.{List, [], ◌∷◌}
use lib.Dec.{eqb, leb}
use lib.ListN.{length}
use lib.Ieee.{Float}
use borrow.Author.Tests.{eqb-true, leb-true, leb-false}
use Rattle.sheet.specs.declared.Refusal.{Refusal}
use Rattle.sheet.specs.Layout.{step_count_of, kind_at, entry_at}
use Rattle.sheet.specs.Rules.{Rule, rule, of_call, first_broken, has_deformation, refusal_of}
use Rattle.sheet.specs.Given.{Unbroken}
use Rattle.sheet.proofs.Order.{Without, without_rule, kept_first, kept-rest, number_given_exactly_when, none_given_exactly_when, own_given_exactly_when, reader_never_gives, own_rule, own_kept, keep_own, own_without}
use Rattle.plans.specs.Lent.{lent_of}
use Rattle.chain.specs.Chain.{Run, chain_of, entries_of}
use Rattle.chain.specs.Rules.{refusal9, refusal10, shift_refusal_of, outcome, refused_answer, ran_outcome, outcome_of, shift_of}

-- run or refused, the answer's number is that of the call's refusal
number_of : (r : Refusal) (run : Run) (l : List Float) (b : Bool) → eqb r.number 0 ≡ b
    → (cond b (ran_outcome run) (outcome (refused_answer r) l)).answer.refusal.number ≡ r.number
number_of r run l true e = sym (eqb-true _ _ e)
number_of r run l false e = refl

module _ (inverse : Bool) (s : List ℕ) (l velocities : List Float) (marks : List ℕ) where
  abbrev given : ℕ
  given = (shift_of inverse s l velocities marks).answer.refusal.number

  abbrev broken10 : Bool
  broken10 = refusal10 (has_deformation (kind_at s) (step_count_of s)) (length l) velocities marks

  abbrev nine : Rule
  nine = rule (of_call 9) (refusal9 (length l))

  abbrev ten : Rule
  ten = rule (of_call 10) broken10

  in_order : given ≡ (first_broken (own_rule s ∷ nine ∷ ten ∷ [])).number
  unfolding shift_of outcome_of shift_refusal_of
  in_order =
      number_of (first_broken (own_rule s ∷ nine ∷ ten ∷ [])) (chain_of inverse (lent_of velocities marks []) (entries_of (entry_at s) (step_count_of s) 0) l) l _ refl

  -- the numbers of the sheet, 1 to 8 and 11: the reader gives them
  pub own-exactly-when : (n : ℕ) → (n ≡ 0 → ⊥) → (n ≡ 9 → ⊥) → (n ≡ 10 → ⊥) → (given ≡ n) ↔ ((refusal_of s).number ≡ n)
  own-exactly-when n some not9 not10 =
      let law =
      own_given_exactly_when s (nine ∷ ten ∷ []) n some
      (without_rule 9 (λ e. not9 (sym e)) (without_rule 10 (λ e. not10 (sym e)) Without.none)) in (
        λ e. law.0 (sym in_order ∙ e),
        λ h. in_order ∙ law.1 h,
      )

  -- 9: the sheet is accepted, and the list is not of whole tuples or is over 2,048
  pub nine-exactly-when : (given ≡ 9) ↔ (((refusal_of s).number ≡ 0) × (refusal9 (length l) ≡ true))
  nine-exactly-when =
      let law =
      number_given_exactly_when (own_rule s ∷ []) nine (ten ∷ []) (λ e. omega arith)
      (Without.next (own_without 9 (λ a b. omega arith) (λ e. omega arith) s) Without.none)
      (without_rule 10 (λ e. omega arith) Without.none) in (
        λ e. let k = law.0 (sym in_order ∙ e) in (own_kept s (kept_first k.0), k.1),
        λ h. in_order ∙ law.1 (Unbroken.next (keep_own s h.0) Unbroken.none, h.1),
      )

  -- 10: the sheet is accepted, 9 is kept, and velocities or marks are of a wrong length or a mark
  -- is over 1
  pub ten-exactly-when : (given ≡ 10) ↔ (((refusal_of s).number ≡ 0) × (refusal9 (length l) ≡ false) × (broken10 ≡ true))
  ten-exactly-when =
      let law =
      number_given_exactly_when (own_rule s ∷ nine ∷ []) ten [] (λ e. omega arith)
      (Without.next (own_without 10 (λ a b. omega arith) (λ e. omega arith) s) (without_rule 9 (λ e. omega arith) Without.none))
      Without.none in (
        λ e. let k = law.0 (sym in_order ∙ e) in (own_kept s (kept_first k.0), kept_first (kept-rest k.0), k.1),
        λ h. in_order ∙ law.1 (Unbroken.next (keep_own s h.0) (Unbroken.next h.1 Unbroken.none), h.2),
      )

  -- no refusal: the sheet is accepted, and 9 and 10 are kept
  pub shifted-exactly-when : (given ≡ 0) ↔ (((refusal_of s).number ≡ 0) × (refusal9 (length l) ≡ false) × (broken10 ≡ false))
  shifted-exactly-when =
      let law =
      none_given_exactly_when (own_rule s ∷ nine ∷ ten ∷ [])
      (Without.next (own_without 0 (λ a b. omega arith) (λ e. omega arith) s)
      (without_rule 9 (λ e. omega arith) (without_rule 10 (λ e. omega arith) Without.none))) in (
        λ e.
            let k = law.0 (sym in_order ∙ e) in
            (own_kept s (kept_first k), kept_first (kept-rest k), kept_first (kept-rest (kept-rest k))),
        λ h. in_order ∙ law.1 (Unbroken.next (keep_own s h.0) (Unbroken.next h.1 (Unbroken.next h.2 Unbroken.none))),
      )

  -- no number past 11 is given
  pub no-number-past-eleven : given ≤ 11
  no-number-past-eleven = by-case (leb given 11) refl
    where
      by-case : (b : Bool) → leb given 11 ≡ b → given ≤ 11
      by-case true e = leb-true _ _ e
      by-case false e =
          let past : 11 < given = leb-false _ _ e in
          let own = (own-exactly-when given (λ z. omega arith) (λ z. omega arith) (λ z. omega arith)).0 refl in
          absurd (reader_never_gives given (λ z. omega arith) (λ a b. omega arith) (λ z. omega arith) s own)
