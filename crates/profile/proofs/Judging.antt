-- The order of a sheet under a profile, as the loop and `check` go through it: the reader's order
-- with the profile's rules between 8 and 11. Assumes nothing.
use mathlib.Core.Path.{◌≡◌, refl, sym, ap, ◌∙◌}
use Prim.Native.Nat.{ℕ, zero, suc, ◌+◌, ◌<◌, ◌≤◌}
use mathlib.Core.List.{List, [], ◌∷◌, ◌++◌}
use mathlib.Core.Bool.{Bool, true, false, not, cond, ◌&&◌, true≢false}
use native.Mathlib.Omega.{arith}
use borrow.Author.Tests.{eqb-true, eqb-false, not-true}
use lib.Dec.{eqb}
use Rattle.bodies.specs.declared.Step.{Step}
use Rattle.sheet.specs.declared.Refusal.{Refusal}
use Rattle.sheet.specs.Layout.{step_count_of, kind_at, step_at}
use Rattle.sheet.specs.Rules.{Rule, rule, accepted, of_call, of_step, refusal3, refusal5_at, elevens, reader_order, first_broken, refusal_of, unless}
use Rattle.sheet.specs.Given.{Unbroken}
use Rattle.sheet.proofs.Order.{Without, Numbered, without_rule, without-steps, without_elevens, kept_then, broken_first, all_kept, never_given, count_kept}
use Rattle.sheet.proofs.Unless.{accepts, refuses}
use Rattle.std.specs.Prelude.{Result, MatchResult}
use Rattle.std.proofs.lemmas.Result.{MatchResult-at_ok, MatchResult-at_err}
use Rattle.profile.specs.Profile.{refusal25, twenty_fives, profile_rules, up_to_eight, profile_order, profile_refusal_of}

-- ---- a turn of the loop

module _ (step : ℕ → Step) where
  pub offence-on : (n k i : ℕ) → n ≡ suc k → refusal25 (step i) ≡ false → first_broken (twenty_fives step n i) ≡ first_broken (twenty_fives step k (i + 1))
  unfolding twenty_fives first_broken
  offence-on n k i e p = rw (e, p)

  pub offence-off : (n k i : ℕ) → n ≡ suc k → refusal25 (step i) ≡ true → first_broken (twenty_fives step n i) ≡ of_step 25 i
  unfolding twenty_fives first_broken
  offence-off n k i e p = rw (e, p)

  pub offence-end : (n i : ℕ) → n ≡ 0 → first_broken (twenty_fives step n i) ≡ accepted
  unfolding twenty_fives first_broken
  offence-end n i e = rw e

-- ---- the numbers that each part gives

pub without_eight : (n : ℕ) → (0 < n → n < 9 → ⊥) → (s : List ℕ) → Without n (up_to_eight s)
unfolding up_to_eight
without_eight n other s =
    without_rule 1 (λ e. other (omega arith) (omega arith))
    (without_rule 2 (λ e. other (omega arith) (omega arith))
    (without_rule 3 (λ e. other (omega arith) (omega arith))
    (without_rule 4 (λ e. other (omega arith) (omega arith))
    (without-steps n (λ a b. other (omega arith) b) (refusal5_at s) (step_at s) (step_count_of s) 0))))

pub numbered_eight : (s : List ℕ) → Numbered (up_to_eight s)
numbered_eight = without_eight 0 (λ a b. omega arith)

pub without_25s : (n : ℕ) → (n ≡ 25 → ⊥) → (step : ℕ → Step) (k i : ℕ) → Without n (twenty_fives step k i)
unfolding twenty_fives
without_25s n other step zero i = Without.none
without_25s n other step (suc k) i = without_rule 25 (λ e. other (sym e)) (without_25s n other step k (i + 1))

pub without_profile : (n : ℕ) → (n ≡ 25 → ⊥) → (profile : ℕ) (s : List ℕ) → Without n (profile_rules profile s)
unfolding profile_rules
without_profile n other profile s = by-case (eqb profile 0) (eqb profile 1)
  where
    by-case : (a b : Bool) → Without n (cond a [] (cond b (twenty_fives (step_at s) (step_count_of s) 0) (rule (of_call 25) true ∷ [])))
    by-case true b = Without.none
    by-case false true = without_25s n other (step_at s) (step_count_of s) 0
    by-case false false = without_rule 25 (λ e. other (sym e)) Without.none

-- ---- the reader's order is 1 to 8, then 11

module _ (s : List ℕ) where
  abbrev the_elevens : List Rule
  the_elevens = elevens (kind_at s) (step_count_of s) 0

  pub reader-is : refusal_of s ≡ first_broken (up_to_eight s ++ the_elevens)
  unfolding refusal_of reader_order up_to_eight
  reader-is = refl

  -- where 1 to 8 are kept 11 answers
  pub reader-left : (first_broken (up_to_eight s)).number ≡ 0 → refusal_of s ≡ first_broken the_elevens
  reader-left z = reader-is ∙ kept_then (up_to_eight s) the_elevens (numbered_eight s) z

  pub reader-first : ((first_broken (up_to_eight s)).number ≡ 0 → ⊥) → refusal_of s ≡ first_broken (up_to_eight s)
  reader-first h = reader-is ∙ broken_first (up_to_eight s) the_elevens h

  -- another number than 0 and 11 is one of 1 to 8
  eight-broken : ((refusal_of s).number ≡ 0 → ⊥) → ((refusal_of s).number ≡ 11 → ⊥) → (first_broken (up_to_eight s)).number ≡ 0 → ⊥
  eight-broken some not11 z =
      never_given (refusal_of s).number some the_elevens (without_elevens (refusal_of s).number not11 (kind_at s) (step_count_of s) 0)
      (ap (λ (r : Refusal). r.number) (sym (reader-left z)))

  abbrev is_other : Refusal → Bool
  is_other r = not (eqb r.number 0) && not (eqb r.number 11)

  both : (a b : Bool) → (a && b) ≡ true → (a ≡ true) × (b ≡ true)
  both true true e = (refl, refl)
  both true false e = absurd (true≢false (sym e))
  both false b e = absurd (true≢false (sym e))

  one_of : {A : Type 0} (n : ℕ) → (not (eqb n 0) && not (eqb n 11)) ≡ false → (n ≡ 0 → A) → (n ≡ 11 → A) → A
  one_of {A} n e p q = by-case (eqb n 0) (eqb n 11) refl refl
    where
      by-case : (a b : Bool) → eqb n 0 ≡ a → eqb n 11 ≡ b → A
      by-case true b x y = p (eqb-true n 0 x)
      by-case false true x y = q (eqb-true n 11 y)
      by-case false false x y =
          let z : (not (eqb n 0) && not (eqb n 11)) ≡ true = rw (x, y) in
          absurd (true≢false (sym z ∙ e))

  -- where the reader gives 0 or 11 every rule from 1 to 8 is kept
  pub kept-to-eight : (r : Refusal) → r ≡ refusal_of s → is_other r ≡ false → (first_broken (up_to_eight s)).number ≡ 0
  kept-to-eight r e h = by-case (eqb (first_broken (up_to_eight s)).number 0) refl
    where
      by-case : (b : Bool) → eqb (first_broken (up_to_eight s)).number 0 ≡ b → (first_broken (up_to_eight s)).number ≡ 0
      by-case true z = eqb-true _ _ z
      by-case false z =
          let some = eqb-false _ _ z in
          let same : r.number ≡ (first_broken (up_to_eight s)).number = ap (λ (x : Refusal). x.number) (e ∙ reader-first some) in
          one_of r.number h (λ n. absurd (some (sym same ∙ n)))
          (λ n. absurd (never_given 11 (λ x. omega arith) (up_to_eight s) (without_eight 11 (λ a b. omega arith) s) (sym same ∙ n)))

  kept-three : Unbroken (up_to_eight s) → refusal3 (step_count_of s) ≡ false
  unfolding up_to_eight
  kept-three (Unbroken.next a (Unbroken.next b (Unbroken.next c k))) = c

  pub kept_count : (first_broken (up_to_eight s)).number ≡ 0 → step_count_of s ≤ 16
  kept_count z = (count_kept (step_count_of s) (kept-three (all_kept (up_to_eight s) (numbered_eight s) z))).1

  module _ (profile : ℕ) where
    -- one of 1 to 8 answers, whatever the profile
    pub eight-answers : ((first_broken (up_to_eight s)).number ≡ 0 → ⊥) → profile_refusal_of profile s ≡ first_broken (up_to_eight s)
    unfolding profile_refusal_of profile_order
    eight-answers h = broken_first (up_to_eight s) (profile_rules profile s ++ the_elevens) h

    pub own-answers : (r : Refusal) → r ≡ refusal_of s → is_other r ≡ true → profile_refusal_of profile s ≡ r
    own-answers r e h =
        let k = both (not (eqb r.number 0)) (not (eqb r.number 11)) h in
        let same : r.number ≡ (refusal_of s).number = ap (λ (x : Refusal). x.number) e in
        let broken = eight-broken (λ z. eqb-false _ _ (not-true _ k.0) (same ∙ z)) (λ z. eqb-false _ _ (not-true _ k.1) (same ∙ z)) in
        eight-answers broken ∙ sym (e ∙ reader-first broken)

    module _ (kept : (first_broken (up_to_eight s)).number ≡ 0) where
      pub left-to-profile : profile_refusal_of profile s ≡ first_broken (profile_rules profile s ++ the_elevens)
      unfolding profile_refusal_of profile_order
      left-to-profile = kept_then (up_to_eight s) (profile_rules profile s ++ the_elevens) (numbered_eight s) kept

      -- the profile answers
      pub profile-answers : (q : Refusal) → q ≡ first_broken (profile_rules profile s) → (q.number ≡ 0 → ⊥) → profile_refusal_of profile s ≡ q
      profile-answers q e h = left-to-profile ∙ broken_first (profile_rules profile s) the_elevens (rw e at h) ∙ sym e

      -- or the reader does, by 11 or not at all
      pub reader-answers : (q : Refusal) → q ≡ first_broken (profile_rules profile s) → q.number ≡ 0 → profile_refusal_of profile s ≡ refusal_of s
      reader-answers q e h =
          left-to-profile
          ∙ kept_then (profile_rules profile s) the_elevens (without_profile 0 (λ z. omega arith) profile s) (rw e at h)
          ∙ sym (reader-left kept)

  -- an answer of `check`, and whether it is a refusal by another number than 11
  module _ {A : Type 0} (x : A) (out : Result A Refusal) (o : out ≡ unless (refusal_of s) x) (other : Bool)
      (said : MatchResult out (λ y. other ≡ false) (λ e. other ≡ not (eqb e.number 11))) where
    told : is_other (refusal_of s) ≡ other
    told = by-case (eqb (refusal_of s).number 0) refl
      where
        by-case : (b : Bool) → eqb (refusal_of s).number 0 ≡ b → is_other (refusal_of s) ≡ other
        by-case true z =
            let no = MatchResult-at_ok (λ (y : A). other ≡ false) (λ (e : Refusal). other ≡ not (eqb e.number 11)) x (o ∙ accepts (refusal_of s) x (eqb-true _ _ z)) said in
            rw z (sym no)
        by-case false z =
            let is = MatchResult-at_err (λ (y : A). other ≡ false) (λ (e : Refusal). other ≡ not (eqb e.number 11)) (refusal_of s) (o ∙ refuses (refusal_of s) x (eqb-false _ _ z)) said in
            rw z (sym is)

    -- another refusal answers, whatever the profile
    pub other-answers : (profile : ℕ) → other ≡ true → profile_refusal_of profile s ≡ refusal_of s
    other-answers profile e = own-answers profile (refusal_of s) refl (told ∙ e)

    -- else every rule from 1 to 8 is kept
    pub eight_kept : other ≡ false → (first_broken (up_to_eight s)).number ≡ 0
    eight_kept e = kept-to-eight (refusal_of s) refl (told ∙ e)
