-- What is true of a sheet under a profile, for callers to cite: who passes, when 25 is given and
-- with which step, where 25 stands in the order, and that without a profile the answer is the
-- reader's. Assumes nothing.
use mathlib.Core.Path.{◌≡◌, refl, sym, ap, ◌∙◌, subst}
use mathlib.Core.Logic.{◌↔◌}
use Prim.Native.Nat.{ℕ, zero, suc, ◌+◌, ◌<◌}
use mathlib.Core.List.{List, ◌++◌}
use mathlib.Core.Bool.{Bool, true, false, not, ◌&&◌, ◌||◌, true≢false}
use native.Mathlib.Omega.{arith}
use native.Mathlib.Nat.{add-zero, zero-add}
use borrow.Author.Tests.{eqb-true, eqb-false, ne_eqb}
use lib.Dec.{eqb}
use Rattle.helmert.specs.declared.Helmert.{Helmert as HelmertRecord}
use Rattle.helmert.specs.Record.{exact_of, own_epoch_of}
use Rattle.helmert.specs.Units.{parameters_of}
use Rattle.helmert.specs.Rules.{dynamic_of}
use Rattle.bodies.specs.declared.Step.{Step}
use Rattle.bodies.specs.declared.Step.TheVariants.{Cart, Permtide, Deformation, Molodensky, Badekas, Helmert}
use Rattle.sheet.specs.declared.Refusal.{Refusal}
use Rattle.sheet.specs.Layout.{step_count_of, kind_at, step_at}
use Rattle.sheet.specs.Rules.{Rule, of_call, of_step, elevens, reader_order, first_broken, refusal_of}
use Rattle.sheet.specs.Given.{Unbroken}
use Rattle.sheet.proofs.Order.{Numbered, without_append, without_elevens, kept_then, broken_first, all_kept, none_broken, kept_append, kept_left, kept_right, neither, never_given}
use Rattle.profile.specs.Profile.{helmert_offends, refusal25, twenty_fives, profile_rules, up_to_eight, profile_order, profile_refusal_of}
use Rattle.profile.specs.Chart.{LetsThrough, FirstOffence}
use Rattle.profile.proofs.Judging.{numbered_eight, without_eight, without_25s, without_profile, reader-is, reader-first, eight-answers, profile-answers}

-- ---- without a profile

-- "only where the profile was asked for"
pub no_profile_is_the_reader : (s : List ℕ) → profile_refusal_of 0 s ≡ refusal_of s
unfolding profile_refusal_of profile_order profile_rules up_to_eight refusal_of reader_order
no_profile_is_the_reader s = refl

-- ---- a step in words

not_offending : (exact dynamic own : Bool) → (exact || (dynamic && not own)) ≡ false → (exact ≡ false) × ((dynamic && not own) ≡ false)
not_offending exact dynamic own e = neither exact (dynamic && not own) e

helmert_through : (h : HelmertRecord) (exact dynamic own : Bool) → exact_of h ≡ exact → dynamic_of (parameters_of h) ≡ dynamic → own_epoch_of h ≡ own
    → (exact || (dynamic && not own)) ≡ false → LetsThrough (Helmert h)
helmert_through h true dynamic own a b c e = absurd (true≢false e)
helmert_through h false true true a b c e = LetsThrough.own_epoch a c
helmert_through h false true false a b c e = absurd (true≢false e)
helmert_through h false false own a b c e = LetsThrough.not_dynamic a b

and_no : (b : Bool) → (b && false) ≡ false
and_no true = refl
and_no false = refl

through-kept : (step : Step) → LetsThrough step → refusal25 step ≡ false
unfolding refusal25 helmert_offends
through-kept step LetsThrough.a-cart = refl
through-kept step (LetsThrough.own_epoch {h = h} a c) = rw (a, c) (and_no (dynamic_of (parameters_of h)))
through-kept step (LetsThrough.not_dynamic a b) = rw (a, b)

kept-through : (step : Step) → refusal25 step ≡ false → LetsThrough step
unfolding refusal25 helmert_offends
kept-through (Helmert h) e = helmert_through h (exact_of h) (dynamic_of (parameters_of h)) (own_epoch_of h) refl refl refl e
kept-through (Cart r) e = LetsThrough.a-cart
kept-through (Molodensky r) e = absurd (true≢false e)
kept-through (Permtide r) e = absurd (true≢false e)
kept-through (Deformation r) e = absurd (true≢false e)
kept-through (Badekas r) e = absurd (true≢false e)

-- a step does not offend exactly when the rules in words hold of it
pub lets_through_exactly_when : (step : Step) → (refusal25 step ≡ false) ↔ LetsThrough step
lets_through_exactly_when step = (kept-through step, through-kept step)

-- ---- every step, and the first that offends

shift : (i j : ℕ) → i + 1 + j ≡ i + suc j
shift i j = omega arith

module _ (step : ℕ → Step) where
  each-through : (k i j : ℕ) → Unbroken (twenty_fives step k i) → j < k → refusal25 (step (i + j)) ≡ false
  unfolding twenty_fives
  each-through zero i j h l = absurd (omega arith)
  each-through (suc k) i zero (Unbroken.next a h) l = rw add-zero a
  each-through (suc k) i (suc j) (Unbroken.next a h) l =
      subst (λ (m : ℕ). refusal25 (step m) ≡ false) (shift i j) (each-through k (i + 1) j h (omega arith))

  every-through : (k i : ℕ) → ((j : ℕ) → j < k → refusal25 (step (i + j)) ≡ false) → Unbroken (twenty_fives step k i)
  unfolding twenty_fives
  every-through zero i h = Unbroken.none
  every-through (suc k) i h =
      Unbroken.next (rw add-zero at (h 0 (omega arith)))
      (every-through k (i + 1) (λ j l. subst (λ (m : ℕ). refusal25 (step m) ≡ false) (sym (shift i j)) (h (suc j) (omega arith))))

  offence-answers : (k i j : ℕ) → FirstOffence step k i j → first_broken (twenty_fives step k i) ≡ of_step 25 (i + j)
  unfolding twenty_fives first_broken
  offence-answers zero i j f = let l = f.there in absurd (omega arith)
  offence-answers (suc k) i zero f = let o : refusal25 (step i) ≡ true = rw add-zero at f.offends in rw o (ap (of_step 25) (sym (add-zero i)))
  offence-answers (suc k) i (suc j) f =
      let o : refusal25 (step i) ≡ false = rw add-zero at (f.none_before 0 (omega arith)) in
      let l = f.there in
      rw o
      (offence-answers k (i + 1) j
      (record {
        there = omega arith;
        offends = subst (λ (m : ℕ). refusal25 (step m) ≡ true) (sym (shift i j)) f.offends;
        none_before = λ m h. subst (λ (n : ℕ). refusal25 (step n) ≡ false) (sym (shift i m)) (f.none_before (suc m) (omega arith));
      })
      ∙ ap (of_step 25) (shift i j))

  offence-found : (k i : ℕ) → (first_broken (twenty_fives step k i)).number ≡ 25 → (j : ℕ) × FirstOffence step k i j
  unfolding twenty_fives first_broken
  offence-found zero i e = absurd (omega arith)
  offence-found (suc k) i e = by-case (refusal25 (step i)) refl (λ z. offence-found k (i + 1) z)
    where
      before : refusal25 (step i) ≡ false → (j : ℕ) → FirstOffence step k (i + 1) j → (m : ℕ) → m < suc j → refusal25 (step (i + m)) ≡ false
      before o j f zero h = rw add-zero o
      before o j f (suc m) h = subst (λ (n : ℕ). refusal25 (step n) ≡ false) (shift i m) (f.none_before m (omega arith))

      by-case : (b : Bool) → refusal25 (step i) ≡ b → ((first_broken (twenty_fives step k (i + 1))).number ≡ 25 → (j : ℕ) × FirstOffence step k (i + 1) j)
          → (j : ℕ) × FirstOffence step (suc k) i j
      by-case true o later = (0, record { there = omega arith; offends = rw add-zero o; none_before = λ m h. absurd (omega arith) })
      by-case false o later =
          let found = later (rw o at e) in
          let l = found.1.there in (
            suc found.0,
            record {
              there = omega arith;
              offends = subst (λ (m : ℕ). refusal25 (step m) ≡ true) (shift i found.0) found.1.offends;
              none_before = before o found.0 found.1;
            },
          )

-- ---- the chart profile

module _ (s : List ℕ) where
  abbrev its-elevens : List Rule
  its-elevens = elevens (kind_at s) (step_count_of s) 0

  abbrev offences : List Rule
  offences = twenty_fives (step_at s) (step_count_of s) 0

  chart-rules : profile_rules 1 s ≡ offences
  unfolding profile_rules
  chart-rules = refl

  chart-order : profile_refusal_of 1 s ≡ first_broken (up_to_eight s ++ (offences ++ its-elevens))
  unfolding profile_refusal_of profile_order profile_rules
  chart-order = refl

  chart-left : (first_broken (up_to_eight s)).number ≡ 0 → profile_refusal_of 1 s ≡ first_broken (offences ++ its-elevens)
  chart-left kept = chart-order ∙ kept_then (up_to_eight s) (offences ++ its-elevens) (numbered_eight s) kept

  -- A sheet passes exactly when the reader accepts it and the profile's rules hold of every step.
  pub passes-exactly-when : ((profile_refusal_of 1 s).number ≡ 0) ↔ (((refusal_of s).number ≡ 0) × ((i : ℕ) → i < step_count_of s → LetsThrough (step_at s i)))
  passes-exactly-when = (to, back)
    where
      kept-elevens : Numbered its-elevens
      kept-elevens = without_elevens 0 (λ x. omega arith) (kind_at s) (step_count_of s) 0

      numbered : Numbered (up_to_eight s ++ (offences ++ its-elevens))
      numbered =
          without_append {l = up_to_eight s} (numbered_eight s)
          (without_append {l = offences} (without_25s 0 (λ x. omega arith) (step_at s) (step_count_of s) 0) kept-elevens)

      to : (profile_refusal_of 1 s).number ≡ 0 → ((refusal_of s).number ≡ 0) × ((i : ℕ) → i < step_count_of s → LetsThrough (step_at s i))
      to z =
          let all = all_kept (up_to_eight s ++ (offences ++ its-elevens)) numbered (rw chart-order at z) in
          let eight = kept_left (up_to_eight s) (offences ++ its-elevens) all in
          let rest = kept_right (up_to_eight s) (offences ++ its-elevens) all in (
            ap (λ (r : Refusal). r.number) (reader-is s ∙ none_broken (up_to_eight s ++ its-elevens) (kept_append eight (kept_right offences its-elevens rest))),
            λ i h.
                kept-through (step_at s i)
                (rw zero-add at (each-through (step_at s) (step_count_of s) 0 i (kept_left offences its-elevens rest) h)),
          )

      back : ((refusal_of s).number ≡ 0) × ((i : ℕ) → i < step_count_of s → LetsThrough (step_at s i)) → (profile_refusal_of 1 s).number ≡ 0
      back p =
          let all =
          all_kept (up_to_eight s ++ its-elevens) (without_append {l = up_to_eight s} (numbered_eight s) kept-elevens)
          (rw (reader-is s) at p.0) in
          let through = every-through (step_at s) (step_count_of s) 0 (λ j l. rw zero-add (through-kept (step_at s j) (p.1 j l))) in
          ap (λ (r : Refusal). r.number)
          (chart-order
          ∙ none_broken (up_to_eight s ++ (offences ++ its-elevens))
          (kept_append (kept_left (up_to_eight s) its-elevens all) (kept_append through (kept_right (up_to_eight s) its-elevens all))))

  -- 25 carries step i exactly when 1 to 8 are kept, step i offends and no step before it does.
  pub twenty-five-exactly-when : (i : ℕ) → (profile_refusal_of 1 s ≡ of_step 25 i) ↔ (Unbroken (up_to_eight s) × FirstOffence (step_at s) (step_count_of s) 0 i)
  twenty-five-exactly-when i = (to, back)
    where
      back : Unbroken (up_to_eight s) × FirstOffence (step_at s) (step_count_of s) 0 i → profile_refusal_of 1 s ≡ of_step 25 i
      back p =
          profile-answers s 1 (ap (λ (r : Refusal). r.number) (none_broken (up_to_eight s) p.0)) (of_step 25 i)
          (sym (ap first_broken chart-rules ∙ offence-answers (step_at s) (step_count_of s) 0 i p.1 ∙ ap (of_step 25) (zero-add i))) (λ z. omega arith)

      to : profile_refusal_of 1 s ≡ of_step 25 i → Unbroken (up_to_eight s) × FirstOffence (step_at s) (step_count_of s) 0 i
      to e = by-eight (eqb (first_broken (up_to_eight s)).number 0) refl
        where
          number : (profile_refusal_of 1 s).number ≡ 25
          number = ap (λ (r : Refusal). r.number) e

          by-offence : (first_broken (up_to_eight s)).number ≡ 0 → (b : Bool) → eqb (first_broken offences).number 0 ≡ b → FirstOffence (step_at s) (step_count_of s) 0 i
          by-offence kept true z =
              absurd (never_given 25 (λ x. omega arith) its-elevens (without_elevens 25 (λ x. omega arith) (kind_at s) (step_count_of s) 0)
              (ap (λ (r : Refusal). r.number)
              (sym (chart-left kept ∙ kept_then offences its-elevens (without_25s 0 (λ x. omega arith) (step_at s) (step_count_of s) 0) (eqb-true _ _ z)))
              ∙ number))
          by-offence kept false z =
              let answers : profile_refusal_of 1 s ≡ first_broken offences = chart-left kept ∙ broken_first offences its-elevens (eqb-false _ _ z) in
              let found = offence-found (step_at s) (step_count_of s) 0 (ap (λ (r : Refusal). r.number) (sym answers) ∙ number) in
              let same : 0 + found.0 + 1 ≡ i + 1 =
              ap (λ (r : Refusal). r.step) (sym (offence-answers (step_at s) (step_count_of s) 0 found.0 found.1) ∙ sym answers ∙ e) in
              subst (FirstOffence (step_at s) (step_count_of s) 0) (omega arith) found.1

          by-eight : (b : Bool) → eqb (first_broken (up_to_eight s)).number 0 ≡ b → Unbroken (up_to_eight s) × FirstOffence (step_at s) (step_count_of s) 0 i
          by-eight true z =
              let kept = eqb-true _ _ z in
              (all_kept (up_to_eight s) (numbered_eight s) kept, by-offence kept (eqb (first_broken offences).number 0) refl)
          by-eight false z =
              absurd (never_given 25 (λ x. omega arith) (up_to_eight s) (without_eight 25 (λ a b. omega arith) s)
              (ap (λ (r : Refusal). r.number) (sym (eight-answers s 1 (eqb-false _ _ z))) ∙ number))

-- ---- after 8 and before 11, under any profile

module _ (s : List ℕ) (profile : ℕ) where
  pub numbered-order : Numbered (profile_order profile s)
  unfolding profile_order
  numbered-order =
      without_append {l = up_to_eight s} (numbered_eight s)
      (without_append {l = profile_rules profile s} (without_profile 0 (λ x. omega arith) profile s) (without_elevens 0 (λ x. omega arith) (kind_at s) (step_count_of s) 0))

  order-kept : (profile_refusal_of profile s).number ≡ 0 → Unbroken (up_to_eight s ++ (profile_rules profile s ++ elevens (kind_at s) (step_count_of s) 0))
  unfolding profile_refusal_of profile_order
  order-kept z = all_kept (profile_order profile s) numbered-order z

  -- a sheet that passes any profile passes the reader
  pub passed-is-read : (profile_refusal_of profile s).number ≡ 0 → (refusal_of s).number ≡ 0
  passed-is-read z =
      let all = order-kept z in
      let rest = kept_right (up_to_eight s) (profile_rules profile s ++ elevens (kind_at s) (step_count_of s) 0) all in
      ap (λ (r : Refusal). r.number)
      (reader-is s
      ∙ none_broken (up_to_eight s ++ elevens (kind_at s) (step_count_of s) 0)
      (kept_append (kept_left (up_to_eight s) (profile_rules profile s ++ elevens (kind_at s) (step_count_of s) 0) all)
      (kept_right (profile_rules profile s) (elevens (kind_at s) (step_count_of s) 0) rest)))

  -- where one of 1 to 8 is broken it is answered, as the reader does
  pub twenty-five-comes-after-eight : ((first_broken (up_to_eight s)).number ≡ 0 → ⊥) → profile_refusal_of profile s ≡ refusal_of s
  twenty-five-comes-after-eight h = eight-answers s profile h ∙ sym (reader-first s h)

  -- where they are kept and the profile refuses, 25 is answered, whether or not 11 is broken
  pub twenty-five-comes-before-eleven : Unbroken (up_to_eight s) → ((first_broken (profile_rules profile s)).number ≡ 0 → ⊥)
      → profile_refusal_of profile s ≡ first_broken (profile_rules profile s)
  twenty-five-comes-before-eleven kept h =
      profile-answers s profile (ap (λ (r : Refusal). r.number) (none_broken (up_to_eight s) kept)) (first_broken (profile_rules profile s)) refl h

  -- nobody knows another profile: no sheet passes it, and no step is named
  pub unknown-profile-refuses : (profile ≡ 0 → ⊥) → (profile ≡ 1 → ⊥) → Unbroken (up_to_eight s) → profile_refusal_of profile s ≡ of_call 25
  unfolding profile_rules first_broken
  unknown-profile-refuses a b kept =
      profile-answers s profile (ap (λ (r : Refusal). r.number) (none_broken (up_to_eight s) kept)) (of_call 25) (rw (ne_eqb profile 0 a, ne_eqb profile 1 b)) (λ z. omega arith)
