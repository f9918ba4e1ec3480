-- What is true of bodies as they are read, for callers to cite: the parts of rule 5, what a body of
-- each kind and length reads as, and the lowest rule that is broken. Assumes nothing.
use mathlib.Core.Path.{◌≡◌, refl, sym, ◌∙◌, subst}
use Prim.Native.Nat.{ℕ}
use mathlib.Core.Bool.{Bool, true, false, not, cond, ◌&&◌}
use mathlib.Core.List.{List}
use lib.Dec.{T, eqb}
use lib.ListN.{length}
use borrow.Author.Tests.{eq-eqb, eqb-true, eqb-false}
use Rattle.bodies.specs.declared.Step.TheVariants.{Cart, Permtide, Deformation, Molodensky, Badekas, Helmert}
use Rattle.bodies.specs.Kinds.{length_of, kind_of}
use Rattle.bodies.specs.Read.{helmert_of, cart_of, molodensky_of, permtide_of, deformation_of, badekas_of, helmert_in, cart_in, molodensky_in, permtide_in, deformation_in, badekas_in, step_of}
use Rattle.bodies.specs.Rules.{step_in_rule, written_in_rule, body_in_rule, lacks_convention, lacks_epoch, lacks_duration, lowest_broken, lowest_of, some_rule}
use Rattle.words.specs.Words.{word32, one_nan_at}
use Rattle.helmert.specs.Rules.{fields_in_rule_of, lacks_convention_of, lacks_epoch_of}
use Rattle.cart.specs.Record.{in_rule_of as cart_in_rule_of}
use Rattle.molodensky.specs.Record.{in_rule_of as molodensky_in_rule_of}
use Rattle.permtide.specs.Record.{in_rule_of as permtide_in_rule_of}
use Rattle.deformation.specs.Record.{in_rule_of as deformation_in_rule_of, neither_of}
use Rattle.badekas.specs.Rules.{fields_in_rule_of as badekas_in_rule_of, lacks_convention_of as badekas_lacks_convention_of}
use Rattle.std.specs.Prelude.{Some, None}
use Rattle.std.specs.Option.{option_eq}

-- ---- two tests

pub left : (a b : Bool) → a && b ≡ true → a ≡ true
left true b h = refl
left false b h = h

pub right : (a b : Bool) → a && b ≡ true → b ≡ true
right true b h = h
right false b h = absurd (subst T (sym h) tt)

-- ---- a body in rule

-- a kind is one of the six, or none of them
pub by_kind : (P : ℕ → Type 0) (k : ℕ) → P 1 → P 2 → P 3 → P 4 → P 5 → P 6
    → (eqb k 1 ≡ false → eqb k 2 ≡ false → eqb k 3 ≡ false → eqb k 4 ≡ false → eqb k 5 ≡ false → eqb k 6 ≡ false → P k) → P k
by_kind P k p1 p2 p3 p4 p5 p6 other =
    is 1 p1 (λ e1. is 2 p2 (λ e2. is 3 p3 (λ e3. is 4 p4 (λ e4. is 5 p5 (λ e5. is 6 p6 (λ e6. other e1 e2 e3 e4 e5 e6))))))
  where
    is : (n : ℕ) → P n → (eqb k n ≡ false → P k) → P k
    is n p q = by (eqb k n) refl
      where
        by : (t : Bool) → eqb k n ≡ t → P k
        by true e = subst P (sym (eqb-true k n e)) p
        by false e = q e

-- the parts of rule 5 on a body
pub length_in_rule : (k : ℕ) (b : List ℕ) → body_in_rule k b ≡ true → length b ≡ length_of k
unfolding body_in_rule
length_in_rule k b h =
    eqb-true (length b) (length_of k) (left (eqb (length b) (length_of k)) (written_in_rule k b) (left (eqb (length b) (length_of k) && written_in_rule k b) (step_in_rule (step_of k b)) h))

pub body_written_in_rule : (k : ℕ) (b : List ℕ) → body_in_rule k b ≡ true → written_in_rule k b ≡ true
unfolding body_in_rule
body_written_in_rule k b h =
    right (eqb (length b) (length_of k)) (written_in_rule k b) (left (eqb (length b) (length_of k) && written_in_rule k b) (step_in_rule (step_of k b)) h)

-- the step of a body in rule is in rule
pub step_of_body_in_rule : (k : ℕ) (b : List ℕ) → body_in_rule k b ≡ true → step_in_rule (step_of k b) ≡ true
unfolding body_in_rule
step_of_body_in_rule k b h = right (eqb (length b) (length_of k) && written_in_rule k b) (step_in_rule (step_of k b)) h

-- a body of its kind's length is read by its kind's table
pub reads_helmert : (b : List ℕ) → length b ≡ 248 → step_of 1 b ≡ Helmert (helmert_of b)
unfolding step_of length_of
reads_helmert b e = rw (eq-eqb (length b) 248 e)

pub reads_cart : (b : List ℕ) → length b ≡ 8 → step_of 2 b ≡ Cart (cart_of b)
unfolding step_of length_of
reads_cart b e = rw (eq-eqb (length b) 8 e)

pub reads_molodensky : (b : List ℕ) → length b ≡ 56 → step_of 3 b ≡ Molodensky (molodensky_of b)
unfolding step_of length_of
reads_molodensky b e = rw (eq-eqb (length b) 56 e)

pub reads_permtide : (b : List ℕ) → length b ≡ 24 → step_of 4 b ≡ Permtide (permtide_of b)
unfolding step_of length_of
reads_permtide b e = rw (eq-eqb (length b) 24 e)

pub reads_deformation : (b : List ℕ) → length b ≡ 24 → step_of 5 b ≡ Deformation (deformation_of b)
unfolding step_of length_of
reads_deformation b e = rw (eq-eqb (length b) 24 e)

pub reads_badekas : (b : List ℕ) → length b ≡ 88 → step_of 6 b ≡ Badekas (badekas_of b)
unfolding step_of length_of
reads_badekas b e = rw (eq-eqb (length b) 88 e)

-- a body of no kind is not in rule
pub no_kind_in_rule : (k : ℕ) (b : List ℕ) → eqb k 1 ≡ false → eqb k 2 ≡ false → eqb k 3 ≡ false → eqb k 4 ≡ false → eqb k 5 ≡ false → eqb k 6 ≡ false
    → written_in_rule k b ≡ false
unfolding written_in_rule
no_kind_in_rule k b e1 e2 e3 e4 e5 e6 = rw (e1, e2, e3, e4, e5, e6)

-- a body in rule is of one of the six kinds
pub none : (k : ℕ) (b : List ℕ) → body_in_rule k b ≡ true → eqb k 1 ≡ false → eqb k 2 ≡ false → eqb k 3 ≡ false → eqb k 4 ≡ false → eqb k 5 ≡ false → eqb k 6 ≡ false → ⊥
none k b h e1 e2 e3 e4 e5 e6 = subst T (sym (body_written_in_rule k b h) ∙ no_kind_in_rule k b e1 e2 e3 e4 e5 e6) tt

-- a body in rule is read as a step of its kind
pub kind_after_read : (k : ℕ) (b : List ℕ) → body_in_rule k b ≡ true → kind_of (step_of k b) ≡ k
unfolding kind_of length_of
kind_after_read k b =
    by_kind
    (λ (n : ℕ). body_in_rule n b ≡ true → kind_of (step_of n b) ≡ n)
    k
    (λ h. rw (reads_helmert b (length_in_rule 1 b h)))
    (λ h. rw (reads_cart b (length_in_rule 2 b h)))
    (λ h. rw (reads_molodensky b (length_in_rule 3 b h)))
    (λ h. rw (reads_permtide b (length_in_rule 4 b h)))
    (λ h. rw (reads_deformation b (length_in_rule 5 b h)))
    (λ h. rw (reads_badekas b (length_in_rule 6 b h)))
    (λ e1 e2 e3 e4 e5 e6 h. absurd (none k b h e1 e2 e3 e4 e5 e6))

-- a reader of one kind gives what the body holds
pub whole_helmert : (b : List ℕ) → length b ≡ 248 → helmert_in b ≡ helmert_of b
unfolding helmert_in
whole_helmert b e = rw (eq-eqb (length b) 248 e)

pub whole-cart : (b : List ℕ) → length b ≡ 8 → cart_in b ≡ cart_of b
unfolding cart_in
whole-cart b e = rw (eq-eqb (length b) 8 e)

pub whole_molodensky : (b : List ℕ) → length b ≡ 56 → molodensky_in b ≡ molodensky_of b
unfolding molodensky_in
whole_molodensky b e = rw (eq-eqb (length b) 56 e)

pub whole_permtide : (b : List ℕ) → length b ≡ 24 → permtide_in b ≡ permtide_of b
unfolding permtide_in
whole_permtide b e = rw (eq-eqb (length b) 24 e)

pub whole_deformation : (b : List ℕ) → length b ≡ 24 → deformation_in b ≡ deformation_of b
unfolding deformation_in
whole_deformation b e = rw (eq-eqb (length b) 24 e)

pub whole_badekas : (b : List ℕ) → length b ≡ 88 → badekas_in b ≡ badekas_of b
unfolding badekas_in
whole_badekas b e = rw (eq-eqb (length b) 88 e)

-- ---- the lowest rule

not_five : (five six seven eight : Bool) → five ≡ not (eqb (cond five (cond six 6 (cond seven 7 (cond eight 8 0))) 5) 5)
not_five false six seven eight = refl
not_five true true seven eight = refl
not_five true false true eight = refl
not_five true false false true = refl
not_five true false false false = refl

-- 5 is the lowest exactly where rule 5 is broken
pub five_lowest : (k : ℕ) (b : List ℕ) → body_in_rule k b ≡ not (eqb (lowest_broken k b) 5)
unfolding lowest_broken
five_lowest k b = not_five (body_in_rule k b) (lacks_convention (step_of k b)) (lacks_epoch (step_of k b)) (lacks_duration (step_of k b))

-- a body of no kind breaks 5
pub no_kind_lowest : (k : ℕ) (b : List ℕ) → eqb k 1 ≡ false → eqb k 2 ≡ false → eqb k 3 ≡ false → eqb k 4 ≡ false → eqb k 5 ≡ false → eqb k 6 ≡ false
    → lowest_broken k b ≡ 5
unfolding lowest_broken
no_kind_lowest k b e1 e2 e3 e4 e5 e6 = by (body_in_rule k b) refl _
  where
    by : (t : Bool) → body_in_rule k b ≡ t → (n : ℕ) → cond t n 5 ≡ 5
    by true e n = absurd (none k b e e1 e2 e3 e4 e5 e6)
    by false e n = refl

-- a rule's number as an answer is 5 exactly where the number is
pub some_is_five : (n : ℕ) → option_eq eqb (some_rule n) (Some 5) ≡ eqb n 5
unfolding some_rule
some_is_five n = by (eqb n 0) refl
  where
    by : (t : Bool) → eqb n 0 ≡ t → option_eq eqb (cond t None (Some n)) (Some 5) ≡ eqb n 5
    by true e = rw (eqb-true n 0 e)
    by false e = refl

-- it is none where the number is 0, and else that number
pub no_rule : (n : ℕ) → some_rule n ≡ None → n ≡ 0
unfolding some_rule
no_rule n = by (eqb n 0) refl
  where
    by : (t : Bool) → eqb n 0 ≡ t → cond t None (Some n) ≡ None → n ≡ 0
    by true e h = eqb-true n 0 e
    by false e h = absurd (cc h)

pub a_rule : (n k : ℕ) → some_rule n ≡ Some k → (n ≡ k) × (k ≡ 0 → ⊥)
unfolding some_rule
a_rule n k = by (eqb n 0) refl
  where
    by : (t : Bool) → eqb n 0 ≡ t → cond t None (Some n) ≡ Some k → (n ≡ k) × (k ≡ 0 → ⊥)
    by true e h = absurd (cc h)
    by false e h = let same : n ≡ k = cc h in (same, λ z. eqb-false n 0 e (same ∙ z))

-- ---- the lowest rule, by what a kind's code asks

pub lowest_helmert : (b : List ℕ) → lowest_broken 1 b ≡ lowest_of 248 helmert_of (λ b. one_nan_at b 232 && one_nan_at b 240) fields_in_rule_of (λ h. cond (lacks_convention_of h) 6 (cond (lacks_epoch_of h) 7 0)) b
unfolding lowest_broken body_in_rule written_in_rule step_in_rule step_of length_of lacks_convention lacks_epoch lacks_duration lowest_of
lowest_helmert b = by (eqb (length b) 248) refl
  where
    by : (t : Bool) → eqb (length b) 248 ≡ t → lowest_broken 1 b ≡ lowest_of 248 helmert_of (λ b. one_nan_at b 232 && one_nan_at b 240) fields_in_rule_of (λ h. cond (lacks_convention_of h) 6 (cond (lacks_epoch_of h) 7 0)) b
    by true e = rw e
    by false e = rw e

pub lowest_cart : (b : List ℕ) → lowest_broken 2 b ≡ lowest_of 8 cart_of (λ b. eqb (word32 b 4) 0) cart_in_rule_of (λ r. 0) b
unfolding lowest_broken body_in_rule written_in_rule step_in_rule step_of length_of lacks_convention lacks_epoch lacks_duration lowest_of
lowest_cart b = by (eqb (length b) 8) refl
  where
    by : (t : Bool) → eqb (length b) 8 ≡ t → lowest_broken 2 b ≡ lowest_of 8 cart_of (λ b. eqb (word32 b 4) 0) cart_in_rule_of (λ r. 0) b
    by true e = rw e
    by false e = rw e

pub lowest_molodensky : (b : List ℕ) → lowest_broken 3 b ≡ lowest_of 56 molodensky_of (λ b. eqb (word32 b 12) 0) molodensky_in_rule_of (λ r. 0) b
unfolding lowest_broken body_in_rule written_in_rule step_in_rule step_of length_of lacks_convention lacks_epoch lacks_duration lowest_of
lowest_molodensky b = by (eqb (length b) 56) refl
  where
    by : (t : Bool) → eqb (length b) 56 ≡ t → lowest_broken 3 b ≡ lowest_of 56 molodensky_of (λ b. eqb (word32 b 12) 0) molodensky_in_rule_of (λ r. 0) b
    by true e = rw e
    by false e = rw e

pub lowest_permtide : (b : List ℕ) → lowest_broken 4 b ≡ lowest_of 24 permtide_of (λ b. eqb (word32 b 12) 0) permtide_in_rule_of (λ r. 0) b
unfolding lowest_broken body_in_rule written_in_rule step_in_rule step_of length_of lacks_convention lacks_epoch lacks_duration lowest_of
lowest_permtide b = by (eqb (length b) 24) refl
  where
    by : (t : Bool) → eqb (length b) 24 ≡ t → lowest_broken 4 b ≡ lowest_of 24 permtide_of (λ b. eqb (word32 b 12) 0) permtide_in_rule_of (λ r. 0) b
    by true e = rw e
    by false e = rw e

pub lowest_deformation : (b : List ℕ) → lowest_broken 5 b ≡ lowest_of 24 deformation_of (λ b. one_nan_at b 8 && one_nan_at b 16) deformation_in_rule_of (λ r. cond (neither_of r) 8 0) b
unfolding lowest_broken body_in_rule written_in_rule step_in_rule step_of length_of lacks_convention lacks_epoch lacks_duration lowest_of
lowest_deformation b = by (eqb (length b) 24) refl
  where
    by : (t : Bool) → eqb (length b) 24 ≡ t → lowest_broken 5 b ≡ lowest_of 24 deformation_of (λ b. one_nan_at b 8 && one_nan_at b 16) deformation_in_rule_of (λ r. cond (neither_of r) 8 0) b
    by true e = rw e
    by false e = rw e

pub lowest_badekas : (b : List ℕ) → lowest_broken 6 b ≡ lowest_of 88 badekas_of (λ b. true) badekas_in_rule_of (λ r. cond (badekas_lacks_convention_of r) 6 0) b
unfolding lowest_broken body_in_rule written_in_rule step_in_rule step_of length_of lacks_convention lacks_epoch lacks_duration lowest_of
lowest_badekas b = by (eqb (length b) 88) refl
  where
    by : (t : Bool) → eqb (length b) 88 ≡ t → lowest_broken 6 b ≡ lowest_of 88 badekas_of (λ b. true) badekas_in_rule_of (λ r. cond (badekas_lacks_convention_of r) 6 0) b
    by true e = rw e
    by false e = rw e
