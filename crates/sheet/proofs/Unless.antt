-- What a `Result` of a refusal says, for callers to cite: `Ok` where there is no refusal and `Err`
-- of the refusal where there is one, and what a `?` hands on. Beside each call with a `?` the
-- check has the call's promise and which variant it gave: `passed` and `failed` turn these into a
-- fact on the refusal's number, and `hands_on` says what the exit returns. The laws of `rule` put
-- that fact in front of a list of rules. Assumes nothing.
use mathlib.Core.Path.{◌≡◌, refl, sym, ap, ◌∙◌}
use Prim.Native.Nat.{ℕ}
use mathlib.Core.List.{List, ◌∷◌}
use mathlib.Core.Bool.{Bool, true, false, not, cond}
use borrow.Author.Tests.{eqb-true, eqb-false, eq-eqb, ne_eqb}
use lib.Dec.{eqb}
use Rattle.std.specs.Prelude.{Result, Ok, Err, IsErrAnd}
use Rattle.std.proofs.lemmas.Result.{err_from_is_err_and}
use Rattle.sheet.specs.declared.Refusal.{Refusal}
use Rattle.sheet.specs.Layout.{blank_sheet, record_of}
use Rattle.sheet.specs.Rules.{Rule, rule, first_broken, refusal_of, reading_of, unless}

-- ---- one answer

-- with no refusal it is the value
pub accepts : {A : Type 0} (r : Refusal) (x : A) → r.number ≡ 0 → unless r x ≡ Ok x
unfolding unless
accepts r x e = rw (eq-eqb r.number 0 e)

-- with a refusal it is the refusal
pub refuses : {A : Type 0} (r : Refusal) (x : A) → (r.number ≡ 0 → ⊥) → unless r x ≡ Err r
unfolding unless
refuses r x h = rw (ne_eqb r.number 0 h)

ok_as : {A : Type 0} (b : Bool) (r : Refusal) (x y : A) → cond b (Ok x) (Err r) ≡ Ok y → (b ≡ true) × (x ≡ y)
ok_as true r x y e = (refl, cc e)
ok_as false r x y e = absurd (cc e)

err_as : {A : Type 0} (b : Bool) (r e : Refusal) (x : A) → cond b (Ok x) (Err r) ≡ Err e → (b ≡ false) × (r ≡ e)
err_as true r e x p = absurd (cc p)
err_as false r e x p = (refl, cc p)

-- `Ok`: there is no refusal, and the value is what the answer holds
pub at_ok : {A : Type 0} (r : Refusal) (x y : A) → unless r x ≡ Ok y → (r.number ≡ 0) × (x ≡ y)
unfolding unless
at_ok r x y e = let p = ok_as (eqb r.number 0) r x y e in (eqb-true _ _ p.0, p.1)

-- `Err`: there is a refusal, and it is what the answer holds
pub at_err : {A : Type 0} (r e : Refusal) (x : A) → unless r x ≡ Err e → (r.number ≡ 0 → ⊥) × (r ≡ e)
unfolding unless
at_err r e x p = let q = err_as (eqb r.number 0) r e x p in (eqb-false _ _ q.0, q.1)

-- a value that is only taken where there is no refusal may be anything where there is one
pub else_any : {A : Type 0} (r : Refusal) (x y : A) → unless r (cond (eqb r.number 0) x y) ≡ unless r x
unfolding unless
else_any r x y = by (eqb r.number 0)
  where
    by : (b : Bool) → cond b (Ok (cond b x y)) (Err r) ≡ cond b (Ok x) (Err r)
    by true = refl
    by false = refl

-- so a reading answers as `read` does
pub read_answers : (s : List ℕ) → unless (reading_of s).refusal (reading_of s).sheet ≡ unless (refusal_of s) (record_of s)
unfolding reading_of
read_answers s = else_any (refusal_of s) (record_of s) blank_sheet

-- ---- a call with a `?`: what it ensures, and which variant it gave

-- it gave `Ok`: there is no refusal
pub passed : {A : Type 0} (r : Refusal) (x : A) {y : A} {out : Result A Refusal} → out ≡ unless r x → out ≡ Ok y → r.number ≡ 0
passed r x {y} e ok = (at_ok r x y (sym e ∙ ok)).0

-- and its value is the promised one
pub passed_value : {A : Type 0} (r : Refusal) (x : A) {y : A} {out : Result A Refusal} → out ≡ unless r x → out ≡ Ok y → y ≡ x
passed_value r x {y} e ok = sym (at_ok r x y (sym e ∙ ok)).1

-- it gave `Err`: there is a refusal
pub failed : {A : Type 0} (r : Refusal) (x : A) {e : Refusal} {out : Result A Refusal} → out ≡ unless r x → out ≡ Err e
    → r.number ≡ 0 → ⊥
failed r x {e} p err = (at_err r e x (sym p ∙ err)).0

-- and the exit returns that refusal
pub hands_on : {A B : Type 0} (r : Refusal) (x : A) {e : Refusal} {out : Result A Refusal} {exit : Result B Refusal} → out ≡ unless r x
    → out ≡ Err e → IsErrAnd exit (λ y. y ≡ e) → exit ≡ Err r
hands_on r x {e} {exit = exit} p err said =
    let q = err_from_is_err_and exit said in
    q.1 ∙ ap Err (q.2 ∙ sym (at_err r e x (sym p ∙ err)).1)

-- ---- in front of a list of rules

-- a broken rule answers
pub rule_refuses : {A : Type 0} (r : Refusal) (broken : Bool) (l : List Rule) (x : A) → (r.number ≡ 0 → ⊥) → broken ≡ true
    → unless (first_broken (rule r broken ∷ l)) x ≡ Err r
unfolding first_broken
rule_refuses r broken l x h e = rw e (refuses r x h)

-- a rule that is kept leaves the answer to the rest
pub rule_kept : (r : Refusal) (broken : Bool) (l : List Rule) → broken ≡ false → first_broken (rule r broken ∷ l) ≡ first_broken l
unfolding first_broken
rule_kept r broken l e = rw e

-- the refusal of what is asked first, as `check` of the sheet is: where it is given it answers
pub first_refuses : {A : Type 0} (r : Refusal) (l : List Rule) (x : A) → (r.number ≡ 0 → ⊥)
    → unless (first_broken (rule r (not (eqb r.number 0)) ∷ l)) x ≡ Err r
first_refuses r l x h = rule_refuses r (not (eqb r.number 0)) l x h (rw (ne_eqb r.number 0 h))

-- and where it is not given it leaves the answer to the rest
pub first_accepts : (r : Refusal) (l : List Rule) → r.number ≡ 0
    → first_broken (rule r (not (eqb r.number 0)) ∷ l) ≡ first_broken l
first_accepts r l e = rule_kept r (not (eqb r.number 0)) l (rw (eq-eqb r.number 0 e))
