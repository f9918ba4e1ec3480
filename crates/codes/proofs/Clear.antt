-- A refusal of number 0 is none at all: its word is 0, which an entry gives C where the function
-- that it calls answers `Ok`. Every list of rules with numbers answers such a refusal
-- (`clear_first`), the reader's too (`clear_sheet`). Beside a call, `done` and `refused` say which
-- word each answer has. Working definition, which no promise cites: `Clear`. Assumes nothing.
use mathlib.Core.Path.{◌≡◌, refl, sym, ap, ◌∙◌}
use Prim.Native.Nat.{ℕ}
use mathlib.Core.Bool.{Bool, true, false, cond}
use mathlib.Core.List.{List, [], ◌∷◌}
use borrow.Author.Tests.{eqb-true}
use lib.Dec.{eqb}
use Rattle.std.specs.Prelude.{Result, Ok, Err}
use Rattle.sheet.specs.declared.Refusal.{Refusal}
use Rattle.sheet.specs.Rules.{Rule, first_broken, reader_order, refusal_of, unless}
use Rattle.sheet.proofs.Order.{Without, Numbered, numbered_reader}
use Rattle.sheet.proofs.Unless.{passed, at_err}
use Rattle.codes.specs.Codes.{code_of, code_in}

abbrev pub Clear : Refusal → Type 0
Clear r = r.number ≡ 0 → code_of r ≡ 0

either : (t : Bool) (r rest : Refusal) → (t ≡ true → r.number ≡ 0 → ⊥) → Clear rest → Clear (cond t r rest)
either true r rest h k z = absurd (h refl z)
either false r rest h k z = k z

pub clear_first : (l : List Rule) → Numbered l → Clear (first_broken l)
unfolding first_broken
clear_first [] Without.none z = refl
clear_first (r ∷ l) (Without.next h n) z = either r.broken r.answer (first_broken l) h (clear_first l n) z

pub clear_sheet : (s : List ℕ) → Clear (refusal_of s)
unfolding refusal_of
clear_sheet s = clear_first (reader_order s) (numbered_reader s)

-- ---- a call's answer

by_test : (b : Bool) (r : Refusal) → Clear r → eqb r.number 0 ≡ b → code_in (cond b (Ok tt) (Err r)) ≡ code_of r
by_test true r clear e = sym (clear (eqb-true r.number 0 e))
by_test false r clear e = refl

-- the word of an answer without a value is its refusal's
pub answered : (r : Refusal) {out : Result Unit Refusal} → Clear r → out ≡ unless r tt → code_in out ≡ code_of r
unfolding unless
answered r clear e = ap code_in e ∙ by_test (eqb r.number 0) r clear refl

-- it gave `Ok`
pub done : {A : Type 0} (r : Refusal) (x : A) {y : A} {out : Result A Refusal} → Clear r → out ≡ unless r x → out ≡ Ok y → 0 ≡ code_of r
done r x clear e ok = sym (clear (passed r x e ok))

-- it gave `Err`
pub refused : {A : Type 0} (r : Refusal) (x : A) {e : Refusal} {out : Result A Refusal} → out ≡ unless r x → out ≡ Err e → code_of e ≡ code_of r
refused r x {e} p err = ap code_of (sym (at_err r e x (sym p ∙ err)).1)
