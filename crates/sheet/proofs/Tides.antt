-- Of a permtide step in an accepted sheet the coefficient is finite, as the step's bytes give it: rule 5
-- was kept, so its codes are 1 to 3 and its k is finite, and k was read from eight bytes, so binary64
-- holds it. Assumes nothing.
use mathlib.Core.Path.{◌≡◌, refl, sym, subst}
use Prim.Native.Nat.{ℕ, ◌<◌}
use mathlib.Core.List.{List}
use mathlib.Core.Bool.{Bool, true, false, ◌&&◌}
use lib.Dec.{T, eqb}
use lib.ListN.{length}
use lib.Ieee.{binary64, fits}
use lib.Ieee.Bits.{of_bits-fits}
use lib.Ieee.Scale.{finite}
use Rattle.words.specs.Words.{word64, number_at}
use Rattle.permtide.specs.Record.{in_rule_of}
use Rattle.permtide.specs.Step.{tide_of}
use Rattle.permtide.proofs.Coefficients.{checked_coefficient_is_finite}
use Rattle.bodies.specs.Kinds.{length_of}
use Rattle.bodies.specs.Read.{permtide_of, step_of}
use Rattle.bodies.specs.Rules.{written_in_rule, step_in_rule, body_in_rule}
use Rattle.sheet.specs.Layout.{step_count_of, kind_at, body_at}
use Rattle.sheet.specs.Rules.{refusal_of}
use Rattle.sheet.proofs.Accepted.{accepted-keeps, body_kept}

both : (a b : Bool) → (a && b) ≡ true → (a ≡ true) × (b ≡ true)
both true b h = (refl, h)
both false true h = (h, refl)
both false false h = (h, h)

held : (b : List ℕ) → T (fits binary64 (permtide_of b).k)
unfolding permtide_of number_at
held b = of_bits-fits binary64 (word64 b 16)

-- a body of kind 4 in rule holds a record in rule
record_kept : (b : List ℕ) → body_in_rule 4 b ≡ true → in_rule_of (permtide_of b) ≡ true
unfolding body_in_rule step_in_rule step_of
record_kept b h =
    let parts = both (eqb (length b) (length_of 4) && written_in_rule 4 b) (step_in_rule (step_of 4 b)) h in
    let fit = (both (eqb (length b) (length_of 4)) (written_in_rule 4 b) parts.0).0 in
    rw fit at parts.1

pub accepted_tide_is_finite : (s : List ℕ) → (refusal_of s).number ≡ 0 → (i : ℕ) → i < step_count_of s → kind_at s i ≡ 4
    → T (finite (tide_of (permtide_of (body_at s i))).coefficient)
accepted_tide_is_finite s accepted i h four =
    let kept = ((accepted-keeps s accepted).steps i h).kept5 in
    let in_rule = subst (λ (kind : ℕ). body_in_rule kind (body_at s i) ≡ true) four (body_kept s i kept) in
    checked_coefficient_is_finite (permtide_of (body_at s i)) (held (body_at s i))
    (subst T (sym (record_kept (body_at s i) in_rule)) tt)
