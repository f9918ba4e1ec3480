-- Sums of tallies, and one number of each of sixteen. Assumes nothing.
use Prim.Native.Nat.{ℕ, zero, suc, ◌<◌}
use native.Mathlib.Omega.{arith}
use native.Mathlib.Nat.{add_assoc, add-zero, zero-add}
use mathlib.Core.Path.{◌≡◌, refl, sym, ap, ◌∙◌}
use mathlib.Core.List.{List, [], ◌∷◌}
use lib.ListN.{length, get_or}
use Rattle.std.proofs.Common.{ext_get_or}
use Rattle.tally.specs.declared.Tally.{Tally}
use Rattle.tally.specs.Tallies.{no_tally, plus_of, each_of}

-- two tallies of the same numbers are the same
pub tally_is : {a b : Tally} → a.count ≡ b.count → a.met ≡ b.met → a ≡ b
tally_is ec em = λ j. record { count = ec j; met = em j }

-- ---- sums

pub plus_assoc : (a b c : Tally) → plus_of (plus_of a b) c ≡ plus_of a (plus_of b c)
plus_assoc a b c = rw (add_assoc a.count b.count c.count, add_assoc a.met b.met c.met)

pub plus_none : (a : Tally) → plus_of a no_tally ≡ a
plus_none a = rw (add-zero a.count, add-zero a.met)

pub none_plus : (a : Tally) → plus_of no_tally a ≡ a
none_plus a = rw (zero-add a.count, zero-add a.met)

-- ---- one number of each

pub each_length : (number : Tally → ℕ) (tallies : List Tally) → length (each_of number tallies) ≡ length tallies
unfolding each_of
each_length number [] = refl
each_length number (a ∷ tallies) = ap suc (each_length number tallies)

-- the number at an index is that of the tally there
pub each_at : (number : Tally → ℕ) (tallies : List Tally) (i : ℕ) → number no_tally ≡ 0 → get_or (each_of number tallies) i 0 ≡ number (get_or tallies i no_tally)
unfolding each_of
each_at number [] i e = sym e
each_at number (a ∷ tallies) zero e = refl
each_at number (a ∷ tallies) (suc i) e = each_at number tallies i e

-- sixteen numbers, each that of the tally at its index, are the numbers of each
pub each_is : (number : Tally → ℕ) (tallies : List Tally) {numbers : List ℕ} → number no_tally ≡ 0 → length tallies ≡ 16 → length numbers ≡ 16
    → ((i : ℕ) → i < 16 → get_or numbers i 0 ≡ number (get_or tallies i no_tally)) → numbers ≡ each_of number tallies
each_is number tallies {numbers} none long sixteen same =
    ext_get_or 0 numbers (each_of number tallies) (sixteen ∙ sym (each_length number tallies ∙ long))
    (λ i h. same i (omega (arith, sixteen)) ∙ sym (each_at number tallies i none))
