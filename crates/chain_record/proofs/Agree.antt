-- A sheet's bytes and the record that they read to make the same of every list. Assumes nothing.
use Prim.Native.Nat.{ℕ, zero, suc, ◌+◌, ◌≤◌, ◌<◌}
use native.Mathlib.Omega.{arith}
use mathlib.Core.Path.{◌≡◌, refl, sym, ap, ◌∙◌}
use mathlib.Core.Bool.{Bool}
use mathlib.Core.List.{List}
use lib.Ieee.{Float}
use Rattle.words.specs.Words.{Bytes}
use Rattle.sheet.specs.declared.Entry.{Entry}
use Rattle.sheet.specs.declared.Refusal.{Refusal}
use Rattle.sheet.specs.Layout.{step_count_of, kind_at, entry_at, record_of, entry_of, kind_in}
use Rattle.sheet.specs.Rules.{accepted, has_deformation, refusal_of}
use Rattle.sheet_writer.specs.Rules.{writer_refusal_of}
use Rattle.sheet.proofs.Accepted.{Accepted, accepted-keeps}
use Rattle.sheet.proofs.Back.{entry_same, kind-same, record_count}
use Rattle.sheet_writer.proofs.Laws.{writer-takes-what-was-read}
use Rattle.chain.specs.Chain.{entries_of}
use Rattle.chain.specs.Rules.{shift_of}
use Rattle.chain.specs.Grid.{shift_grid_of}
use Rattle.chain_record.specs.Record.{shift_record_of, shift_record_grid_of}

-- ways to an entry that agree below m give the same entries
entries_same : (a b : ℕ → Entry) (m : ℕ) → ((i : ℕ) → i < m → a i ≡ b i) → (k i : ℕ) → i + k ≤ m → entries_of a k i ≡ entries_of b k i
unfolding entries_of
entries_same a b m same zero i h = refl
entries_same a b m same (suc k) i h = rw (same i (omega arith), entries_same a b m same k (suc i) (omega arith))

-- kinds that agree below n have the same deformation steps there
deforms_same : (a b : ℕ → ℕ) (n : ℕ) → ((i : ℕ) → i < n → a i ≡ b i) → (i : ℕ) → i ≤ n → has_deformation a i ≡ has_deformation b i
unfolding has_deformation
deforms_same a b n same zero h = refl
deforms_same a b n same (suc i) h = rw (deforms_same a b n same i (omega arith), same i (omega arith))

-- what is read agrees: the record's refusal, its deformation steps, its entries
module _ (s : List ℕ) (bytes : Bytes s) (e : refusal_of s ≡ accepted) where
  ok : Accepted s
  ok = accepted-keeps s (ap (λ (r : Refusal). r.number) e)

  same_refusal : writer_refusal_of (record_of s) 4240 ≡ refusal_of s
  same_refusal = writer-takes-what-was-read s bytes e 4240 ok.at_most ∙ sym e

  same-deforms : has_deformation (kind_in (record_of s)) (record_of s).count ≡ has_deformation (kind_at s) (step_count_of s)
  same-deforms =
      ap (has_deformation (kind_in (record_of s))) (record_count s)
      ∙ deforms_same (kind_in (record_of s)) (kind_at s) (step_count_of s) (kind-same s bytes ok) (step_count_of s) (omega arith)

  same_entries : entries_of (entry_of (record_of s)) (record_of s).count 0 ≡ entries_of (entry_at s) (step_count_of s) 0
  same_entries =
      ap (λ (n : ℕ). entries_of (entry_of (record_of s)) n 0) (record_count s)
      ∙ entries_same (entry_of (record_of s)) (entry_at s) 16 (entry_same s) (step_count_of s) 0 (omega (arith, ok.few-steps))

-- the entry over bytes and the entry over the record that was read agree, on every list
pub bytes_and_record_agree : (inverse : Bool) (s : List ℕ) (l velocities : List Float) (marks : List ℕ) → Bytes s → refusal_of s ≡ accepted
    → shift_record_of inverse (record_of s) l velocities marks ≡ shift_of inverse s l velocities marks
unfolding shift_record_of shift_of
bytes_and_record_agree inverse s l velocities marks bytes e = rw (same_refusal s bytes e, same-deforms s bytes e, same_entries s bytes e)

-- and so they do with a grid
pub bytes_and_record_agree_with_a_grid : (inverse : Bool) (s : List ℕ) (l velocities : List Float) (marks grid : List ℕ) → Bytes s → refusal_of s ≡ accepted
    → shift_record_grid_of inverse (record_of s) l velocities marks grid ≡ shift_grid_of inverse s l velocities marks grid
unfolding shift_record_grid_of shift_grid_of
bytes_and_record_agree_with_a_grid inverse s l velocities marks grid bytes e = rw (same_refusal s bytes e, same_entries s bytes e)
