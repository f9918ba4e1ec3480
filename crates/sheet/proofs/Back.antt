-- The record of a sheet that breaks no rule has at each step what the sheet has. Assumes nothing.
use mathlib.Core.Path.{◌≡◌, refl, ap, ◌∙◌}
use Prim.Native.Nat.{ℕ, ◌+◌, ◌<◌, ◌≤◌}
use mathlib.Core.List.{List}
use mathlib.Core.Bool.{Bool, true, false}
use native.Mathlib.Omega.{arith}
use native.Mathlib.Nat.{zero-add}
use borrow.Author.Tests.{lt-ltb, ltb-true, ltb-false}
use lib.Dec.{ltb}
use lib.ListN.{length, take, drop, get_or, length-take, get_or-eq_default}
use lib.Seq.{get_or-take, get_or-drop}
use Rattle.words.specs.Words.{Bytes}
use Rattle.bodies.specs.Kinds.{kind_of}
use Rattle.bodies.specs.Rules.{body_in_rule}
use Rattle.bodies.proofs.Laws.{kind_after_read}
use Rattle.sheet.specs.declared.Entry.{Entry}
use Rattle.sheet.specs.Layout.{step_count_of, kind_at, inverted_at, body_at, step_at, entry_at, record_of, entry_of, step_in, kind_in}
use Rattle.sheet.proofs.Entries.{entry_from}
use Rattle.sheet.proofs.Accepted.{Accepted, body_kept}

-- a part of bytes is bytes
bytes_drop : (s : List ℕ) (at : ℕ) → Bytes s → Bytes (drop at s)
bytes_drop s at b i = rw get_or-drop (b (at + i))

byte_take : (s : List ℕ) (n i : ℕ) (t : Bool) → ltb i n ≡ t → Bytes s → get_or (take n s) i 0 < 256
byte_take s n i true e b = rw (get_or-take n s i 0 (ltb-true i n e)) (b i)
byte_take s n i false e b =
    let h = ltb-false i n e in
    let past : length (take n s) ≤ i = simp length-take (omega arith) in
    rw (get_or-eq_default (take n s) 0 past) (omega arith)

pub bytes-part : (s : List ℕ) (n at : ℕ) → Bytes s → Bytes (take n (drop at s))
bytes-part s n at b i = byte_take (drop at s) n i (ltb i n) refl (bytes_drop s at b)

-- step i of the record is that of the sheet
pub entry_same : (s : List ℕ) (i : ℕ) → i < 16 → entry_of (record_of s) i ≡ entry_at s i
unfolding record_of
entry_same s i h = entry_from s _ 16 0 i h ∙ ap (entry_at s) (zero-add i)

pub record_count : (s : List ℕ) → (record_of s).count ≡ step_count_of s
unfolding record_of
record_count s = refl

module _ (s : List ℕ) (bytes : Bytes s) (ok : Accepted s) where
  entry_here : (i : ℕ) → i < step_count_of s → entry_of (record_of s) i ≡ record { inverted = inverted_at s i; step = step_at s i }
  unfolding entry_at
  entry_here i h = entry_same s i (omega (arith, ok.few-steps)) ∙ rw (lt-ltb i (step_count_of s) h)

  pub step_same : (i : ℕ) → i < step_count_of s → step_in (record_of s) i ≡ step_at s i
  step_same i h = ap (λ (e : Entry). e.step) (entry_here i h)

  pub inverted-same : (i : ℕ) → i < step_count_of s → (entry_of (record_of s) i).inverted ≡ inverted_at s i
  inverted-same i h = ap (λ (e : Entry). e.inverted) (entry_here i h)

  pub in_rule : (i : ℕ) → i < step_count_of s → body_in_rule (kind_at s i) (body_at s i) ≡ true
  in_rule i h = body_kept s i (ok.steps i h).kept5

  pub kind-same : (i : ℕ) → i < step_count_of s → kind_in (record_of s) i ≡ kind_at s i
  kind-same i h = ap kind_of (step_same i h) ∙ kind_after_read (kind_at s i) (body_at s i) (in_rule i h)

  pub count_same : (record_of s).count ≡ step_count_of s
  count_same = record_count s
