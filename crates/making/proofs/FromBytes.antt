-- What is read from bytes is what a computer's memory holds: words of 32 bits and binary64 numbers.
-- Assumes nothing.
use mathlib.Core.Path.{◌≡◌, refl, ap, ◌∙◌}
use Prim.Native.Nat.{ℕ, zero, suc, ◌+◌, ◌<◌}
use mathlib.Core.Bool.{Bool, true, false, cond}
use mathlib.Core.List.{List}
use native.Mathlib.Omega.{arith}
use borrow.Author.Tests.{le-ltb}
use lib.Dec.{eqb, T}
use lib.ListN.{length, take, drop}
use lib.Ieee.{binary64, fits}
use lib.Ieee.Bits.{of_bits-fits}
use Rattle.words.specs.Words.{Bytes, word32, word64, number_at}
use Rattle.words.proofs.Laws.{word32_is_a_word}
use Rattle.bodies.specs.declared.Step.{Step}
use Rattle.bodies.specs.Kinds.{length_of}
use Rattle.bodies.specs.Read.{vec3_at, helmert_of, cart_of, molodensky_of, permtide_of, deformation_of, badekas_of, blank_step, step_of}
use Rattle.bodies.specs.Held.{Held, Held3, HeldHelmert, HeldCart, HeldMolodensky, HeldPermtide, HeldDeformation, HeldBadekas}
use Rattle.sheet.specs.Layout.{step_count_of, kind_at, body_at, length_at, offset_at, entry_at, entries_from, record_of}
use Rattle.sheet.specs.Rules.{refusal_of}
use Rattle.sheet.proofs.Accepted.{accepted-keeps}
use Rattle.sheet.proofs.Back.{bytes-part, entry_same, step_same, record_count}
use Rattle.sheet_writer.specs.SameSheet.{HeldSheet}
use Rattle.making.specs.InTurn.{Tidy}

module _ (b : List ℕ) (bytes : Bytes b) where
  word : (at : ℕ) → word32 b at < 4294967296
  word at = word32_is_a_word b at bytes

  number : (at : ℕ) → T (fits binary64 (number_at b at))
  unfolding number_at
  number at = of_bits-fits binary64 (word64 b at)

  three : (at : ℕ) → Held3 (vec3_at b at)
  unfolding vec3_at
  three at = record { x-held = number at; y-held = number (at + 8); z-held = number (at + 16) }

  helmert-held : HeldHelmert (helmert_of b)
  unfolding helmert_of
  helmert-held =
      record {
        flags-held = word 0;
        convention-held = word 4;
        translation_held = three 8;
        xyz-held = three 32;
        translation-rate-held = three 56;
        dxyz-held = three 80;
        rotation-held = three 104;
        rxyz-held = three 128;
        rotation-rate-held = three 152;
        drxyz-held = three 176;
        scale-held = number 200;
        s-held = number 208;
        scale-rate-held = number 216;
        ds-held = number 224;
        t-epoch-held = number 232;
        t-obs-held = number 240;
      }

  cart-held : HeldCart (cart_of b)
  unfolding cart_of
  cart-held = record { ellipsoid-held = word 0 }

  molodensky-held : HeldMolodensky (molodensky_of b)
  unfolding molodensky_of
  molodensky-held =
      record {
        flags-held = word 0;
        first-held = word 4;
        second-held = word 8;
        dx-held = number 16;
        dy-held = number 24;
        dz-held = number 32;
        da-held = number 40;
        df-held = number 48;
      }

  permtide-held : HeldPermtide (permtide_of b)
  unfolding permtide_of
  permtide-held = record { ellipsoid-held = word 0; to_held = word 4; from-held = word 8; k-held = number 16 }

  deformation-held : HeldDeformation (deformation_of b)
  unfolding deformation_of
  deformation-held = record { flags-held = word 0; ellipsoid-held = word 4; dt-held = number 8; epoch-held = number 16 }

  badekas-held : HeldBadekas (badekas_of b)
  unfolding badekas_of
  badekas-held =
      record {
        flags-held = word 0;
        convention-held = word 4;
        translation_held = three 8;
        rotation-held = three 32;
        scale-held = number 56;
        pivot-held = three 64;
      }

  either : (t : Bool) (x y : Step) → Held x → Held y → Held (cond t x y)
  either true x y p q = p
  either false x y p q = q

  blank-held : Held blank_step
  blank-held = record { ellipsoid-held = omega arith }

  -- the step that a body holds, of any kind
  pub step-held : (kind : ℕ) → Held (step_of kind b)
  unfolding step_of
  step-held kind =
      either (eqb (length b) (length_of kind)) _ _
      (either (eqb kind 1) _ _ helmert-held
      (either (eqb kind 2) _ _ cart-held
      (either (eqb kind 3) _ _ molodensky-held
      (either (eqb kind 4) _ _ permtide-held
      (either (eqb kind 5) _ _ deformation-held
      (either (eqb kind 6) _ _ badekas-held blank-held))))))
      blank-held

-- ---- the record of a sheet

length_entries : (s : List ℕ) (k i : ℕ) → length (entries_from s k i) ≡ k
unfolding entries_from
length_entries s zero i = refl
length_entries s (suc k) i = ap suc (length_entries s k (i + 1))

pub read_is_tidy : (s : List ℕ) → Tidy (record_of s)
unfolding record_of entry_at
read_is_tidy s = record { places = length_entries s 16 0; blank = λ i l h. entry_same s i h ∙ rw (le-ltb i (step_count_of s) l) }

pub read_is_held : (s : List ℕ) → Bytes s → (refusal_of s).number ≡ 0 → HeldSheet (record_of s)
unfolding body_at
read_is_held s bytes e i h =
    let here : i < step_count_of s = omega (arith, record_count s) in
    rw (step_same s bytes (accepted-keeps s e) i here)
    (step-held (take (length_at s i) (drop (offset_at s i) s)) (bytes-part s (length_at s i) (offset_at s i) bytes) (kind_at s i))
