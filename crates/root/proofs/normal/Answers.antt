-- The exponent's field f stands for a scale of 2 ^ (f - 1) units. Assumes nothing.
use Rattle.std.proofs.Common.{◌≡◌, ℕ, ◌+◌, ◌-◌, ◌*◌, ◌/◌, ◌%◌, ◌^◌, ◌<◌, ◌≤◌, sym, ap, ◌∙◌, mul_assoc, arith, pow-add}
use Rattle.root.specs.Whole.{Significand}
use Rattle.root.proofs.Patterns.{normal_value}
use Rattle.root.proofs.Squares.{split}
use Rattle.root.proofs.normal.Goals as goal

raise : (m e : ℕ) → 1 ≤ e → m * 2 ^ (e + 1073) ≡ m * 2 ^ (e - 1) * 2 ^ 1074
raise m e h =
    let f : e + 1073 ≡ e - 1 + 1074 = omega arith in
    ap (λ (z : ℕ). m * 2 ^ z) f ∙ ap (λ (z : ℕ). m * z) (pow-add 2 (e - 1) 1074) ∙ sym (mul_assoc m (2 ^ (e - 1)) (2 ^ 1074))

-- a is the significand, doubled where the field is even
at_field : (b a t : ℕ) → 4503599627370496 ≤ b → b < 9218868437227405312 → t ≡ (b / 4503599627370496 + 1) % 2 + 1 → a ≡ (4503599627370496 + b % 4503599627370496) * t → 4503599627370496 ≤ a → a < 18014398509481983
    → Significand b a ((b - 4503599627370496) / 9007199254740992 + 511)
at_field b a t h l p is low high =
    let m : ℕ = 4503599627370496 + b % 4503599627370496 in
    let f : ℕ = b / 4503599627370496 in
    let o : t ≡ (f + 1073) % 2 + 1 = omega arith in
    record {
      n = m * 2 ^ (f - 1);
      value = normal_value b h l;
      same = split m (f + 1073) a ((b - 4503599627370496) / 9007199254740992 + 511) (omega arith) (omega arith) (is ∙ ap (λ (z : ℕ). m * z) o) ∙ raise m f (omega arith);
      low = low;
      high = high;
      most = omega arith;
    }

pub returns-then-m-lt4503599627370496 : goal.returns-then-m-lt4503599627370496
returns-then-m-lt4503599627370496 c =
    let b = c.args.b in
    at_field b ((b - 4503599627370496) % 9007199254740992 + 4503599627370496) 1 (omega arith) (omega arith) (omega arith) (omega arith) (omega arith) (omega arith)

pub returns : goal.returns
returns c =
    let b = c.args.b in
    at_field b (2 * ((b - 4503599627370496) % 9007199254740992)) 2 (omega arith) (omega arith) (omega arith) (omega arith) (omega arith) (omega arith)
