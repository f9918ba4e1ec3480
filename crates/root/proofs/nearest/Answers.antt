-- What it returns passed its test, or is `slow`'s. Assumes nothing.
use Rattle.std.proofs.Common.{◌≡◌, ℕ, ◌+◌, ◌-◌, ◌*◌, ◌/◌, ◌%◌, ◌^◌, ◌<◌, ◌≤◌, ◌⊎◌, sym, subst, inl, inr, mul-le-mul, arith}
use mir.Facts.{Fits-below}
use Rattle.root.specs.Sqrt.{RoundedRoot}
use Rattle.root.specs.Whole.{NearestRoot}
use Rattle.root.proofs.Squares.{balance, pick}
use Rattle.root.proofs.Rounded.{root_range, put-rounded}
use Rattle.root.proofs.nearest.Goals as goal
use Rattle.root.proofs.nearest.Goals.{then-g-v-2, else-g-v-2, then-v-g, else-v-g}

hh-le : (g : ℕ) → g < 9007199254740992 → g / 67108864 * (g / 67108864) ≤ 18014398509481984
hh-le g h = mul-le-mul {n₂ = 134217728} {m₂ = 134217728} (omega arith) (omega arith)

hl-le : (g : ℕ) → g < 9007199254740992 → 2 * (g / 67108864) * (g % 67108864) ≤ 18014398509481984
hl-le g h = mul-le-mul {n₂ = 268435456} {m₂ = 67108864} (omega arith) (omega arith)

ll-le : (g : ℕ) → g % 67108864 * (g % 67108864) ≤ 4503599627370496
ll-le g = mul-le-mul {n₂ = 67108864} {m₂ = 67108864} (omega arith) (omega arith)

pub overflow_mul-h : goal.overflow_mul-h
overflow_mul-h c = Fits-below {n = 18014398509481984} tt (hh-le c.args.g (omega arith))

pub overflow_mul-h-3 : goal.overflow_mul-h-3
overflow_mul-h-3 c = Fits-below {n = 18014398509481984} tt (hl-le c.args.g (omega arith))

pub overflow_mul-l : goal.overflow_mul-l
overflow_mul-l c = Fits-below {n = 4503599627370496} tt (ll-le c.args.g)

pub overflow_add-l : goal.overflow_add-l
overflow_add-l c = omega (arith, ll-le c.args.g)

-- What the tests on the way to the moved guess have shown makes it the nearest root.
near : (a g d w v up down : ℕ)
    → 3 ≤ g
    → d + g / 67108864 * (g / 67108864) ≡ a
    → w + 2 * (g / 67108864) * (g % 67108864) ≡ d * 67108864 + 17179869184
    → v + (g % 67108864 * (g % 67108864) + 1152921504606846976) ≡ w * 67108864 + 2 * g
    → v < 4 * g
    → ((up ≡ 1) × (3 * g < v)) ⊎ ((up ≡ 0) × (v ≤ 3 * g))
    → ((down ≡ 1) × (v ≤ g)) ⊎ ((down ≡ 0) × (g < v))
    → NearestRoot (a * 2 ^ 52) (g + up - down)
near a g d w v up down three i j k lt u o = pick (a * 2 ^ 52) g v up down three (balance a g d w v i j k) lt u o

pub overflow_add-g : goal.overflow_add-g
overflow_add-g c = elim c.if-g-v-2.branch [ then-g-v-2 t ↦ omega arith | else-g-v-2 t ↦ omega arith ]

pub overflow_sub-g : goal.overflow_sub-g
overflow_sub-g c = elim c.if-v-g.branch [ then-v-g t ↦ omega arith | else-v-g t ↦ omega arith ]

pub put-requires : goal.put-requires
put-requires c =
    let hh = hh-le c.args.g (omega arith) in
    let hl = hl-le c.args.g (omega arith) in
    let ll = ll-le c.args.g in
    let n =
    near c.args.a c.args.g c.wrapping_sub_u64-d.result c.wrapping_sub_u64-w.result c.wrapping_sub_u64-v.result c.if-g-v-2.up c.if-v-g.down
    (omega arith) (omega arith) (omega arith) (omega arith) (omega arith)
    (elim c.if-g-v-2.branch [ then-g-v-2 t ↦ inl (omega arith, omega arith) | else-g-v-2 t ↦ inr (omega arith, omega arith) ])
    (elim c.if-v-g.branch [ then-v-g t ↦ inl (omega arith, omega arith) | else-v-g t ↦ inr (omega arith, omega arith) ]) in
    let r = root_range c.args.a (c.args.g + c.if-g-v-2.up - c.if-v-g.down) c.requires.0 c.requires.1 n in
    (r.0, r.1, c.requires.3)

pub returns : goal.returns
returns c =
    let hh = hh-le c.args.g (omega arith) in
    let hl = hl-le c.args.g (omega arith) in
    let ll = ll-le c.args.g in
    let n =
    near c.args.a c.args.g c.wrapping_sub_u64-d.result c.wrapping_sub_u64-w.result c.wrapping_sub_u64-v.result c.if-g-v-2.up c.if-v-g.down
    (omega arith) (omega arith) (omega arith) (omega arith) (omega arith)
    (elim c.if-g-v-2.branch [ then-g-v-2 t ↦ inl (omega arith, omega arith) | else-g-v-2 t ↦ inr (omega arith, omega arith) ])
    (elim c.if-v-g.branch [ then-v-g t ↦ inl (omega arith, omega arith) | else-v-g t ↦ inr (omega arith, omega arith) ]) in
    let a = c.args.a in
    let k = c.args.k in
    subst (RoundedRoot (a * 2 ^ 52 * (2 ^ k * 2 ^ k))) (sym c.put.ensures) (put-rounded a k (c.args.g + c.if-g-v-2.up - c.if-v-g.down) c.requires.0 c.requires.1 c.requires.3 n)
