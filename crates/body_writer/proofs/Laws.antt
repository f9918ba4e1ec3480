-- What is true of bodies as they are written, for callers to cite. A body has its kind's length.
-- What was written is read: every field of a record comes back, the zeros by sign and "not given"
-- among them. What was read is written: a body in rule comes back byte for byte. Assumes nothing.
use mathlib.Core.Path.{◌≡◌, refl, sym, ap, ◌∙◌, subst}
use Prim.Native.Nat.{ℕ, ◌+◌, ◌≤◌}
use mathlib.Core.Bool.{Bool, true, false, cond, ◌&&◌}
use mathlib.Core.List.{List}
use native.Mathlib.Omega.{arith}
use lib.Dec.{T, eqb, ltb}
use lib.ListN.{length, take, drop}
use lib.Seq.{take-add, take_all, drop-drop}
use lib.Ieee.{Float, nan, inf, fin, is_nan}
use lib.Ieee.Scale.{finite}
use borrow.Author.Tests.{eq-eqb, eqb-true}
use Rattle.words.specs.Words.{Bytes, word32, word64, number_at, one_nan_at, le32, le64, le_number}
use Rattle.words.proofs.Laws.{word_back, number-back, number_in_rule, no_nan_in_rule, le32-word32, le_number-number_at}
use Rattle.rotation.specs.declared.Vec3.{Vec3}
use Rattle.ellipsoid.specs.Figure.{exists_of}
use Rattle.helmert.specs.declared.Helmert.{Helmert as HelmertRecord}
use Rattle.helmert.specs.Rules.{fields_in_rule_of, vectors_finite_of, scales_finite_of, finite3_of, time_of}
use Rattle.cart.specs.declared.Cart.{Cart as CartRecord}
use Rattle.molodensky.specs.declared.Molodensky.{Molodensky as MolodenskyRecord}
use Rattle.molodensky.specs.Record.{finite_of, second_in_rule_of, figure_in_rule_of, in_rule_of}
use Rattle.permtide.specs.declared.Permtide.{Permtide as PermtideRecord}
use Rattle.permtide.specs.Record.{system_of, in_rule_of as permtide_in_rule_of}
use Rattle.deformation.specs.declared.Deformation.{Deformation as DeformationRecord}
use Rattle.badekas.specs.declared.Badekas.{Badekas as BadekasRecord}
use Rattle.badekas.specs.Rules.{fields_in_rule_of as badekas_in_rule_of}
use Rattle.bodies.specs.declared.Step.{Step}
use Rattle.bodies.specs.declared.Step.TheVariants.{Cart, Permtide, Deformation, Molodensky, Badekas, Helmert}
use Rattle.bodies.specs.Kinds.{length_of, kind_of}
use Rattle.bodies.specs.Read.{vec3_at, helmert_of, cart_of, molodensky_of, permtide_of, deformation_of, badekas_of, step_of}
use Rattle.bodies.specs.Rules.{step_in_rule, written_in_rule, body_in_rule}
use Rattle.bodies.proofs.Laws.{left, right, by_kind, length_in_rule, body_written_in_rule, step_of_body_in_rule, reads_helmert, reads_cart, reads_molodensky, reads_permtide, reads_deformation, reads_badekas, none}
use Rattle.body_writer.specs.Write.{le_vec3, le_series, helmert_bytes, cart_bytes, molodensky_bytes, permtide_bytes, deformation_bytes, badekas_bytes, bytes_of}
use Rattle.bodies.specs.Held.{Held, Held3, HeldHelmert, HeldCart, HeldMolodensky, HeldPermtide, HeldDeformation, HeldBadekas}
use Rattle.body_writer.proofs.Lengths.{length_helmert, length-cart, length_molodensky, length_permtide, length_deformation, length_badekas}

-- a body has its kind's length
pub bytes-length : (st : Step) → length (bytes_of st) ≡ length_of (kind_of st)
unfolding bytes_of kind_of length_of
bytes-length (Helmert h) = length_helmert h
bytes-length (Cart r) = length-cart r
bytes-length (Molodensky r) = length_molodensky r
bytes-length (Permtide r) = length_permtide r
bytes-length (Deformation r) = length_deformation r
bytes-length (Badekas r) = length_badekas r

-- ---- read after write, a kind at a time: each field stands where the reader looks for it

vec3_back : (v : Vec3) → Held3 v → vec3_at (le_vec3 v) 0 ≡ v
unfolding vec3_at le_vec3 number_at le_number word64 le64 word32 le32
vec3_back v held =
    let x : number_at (le_vec3 v) 0 ≡ v.x = number-back v.x held.x-held in
    let y : number_at (le_vec3 v) 8 ≡ v.y = number-back v.y held.y-held in
    let z : number_at (le_vec3 v) 16 ≡ v.z = number-back v.z held.z-held in
    rw (x, y, z)

pub cart-back : (r : CartRecord) → HeldCart r → cart_of (cart_bytes r) ≡ r
unfolding cart_of cart_bytes word32 le32
cart-back r held =
    let e : word32 (cart_bytes r) 0 ≡ r.ellipsoid = word_back r.ellipsoid held.ellipsoid-held in
    rw e

pub permtide_back : (r : PermtideRecord) → HeldPermtide r → permtide_of (permtide_bytes r) ≡ r
unfolding permtide_of permtide_bytes number_at le_number word64 le64 word32 le32
permtide_back r held =
    let ellipsoid : word32 (permtide_bytes r) 0 ≡ r.ellipsoid = word_back r.ellipsoid held.ellipsoid-held in
    let to : word32 (permtide_bytes r) 4 ≡ r.to = word_back r.to held.to_held in
    let from : word32 (permtide_bytes r) 8 ≡ r.from = word_back r.from held.from-held in
    let k : number_at (permtide_bytes r) 16 ≡ r.k = number-back r.k held.k-held in
    rw (ellipsoid, to, from, k)

pub deformation_back : (r : DeformationRecord) → HeldDeformation r → deformation_of (deformation_bytes r) ≡ r
unfolding deformation_of deformation_bytes number_at le_number word64 le64 word32 le32
deformation_back r held =
    let flags : word32 (deformation_bytes r) 0 ≡ r.flags = word_back r.flags held.flags-held in
    let ellipsoid : word32 (deformation_bytes r) 4 ≡ r.ellipsoid = word_back r.ellipsoid held.ellipsoid-held in
    let dt : number_at (deformation_bytes r) 8 ≡ r.dt = number-back r.dt held.dt-held in
    let epoch : number_at (deformation_bytes r) 16 ≡ r.epoch = number-back r.epoch held.epoch-held in
    rw (flags, ellipsoid, dt, epoch)

pub molodensky_back : (r : MolodenskyRecord) → HeldMolodensky r → molodensky_of (molodensky_bytes r) ≡ r
unfolding molodensky_of molodensky_bytes number_at le_number word64 le64 word32 le32
molodensky_back r held =
    let flags : word32 (molodensky_bytes r) 0 ≡ r.flags = word_back r.flags held.flags-held in
    let first : word32 (molodensky_bytes r) 4 ≡ r.first = word_back r.first held.first-held in
    let second : word32 (molodensky_bytes r) 8 ≡ r.second = word_back r.second held.second-held in
    let dx : number_at (molodensky_bytes r) 16 ≡ r.dx = number-back r.dx held.dx-held in
    let dy : number_at (molodensky_bytes r) 24 ≡ r.dy = number-back r.dy held.dy-held in
    let dz : number_at (molodensky_bytes r) 32 ≡ r.dz = number-back r.dz held.dz-held in
    let da : number_at (molodensky_bytes r) 40 ≡ r.da = number-back r.da held.da-held in
    let df : number_at (molodensky_bytes r) 48 ≡ r.df = number-back r.df held.df-held in
    rw (flags, first, second, dx, dy, dz, da, df)

pub helmert_back : (h : HelmertRecord) → HeldHelmert h → helmert_of (helmert_bytes h) ≡ h
unfolding helmert_of helmert_bytes le_series vec3_at le_vec3 number_at le_number word64 le64 word32 le32
helmert_back h held =
    let flags : word32 (helmert_bytes h) 0 ≡ h.flags = word_back h.flags held.flags-held in
    let convention : word32 (helmert_bytes h) 4 ≡ h.convention = word_back h.convention held.convention-held in
    let translation : vec3_at (helmert_bytes h) 8 ≡ h.translation = vec3_back h.translation held.translation_held in
    let xyz : vec3_at (helmert_bytes h) 32 ≡ h.xyz = vec3_back h.xyz held.xyz-held in
    let rate : vec3_at (helmert_bytes h) 56 ≡ h.translation_rate = vec3_back h.translation_rate held.translation-rate-held in
    let dxyz : vec3_at (helmert_bytes h) 80 ≡ h.dxyz = vec3_back h.dxyz held.dxyz-held in
    let rotation : vec3_at (helmert_bytes h) 104 ≡ h.rotation = vec3_back h.rotation held.rotation-held in
    let rxyz : vec3_at (helmert_bytes h) 128 ≡ h.rxyz = vec3_back h.rxyz held.rxyz-held in
    let turn : vec3_at (helmert_bytes h) 152 ≡ h.rotation_rate = vec3_back h.rotation_rate held.rotation-rate-held in
    let drxyz : vec3_at (helmert_bytes h) 176 ≡ h.drxyz = vec3_back h.drxyz held.drxyz-held in
    let scale : number_at (helmert_bytes h) 200 ≡ h.scale = number-back h.scale held.scale-held in
    let s : number_at (helmert_bytes h) 208 ≡ h.s = number-back h.s held.s-held in
    let growth : number_at (helmert_bytes h) 216 ≡ h.scale_rate = number-back h.scale_rate held.scale-rate-held in
    let ds : number_at (helmert_bytes h) 224 ≡ h.ds = number-back h.ds held.ds-held in
    let epoch : number_at (helmert_bytes h) 232 ≡ h.t_epoch = number-back h.t_epoch held.t-epoch-held in
    let obs : number_at (helmert_bytes h) 240 ≡ h.t_obs = number-back h.t_obs held.t-obs-held in
    rw (flags, convention, translation, xyz, rate, dxyz, rotation, rxyz, turn, drxyz, scale, s, growth, ds, epoch, obs)

pub badekas_back : (r : BadekasRecord) → HeldBadekas r → badekas_of (badekas_bytes r) ≡ r
unfolding badekas_of badekas_bytes vec3_at le_vec3 number_at le_number word64 le64 word32 le32
badekas_back r held =
    let flags : word32 (badekas_bytes r) 0 ≡ r.flags = word_back r.flags held.flags-held in
    let convention : word32 (badekas_bytes r) 4 ≡ r.convention = word_back r.convention held.convention-held in
    let translation : vec3_at (badekas_bytes r) 8 ≡ r.translation = vec3_back r.translation held.translation_held in
    let rotation : vec3_at (badekas_bytes r) 32 ≡ r.rotation = vec3_back r.rotation held.rotation-held in
    let scale : number_at (badekas_bytes r) 56 ≡ r.scale = number-back r.scale held.scale-held in
    let pivot : vec3_at (badekas_bytes r) 64 ≡ r.pivot = vec3_back r.pivot held.pivot-held in
    rw (flags, convention, translation, rotation, scale, pivot)

-- ---- read after write

-- a step's record, written as its body and read by its kind, is the same record
pub read_after_write : (st : Step) → Held st → step_of (kind_of st) (bytes_of st) ≡ st
unfolding step_of kind_of bytes_of length_of
read_after_write (Helmert h) held = rw (eq-eqb (length (helmert_bytes h)) 248 (length_helmert h), helmert_back h held)
read_after_write (Cart r) held = rw (eq-eqb (length (cart_bytes r)) 8 (length-cart r), cart-back r held)
read_after_write (Molodensky r) held = rw (eq-eqb (length (molodensky_bytes r)) 56 (length_molodensky r), molodensky_back r held)
read_after_write (Permtide r) held = rw (eq-eqb (length (permtide_bytes r)) 24 (length_permtide r), permtide_back r held)
read_after_write (Deformation r) held = rw (eq-eqb (length (deformation_bytes r)) 24 (length_deformation r), deformation_back r held)
read_after_write (Badekas r) held = rw (eq-eqb (length (badekas_bytes r)) 88 (length_badekas r), badekas_back r held)

-- what is written is written by the rule
pub written_in_rule_lem : (st : Step) → Held st → written_in_rule (kind_of st) (bytes_of st) ≡ true
unfolding written_in_rule kind_of bytes_of helmert_bytes le_series le_vec3 cart_bytes molodensky_bytes permtide_bytes deformation_bytes one_nan_at number_at le_number word64 le64 word32 le32
written_in_rule_lem (Helmert h) held =
    let epoch : one_nan_at (helmert_bytes h) 232 ≡ true = number_in_rule h.t_epoch held.t-epoch-held in
    let obs : one_nan_at (helmert_bytes h) 240 ≡ true = number_in_rule h.t_obs held.t-obs-held in
    rw (epoch, obs)
written_in_rule_lem (Cart r) held = refl
written_in_rule_lem (Molodensky r) held = refl
written_in_rule_lem (Permtide r) held = refl
written_in_rule_lem (Deformation r) held =
    let dt : one_nan_at (deformation_bytes r) 8 ≡ true = number_in_rule r.dt held.dt-held in
    let epoch : one_nan_at (deformation_bytes r) 16 ≡ true = number_in_rule r.epoch held.epoch-held in
    rw (dt, epoch)
written_in_rule_lem (Badekas r) held = refl

-- a record in rule is written as a body in rule
pub in_rule_after_write : (st : Step) → Held st → step_in_rule st ≡ true → body_in_rule (kind_of st) (bytes_of st) ≡ true
unfolding body_in_rule
in_rule_after_write st held h =
    rw (eq-eqb (length (bytes_of st)) (length_of (kind_of st)) (bytes-length st), written_in_rule_lem st held, read_after_write st held, h)

-- ---- write after read, a kind at a time: the bytes at a place are those of the field read there

all4 : (a b c d : Bool) → a && b && c && d ≡ true → (a ≡ true) × (b ≡ true) × (c ≡ true) × (d ≡ true)
all4 a b c d h =
    let abc = left (a && b && c) d h in
    let ab = left (a && b) c abc in
    (left a b ab, right a b ab, right (a && b) c abc, right (a && b && c) d h)

all5 : (a b c d e : Bool) → a && b && c && d && e ≡ true → (a ≡ true) × (b ≡ true) × (c ≡ true) × (d ≡ true) × (e ≡ true)
all5 a b c d e h =
    let r = all4 (a && b) c d e h in
    (left a b r.0, right a b r.0, r.1, r.2, r.3)

finite_is_no_nan : (x : Float) → finite x ≡ true → is_nan x ≡ false
unfolding is_nan
finite_is_no_nan nan h = absurd (subst T (sym h) tt)
finite_is_no_nan (inf s) h = refl
finite_is_no_nan (fin s m e) h = refl

number-kept : (b : List ℕ) (at : ℕ) → Bytes b → at + 8 ≤ length b → finite (number_at b at) ≡ true → le_number (number_at b at) ≡ take 8 (drop at b)
number-kept b at bytes h f = le_number-number_at b at bytes h (no_nan_in_rule b at (finite_is_no_nan (number_at b at) f))

vec3_kept : (b : List ℕ) (at : ℕ) → Bytes b → at + 24 ≤ length b → finite3_of (vec3_at b at) ≡ true → le_vec3 (vec3_at b at) ≡ take 24 (drop at b)
unfolding le_vec3 vec3_at finite3_of
vec3_kept b at bytes h f =
    let x = finite (number_at b at) in
    let y = finite (number_at b (at + 8)) in
    let z = finite (number_at b (at + 16)) in
    let fx : finite (number_at b at) ≡ true = left x y (left (x && y) z f) in
    let fy : finite (number_at b (at + 8)) ≡ true = right x y (left (x && y) z f) in
    let fz : finite (number_at b (at + 16)) ≡ true = right (x && y) z f in
    let hx : at + 8 ≤ length b = omega arith in
    let hy : at + 8 + 8 ≤ length b = omega arith in
    let hz : at + 16 + 8 ≤ length b = omega arith in
    rw (
      number-kept b at bytes hx fx,
      number-kept b (at + 8) bytes hy fy,
      number-kept b (at + 16) bytes hz fz,
      ← drop-drop 8 at b,
      ← drop-drop 16 at b,
      ← take-add 8 8 (drop at b),
      ← take-add 16 8 (drop at b),
    )

series_kept : (b : List ℕ) (at : ℕ) → le_vec3 (vec3_at b at) ≡ take 24 (drop at b) → le_vec3 (vec3_at b (at + 24)) ≡ take 24 (drop (at + 24) b)
    → le_vec3 (vec3_at b (at + 48)) ≡ take 24 (drop (at + 48) b) → le_vec3 (vec3_at b (at + 72)) ≡ take 24 (drop (at + 72) b)
    → le_series (vec3_at b at) (vec3_at b (at + 24)) (vec3_at b (at + 48)) (vec3_at b (at + 72)) ≡ take 96 (drop at b)
unfolding le_series
series_kept b at x y z w =
    rw (
      x,
      y,
      z,
      w,
      ← drop-drop 24 at b,
      ← drop-drop 48 at b,
      ← drop-drop 72 at b,
      ← take-add 24 24 (drop at b),
      ← take-add 48 24 (drop at b),
      ← take-add 72 24 (drop at b),
    )

zero-kept : (b : List ℕ) (at : ℕ) → Bytes b → at + 4 ≤ length b → eqb (word32 b at) 0 ≡ true → le32 0 ≡ take 4 (drop at b)
zero-kept b at bytes h z = ap le32 (sym (eqb-true (word32 b at) 0 z)) ∙ le32-word32 b at bytes h

cart-kept : (b : List ℕ) → Bytes b → length b ≡ 8 → eqb (word32 b 4) 0 ≡ true → cart_bytes (cart_of b) ≡ b
unfolding cart_bytes cart_of
cart-kept b bytes e z =
    let h0 : 4 ≤ length b = omega arith in
    let h4 : 8 ≤ length b = omega arith in
    rw (le32-word32 b 0 bytes h0, zero-kept b 4 bytes h4 z, ← take-add 4 4 b) (take_all 8 b (omega arith))

deformation_kept : (b : List ℕ) → Bytes b → length b ≡ 24 → one_nan_at b 8 && one_nan_at b 16 ≡ true → deformation_bytes (deformation_of b) ≡ b
unfolding deformation_bytes deformation_of
deformation_kept b bytes e n =
    let h4 : 4 ≤ length b = omega arith in
    let h8 : 8 ≤ length b = omega arith in
    let h16 : 16 ≤ length b = omega arith in
    let h24 : 24 ≤ length b = omega arith in
    rw (
      le32-word32 b 0 bytes h4,
      le32-word32 b 4 bytes h8,
      le_number-number_at b 8 bytes h16 (left (one_nan_at b 8) (one_nan_at b 16) n),
      le_number-number_at b 16 bytes h24 (right (one_nan_at b 8) (one_nan_at b 16) n),
      ← take-add 4 4 b,
      ← take-add 8 8 b,
      ← take-add 16 8 b,
    )
    (take_all 24 b (omega arith))

permtide_kept : (b : List ℕ) → Bytes b → length b ≡ 24 → eqb (word32 b 12) 0 ≡ true → finite (number_at b 16) ≡ true → permtide_bytes (permtide_of b) ≡ b
unfolding permtide_bytes permtide_of
permtide_kept b bytes e z f =
    let h4 : 4 ≤ length b = omega arith in
    let h8 : 8 ≤ length b = omega arith in
    let h12 : 12 ≤ length b = omega arith in
    let h16 : 16 ≤ length b = omega arith in
    let h24 : 24 ≤ length b = omega arith in
    rw (
      le32-word32 b 0 bytes h4,
      le32-word32 b 4 bytes h8,
      le32-word32 b 8 bytes h12,
      zero-kept b 12 bytes h16 z,
      number-kept b 16 bytes h24 f,
      ← take-add 4 4 b,
      ← take-add 8 4 b,
      ← take-add 12 4 b,
      ← take-add 16 8 b,
    )
    (take_all 24 b (omega arith))

molodensky_kept : (b : List ℕ) → Bytes b → length b ≡ 56 → eqb (word32 b 12) 0 ≡ true → finite_of (molodensky_of b) ≡ true
    → molodensky_bytes (molodensky_of b) ≡ b
unfolding molodensky_bytes molodensky_of
molodensky_kept b bytes e z f =
    let h4 : 4 ≤ length b = omega arith in
    let h8 : 8 ≤ length b = omega arith in
    let h12 : 12 ≤ length b = omega arith in
    let h16 : 16 ≤ length b = omega arith in
    let h24 : 24 ≤ length b = omega arith in
    let h32 : 32 ≤ length b = omega arith in
    let h40 : 40 ≤ length b = omega arith in
    let h48 : 48 ≤ length b = omega arith in
    let h56 : 56 ≤ length b = omega arith in
    let r =
    all5
    (finite (number_at b 16))
    (finite (number_at b 24))
    (finite (number_at b 32))
    (finite (number_at b 40))
    (finite (number_at b 48))
    f in
    rw (
      le32-word32 b 0 bytes h4,
      le32-word32 b 4 bytes h8,
      le32-word32 b 8 bytes h12,
      zero-kept b 12 bytes h16 z,
      number-kept b 16 bytes h24 r.0,
      number-kept b 24 bytes h32 r.1,
      number-kept b 32 bytes h40 r.2,
      number-kept b 40 bytes h48 r.3,
      number-kept b 48 bytes h56 r.4,
      ← take-add 4 4 b,
      ← take-add 8 4 b,
      ← take-add 12 4 b,
      ← take-add 16 8 b,
      ← take-add 24 8 b,
      ← take-add 32 8 b,
      ← take-add 40 8 b,
      ← take-add 48 8 b,
    )
    (take_all 56 b (omega arith))

-- the eight series of a Helmert body
vectors_kept : (b : List ℕ) → Bytes b → length b ≡ 248 → vectors_finite_of (helmert_of b) ≡ true
    → (le_series (vec3_at b 8) (vec3_at b 32) (vec3_at b 56) (vec3_at b 80) ≡ take 96 (drop 8 b))
    × (le_series (vec3_at b 104) (vec3_at b 128) (vec3_at b 152) (vec3_at b 176) ≡ take 96 (drop 104 b))
unfolding vectors_finite_of helmert_of
vectors_kept b bytes e f =
    let v : ℕ → Bool = λ at. finite3_of (vec3_at b at) in
    let r = all5 (v 8 && v 32 && v 56 && v 80) (v 104) (v 128) (v 152) (v 176) f in
    let q = all4 (v 8) (v 32) (v 56) (v 80) r.0 in
    let h8 : 32 ≤ length b = omega arith in
    let h32 : 56 ≤ length b = omega arith in
    let h56 : 80 ≤ length b = omega arith in
    let h80 : 104 ≤ length b = omega arith in
    let h104 : 128 ≤ length b = omega arith in
    let h128 : 152 ≤ length b = omega arith in
    let h152 : 176 ≤ length b = omega arith in
    let h176 : 200 ≤ length b = omega arith in (
      series_kept b 8
          (vec3_kept b 8 bytes h8 q.0)
          (vec3_kept b 32 bytes h32 q.1)
          (vec3_kept b 56 bytes h56 q.2)
          (vec3_kept b 80 bytes h80 q.3),
      series_kept b 104
          (vec3_kept b 104 bytes h104 r.1)
          (vec3_kept b 128 bytes h128 r.2)
          (vec3_kept b 152 bytes h152 r.3)
          (vec3_kept b 176 bytes h176 r.4),
    )

helmert_kept : (b : List ℕ) → Bytes b → length b ≡ 248 → one_nan_at b 232 && one_nan_at b 240 ≡ true → fields_in_rule_of (helmert_of b) ≡ true
    → helmert_bytes (helmert_of b) ≡ b
unfolding helmert_bytes helmert_of fields_in_rule_of scales_finite_of
helmert_kept b bytes e n f =
    let h4 : 4 ≤ length b = omega arith in
    let h8 : 8 ≤ length b = omega arith in
    let h208 : 208 ≤ length b = omega arith in
    let h216 : 216 ≤ length b = omega arith in
    let h224 : 224 ≤ length b = omega arith in
    let h232 : 232 ≤ length b = omega arith in
    let h240 : 240 ≤ length b = omega arith in
    let h248 : 248 ≤ length b = omega arith in
    let r =
    all5
    (ltb (word32 b 0) 16 && ltb (word32 b 4) 3)
    (vectors_finite_of (helmert_of b))
    (scales_finite_of (helmert_of b))
    (time_of (number_at b 232))
    (time_of (number_at b 240))
    f in
    let v = vectors_kept b bytes e r.1 in
    let q =
    all4
    (finite (number_at b 200))
    (finite (number_at b 208))
    (finite (number_at b 216))
    (finite (number_at b 224))
    r.2 in
    rw (
      le32-word32 b 0 bytes h4,
      le32-word32 b 4 bytes h8,
      v.0,
      v.1,
      number-kept b 200 bytes h208 q.0,
      number-kept b 208 bytes h216 q.1,
      number-kept b 216 bytes h224 q.2,
      number-kept b 224 bytes h232 q.3,
      le_number-number_at b 232 bytes h240 (left (one_nan_at b 232) (one_nan_at b 240) n),
      le_number-number_at b 240 bytes h248 (right (one_nan_at b 232) (one_nan_at b 240) n),
      ← take-add 4 4 b,
      ← take-add 8 96 b,
      ← take-add 104 96 b,
      ← take-add 200 8 b,
      ← take-add 208 8 b,
      ← take-add 216 8 b,
      ← take-add 224 8 b,
      ← take-add 232 8 b,
      ← take-add 240 8 b,
    )
    (take_all 248 b (omega arith))

badekas_kept : (b : List ℕ) → Bytes b → length b ≡ 88 → badekas_in_rule_of (badekas_of b) ≡ true → badekas_bytes (badekas_of b) ≡ b
unfolding badekas_bytes badekas_of badekas_in_rule_of
badekas_kept b bytes e f =
    let h4 : 4 ≤ length b = omega arith in
    let h8 : 8 ≤ length b = omega arith in
    let h32 : 32 ≤ length b = omega arith in
    let h56 : 56 ≤ length b = omega arith in
    let h64 : 64 ≤ length b = omega arith in
    let h88 : 88 ≤ length b = omega arith in
    let r =
    all5
    (ltb (word32 b 0) 8 && ltb (word32 b 4) 3)
    (finite3_of (vec3_at b 8))
    (finite3_of (vec3_at b 32))
    (finite (number_at b 56))
    (finite3_of (vec3_at b 64))
    f in
    rw (
      le32-word32 b 0 bytes h4,
      le32-word32 b 4 bytes h8,
      vec3_kept b 8 bytes h32 r.1,
      vec3_kept b 32 bytes h56 r.2,
      number-kept b 56 bytes h64 r.3,
      vec3_kept b 64 bytes h88 r.4,
      ← take-add 4 4 b,
      ← take-add 8 24 b,
      ← take-add 32 24 b,
      ← take-add 56 8 b,
      ← take-add 64 24 b,
    )
    (take_all 88 b (omega arith))

-- ---- write after read

second_of_lem : (a b c : Bool) → cond a (cond b c false) false ≡ true → b ≡ true
second_of_lem true true c h = refl
second_of_lem true false c h = h
second_of_lem false b c h = absurd (subst T (sym h) tt)

module _ (b : List ℕ) (bytes : Bytes b) where
  helmert-again : body_in_rule 1 b ≡ true → bytes_of (step_of 1 b) ≡ b
  unfolding bytes_of step_in_rule written_in_rule length_of
  helmert-again h =
      let e : length b ≡ 248 = length_in_rule 1 b h in
      let s = reads_helmert b e in
      ap bytes_of s ∙ helmert_kept b bytes e (body_written_in_rule 1 b h) (ap step_in_rule (sym s) ∙ step_of_body_in_rule 1 b h)

  cart-again : body_in_rule 2 b ≡ true → bytes_of (step_of 2 b) ≡ b
  unfolding bytes_of written_in_rule length_of
  cart-again h =
      let e : length b ≡ 8 = length_in_rule 2 b h in
      ap bytes_of (reads_cart b e) ∙ cart-kept b bytes e (body_written_in_rule 2 b h)

  molodensky-again : body_in_rule 3 b ≡ true → bytes_of (step_of 3 b) ≡ b
  unfolding bytes_of step_in_rule written_in_rule length_of
  molodensky-again h =
      let e : length b ≡ 56 = length_in_rule 3 b h in
      let s = reads_molodensky b e in
      let r = molodensky_of b in
      let f : in_rule_of (molodensky_of b) ≡ true = ap step_in_rule (sym s) ∙ step_of_body_in_rule 3 b h in
      let g = all5 (ltb r.flags 4) (exists_of r.first) (second_in_rule_of r) (finite_of r) (figure_in_rule_of r) f in
      ap bytes_of s ∙ molodensky_kept b bytes e (body_written_in_rule 3 b h) g.3

  permtide-again : body_in_rule 4 b ≡ true → bytes_of (step_of 4 b) ≡ b
  unfolding bytes_of step_in_rule written_in_rule length_of permtide_of
  permtide-again h =
      let e : length b ≡ 24 = length_in_rule 4 b h in
      let s = reads_permtide b e in
      let f : permtide_in_rule_of (permtide_of b) ≡ true = ap step_in_rule (sym s) ∙ step_of_body_in_rule 4 b h in
      let r = permtide_of b in
      ap bytes_of s
      ∙ permtide_kept b bytes e (body_written_in_rule 4 b h)
      (second_of_lem (exists_of r.ellipsoid) (finite r.k) (system_of r.to && system_of r.from) f)

  deformation-again : body_in_rule 5 b ≡ true → bytes_of (step_of 5 b) ≡ b
  unfolding bytes_of written_in_rule length_of
  deformation-again h =
      let e : length b ≡ 24 = length_in_rule 5 b h in
      ap bytes_of (reads_deformation b e) ∙ deformation_kept b bytes e (body_written_in_rule 5 b h)

  badekas-again : body_in_rule 6 b ≡ true → bytes_of (step_of 6 b) ≡ b
  unfolding bytes_of step_in_rule written_in_rule length_of
  badekas-again h =
      let e : length b ≡ 88 = length_in_rule 6 b h in
      let s = reads_badekas b e in
      ap bytes_of s ∙ badekas_kept b bytes e (ap step_in_rule (sym s) ∙ step_of_body_in_rule 6 b h)

-- a body in rule, read by its kind and written, is the same bytes
pub write_after_read : (k : ℕ) (b : List ℕ) → Bytes b → body_in_rule k b ≡ true → bytes_of (step_of k b) ≡ b
write_after_read k b bytes =
    by_kind
    (λ (n : ℕ). body_in_rule n b ≡ true → bytes_of (step_of n b) ≡ b)
    k
    (helmert-again b bytes)
    (cart-again b bytes)
    (molodensky-again b bytes)
    (permtide-again b bytes)
    (deformation-again b bytes)
    (badekas-again b bytes)
    (λ e1 e2 e3 e4 e5 e6 h. absurd (none k b h e1 e2 e3 e4 e5 e6))
