-- What is true of words and numbers in a list of bytes, for callers to cite: what was put is read,
-- what was read is put, and a run of puts is one. Assumes nothing.
use mathlib.Core.Path.{◌≡◌, refl, sym, ap, ◌∙◌, subst}
use Prim.Native.Nat.{ℕ, suc, ◌+◌, ◌-◌, ◌*◌, ◌/◌, ◌%◌, ◌^◌, ◌<◌, ◌≤◌}
use mathlib.Core.Bool.{Bool, true, false, not, cond}
use mathlib.Core.List.{List, [], ◌∷◌, ◌++◌, append-nil, append_assoc}
use native.Mathlib.Omega.{arith}
use native.Mathlib.Nat.{add_assoc, add-zero, zero-add}
use lib.Dec.{T, eqb, leb, leb→le}
use lib.ListN.{get_or, set, length, take, drop, length-append, length-take, length-drop, take-append-drop, get_or-eq_default}
use lib.Seq.{get_or-append-add, get_or-take, get_or-drop, take_at, drop-drop, drop-append-add, take-add, sets-eq}
use lib.Ieee.{Float, nan, inf, fin, binary64, of_bits, to_bits, fits, is_nan, of_fields}
use lib.Ieee.Bits.{of_bits-to_bits, to_bits-lt, to_bits-of_bits}
use borrow.Author.Tests.{le-leb, lt-leb, eqb-true}
use Rattle.std.specs.Int.{to_le_bytes, w32}
use Rattle.std.proofs.Math.Nat.{div-div-eq-div-mul}
use Rattle.words.specs.Words.{Bytes, word32, word64, number_at, one_nan_at, le32, le64, le_number, put, put_of}

-- past the end a byte reads as 0
pub past_end : (s : List ℕ) (i : ℕ) → length s ≤ i → get_or s i 0 ≡ 0
past_end s i h = get_or-eq_default s 0 h

-- and so does a word
pub word32_past_end : (s : List ℕ) (at : ℕ) → length s ≤ at → word32 s at ≡ 0
unfolding word32
word32_past_end s at h =
    let h1 : length s ≤ at + 1 = omega arith in
    let h2 : length s ≤ at + 2 = omega arith in
    let h3 : length s ≤ at + 3 = omega arith in
    rw (past_end s at h, past_end s (at + 1) h1, past_end s (at + 2) h2, past_end s (at + 3) h3)

-- ---- lengths

pub length-le32 : (n : ℕ) → length (le32 n) ≡ 4
unfolding le32
length-le32 n = refl

pub length-le64 : (n : ℕ) → length (le64 n) ≡ 8
unfolding le64 le32
length-le64 n = refl

pub length-le_number : (x : Float) → length (le_number x) ≡ 8
unfolding le_number
length-le_number x = length-le64 (to_bits binary64 x)

-- the bytes that std writes of a word are these
pub to_le_bytes-is : (n : ℕ) → to_le_bytes w32 n ≡ le32 n
unfolding le32
to_le_bytes-is n = rw (div-div-eq-div-mul n 256 256, div-div-eq-div-mul n (256 * 256) 256)

-- ---- sizes

pub word32_is_a_word : (s : List ℕ) (at : ℕ) → Bytes s → word32 s at < 2 ^ 32
unfolding word32
word32_is_a_word s at b = omega (arith, b at, b (at + 1), b (at + 2), b (at + 3))

pub word64_is_a_double_word : (s : List ℕ) (at : ℕ) → Bytes s → word64 s at < 2 ^ 64
unfolding word64
word64_is_a_double_word s at b = omega (arith, word32_is_a_word s at b, word32_is_a_word s (at + 4) b)

-- ---- reading what was put

-- at the start of a list
pub word32-le32 : (n : ℕ) (t : List ℕ) → n < 2 ^ 32 → word32 (le32 n ++ t) 0 ≡ n
unfolding word32 le32
word32-le32 n t h = omega arith

-- past what stands before
pub word32_past : (xs t : List ℕ) (k : ℕ) → word32 (xs ++ t) (length xs + k) ≡ word32 t k
unfolding word32
word32_past xs t k = simp (add_assoc, get_or-append-add)

pub word64_past : (xs t : List ℕ) (k : ℕ) → word64 (xs ++ t) (length xs + k) ≡ word64 t k
unfolding word64
word64_past xs t k = simp (add_assoc, word32_past)

pub word64-le64 : (n : ℕ) (t : List ℕ) → n < 2 ^ 64 → word64 (le64 n ++ t) 0 ≡ n
unfolding word64 le64 le32
word64-le64 n t h =
    let lo : n % 4294967296 < 2 ^ 32 = omega arith in
    let hi : n / 4294967296 < 2 ^ 32 = omega arith in
    let a : word32 (le32 (n % 4294967296) ++ le32 (n / 4294967296) ++ t) 0 ≡ n % 4294967296 =
    rw append_assoc (word32-le32 (n % 4294967296) (le32 (n / 4294967296) ++ t) lo) in
    let b : word32 (le32 (n % 4294967296) ++ le32 (n / 4294967296) ++ t) 4 ≡ n / 4294967296 =
    rw append_assoc (word32_past (le32 (n % 4294967296)) (le32 (n / 4294967296) ++ t) 0 ∙ word32-le32 (n / 4294967296) t hi) in
    omega (arith, a, b)

pub word_back : (n : ℕ) → n < 2 ^ 32 → word32 (le32 n) 0 ≡ n
unfolding word32 le32
word_back n h = word32-le32 n [] h

-- every binary64 number comes back, NaN and the zeros by sign among them
pub number-back : (x : Float) → T (fits binary64 x) → number_at (le_number x) 0 ≡ x
unfolding number_at le_number le64 le32
number-back x h = rw (word64-le64 (to_bits binary64 x) [] (to_bits-lt binary64 x h)) (of_bits-to_bits binary64 x h)

-- 64 bits come back, and a NaN's are those of "not given"
pub bits_of_number : (x : Float) → T (fits binary64 x) → word64 (le_number x) 0 ≡ to_bits binary64 x
unfolding le_number le64 le32
bits_of_number x h = word64-le64 (to_bits binary64 x) [] (to_bits-lt binary64 x h)

nan_in_rule : (x : Float) → cond (is_nan x) (eqb (to_bits binary64 x) 0x7ff8_0000_0000_0000) true ≡ true
unfolding is_nan to_bits
nan_in_rule nan = refl
nan_in_rule (inf s) = refl
nan_in_rule (fin s m e) = refl

-- a number is written in the one way
pub number_in_rule : (x : Float) → T (fits binary64 x) → one_nan_at (le_number x) 0 ≡ true
unfolding one_nan_at
number_in_rule x h = rw (number-back x h, bits_of_number x h) (nan_in_rule x)

-- ---- a part of a list

-- a word is read in the rest of a list as in the whole
pub word32_in_rest : (s : List ℕ) (at k : ℕ) → word32 (drop at s) k ≡ word32 s (at + k)
unfolding word32
word32_in_rest s at k = simp (get_or-drop, add_assoc)

-- a word is read in a part as in the whole
pub word32_in_part : (s : List ℕ) (at k n : ℕ) → k + 4 ≤ n → word32 (take n (drop at s)) k ≡ word32 s (at + k)
unfolding word32
word32_in_part s at k n h =
    let h0 : k < n = omega arith in
    let h1 : k + 1 < n = omega arith in
    let h2 : k + 2 < n = omega arith in
    let h3 : k + 3 < n = omega arith in
    simp (
      get_or-take n (drop at s) k 0 h0,
      get_or-take n (drop at s) (k + 1) 0 h1,
      get_or-take n (drop at s) (k + 2) 0 h2,
      get_or-take n (drop at s) (k + 3) 0 h3,
      get_or-drop,
      add_assoc,
    )

pub number_in_part : (s : List ℕ) (at k n : ℕ) → k + 8 ≤ n → number_at (take n (drop at s)) k ≡ number_at s (at + k)
unfolding number_at word64
number_in_part s at k n h =
    let h0 : k + 4 ≤ n = omega arith in
    let h4 : k + 4 + 4 ≤ n = omega arith in
    rw (word32_in_part s at k n h0, word32_in_part s at (k + 4) n h4, add_assoc at k 4)

-- ---- putting what was read

four : (l : List ℕ) → 4 ≤ length l → take 4 l ≡ get_or l 0 0 ∷ get_or l 1 0 ∷ get_or l 2 0 ∷ get_or l 3 0 ∷ []
four [] h = absurd (omega arith)
four (a ∷ []) h = absurd (omega arith)
four (a ∷ b ∷ []) h = absurd (omega arith)
four (a ∷ b ∷ c ∷ []) h = absurd (omega arith)
four (a ∷ b ∷ c ∷ d ∷ l) h = refl

lowest : (b m : ℕ) → b < 256 → (b + 256 * m) % 256 ≡ b
lowest b m h = omega arith

rest : (b m : ℕ) → b < 256 → (b + 256 * m) / 256 ≡ m
rest b m h = omega arith

-- the bytes at a place are those of the word there
pub le32-word32 : (s : List ℕ) (at : ℕ) → Bytes s → at + 4 ≤ length s → le32 (word32 s at) ≡ take 4 (drop at s)
unfolding word32 le32
le32-word32 s at b h =
    let b0 = b at in
    let b1 = b (at + 1) in
    let b2 = b (at + 2) in
    let b3 : get_or s (at + 3) 0 % 256 ≡ get_or s (at + 3) 0 = omega (arith, b (at + 3)) in
    let l : 4 ≤ length (drop at s) = simp length-drop (omega arith) in
    rw (four (drop at s) l) (simp (get_or-drop, add-zero, rest, lowest, b3))

pub le64-word64 : (s : List ℕ) (at : ℕ) → Bytes s → at + 8 ≤ length s → le64 (word64 s at) ≡ take 8 (drop at s)
unfolding le64 word64
le64-word64 s at b h =
    let x = word32_is_a_word s at b in
    let y = word32_is_a_word s (at + 4) b in
    let lo : (word32 s at + 4294967296 * word32 s (at + 4)) % 4294967296 ≡ word32 s at = omega arith in
    let hi : (word32 s at + 4294967296 * word32 s (at + 4)) / 4294967296 ≡ word32 s (at + 4) = omega arith in
    let p : at + 4 ≤ length s = omega arith in
    let q : at + 4 + 4 ≤ length s = omega arith in
    rw (lo, hi, le32-word32 s at b p, le32-word32 s (at + 4) b q, ← drop-drop 4 at s, ← take-add 4 4 (drop at s))

not_given : to_bits binary64 (of_bits binary64 0x7ff8_0000_0000_0000) ≡ 0x7ff8_0000_0000_0000
unfolding of_bits to_bits of_fields
not_given = refl

-- 64 bits come back from the number that they are, where a NaN is written in the one way
pub bits_back : (n : ℕ) → n < 2 ^ 64 → cond (is_nan (of_bits binary64 n)) (eqb n 0x7ff8_0000_0000_0000) true ≡ true
    → to_bits binary64 (of_bits binary64 n) ≡ n
bits_back n h p = by (is_nan (of_bits binary64 n)) refl p
  where
    by : (t : Bool) → is_nan (of_bits binary64 n) ≡ t → cond t (eqb n 0x7ff8_0000_0000_0000) true ≡ true → to_bits binary64 (of_bits binary64 n) ≡ n
    by true e q = rw (eqb-true n 0x7ff8_0000_0000_0000 q) not_given
    by false e q = to_bits-of_bits binary64 n h (subst (λ (t : Bool). T (not t)) (sym e) tt)

-- the bytes at a place are those of the number there
pub le_number-number_at : (s : List ℕ) (at : ℕ) → Bytes s → at + 8 ≤ length s → one_nan_at s at ≡ true → le_number (number_at s at) ≡ take 8 (drop at s)
unfolding le_number number_at one_nan_at
le_number-number_at s at b h p = rw (bits_back (word64 s at) (word64_is_a_double_word s at b) p) (le64-word64 s at b h)

-- a number that is no NaN is written in the one way
pub no_nan_in_rule : (s : List ℕ) (at : ℕ) → is_nan (number_at s at) ≡ false → one_nan_at s at ≡ true
unfolding one_nan_at
no_nan_in_rule s at h = rw h

-- ---- puts

pub put-fits : (l : List ℕ) (at : ℕ) (bs : List ℕ) → at + length bs ≤ length l → put_of l at bs ≡ put l at bs
unfolding put_of
put-fits l at bs h = rw (le-leb (at + length bs) (length l) h)

pub put_too_long : (l : List ℕ) (at : ℕ) (bs : List ℕ) → length l < at + length bs → put_of l at bs ≡ l
unfolding put_of
put_too_long l at bs h = rw (lt-leb (at + length bs) (length l) h)

pub length-put : (l : List ℕ) (at : ℕ) (bs : List ℕ) → at + length bs ≤ length l → length (put l at bs) ≡ length l
unfolding put
length-put l at bs h = simp (length-append, length-take, length-drop) (omega arith)

there : (l : List ℕ) (at : ℕ) (bs : List ℕ) → take at l ++ (bs ++ drop (length bs) (drop at l)) ≡ put l at bs
unfolding put
there l at bs = simp (drop-drop, append_assoc)

-- a part of a list, lent and given back with bs in it, is a put
pub put-part : (l : List ℕ) (at n : ℕ) {part : List ℕ} (bs : List ℕ) → part ≡ bs → length bs ≡ n → at + n ≤ length l
    → take at l ++ (part ++ drop (at + n - at) (drop at l)) ≡ put_of l at bs
put-part l at n bs p e h =
    let k : at + n - at ≡ length bs = omega arith in
    let fits : at + length bs ≤ length l = omega arith in
    rw (p, k, put-fits l at bs fits) (there l at bs)

-- two puts, the second where the first ends, are one
pub put-put : (l xs ys : List ℕ) (at n : ℕ) → length xs ≡ n → at + n ≤ length l → put (put l at xs) (at + n) ys ≡ put l at (xs ++ ys)
unfolding put
put-put l xs ys at n e h =
    let p : length (take at l ++ xs) ≡ at + n = simp (length-append, length-take) (omega arith) in
    rw (take_at (take at l ++ xs) (drop (at + length xs) l) (at + n) p)
    (rw (← p) (rw drop-append-add (simp (drop-drop, append_assoc, length-append, add_assoc))))

-- a double word is put as its two words
pub put_two : (l : List ℕ) (at n : ℕ) → at + 8 ≤ length l
    → put_of (put_of l at (le32 (n % 4294967296))) (at + 4) (le32 (n / 4294967296)) ≡ put_of l at (le64 n)
unfolding le64
put_two l at n h =
    let lo = le32 (n % 4294967296) in
    let hi = le32 (n / 4294967296) in
    let a = length-le32 (n % 4294967296) in
    let b = length-le32 (n / 4294967296) in
    let c : length (lo ++ hi) ≡ 8 = simp (length-append, length-le32) in
    let first : at + length lo ≤ length l = omega arith in
    let second : at + 4 + length hi ≤ length (put l at lo) = rw (length-put l at lo first) (omega arith) in
    let both : at + length (lo ++ hi) ≤ length l = omega arith in
    rw (put-fits l at lo first, put-fits (put l at lo) (at + 4) hi second, put-fits l at (lo ++ hi) both)
    (put-put l lo hi at 4 a (omega arith))

-- four bytes set one after another are one put
pub put_four : (l : List ℕ) (at a b c d : ℕ) → at + 4 ≤ length l
    → set (set (set (set l at a) (at + 1) b) (at + 2) c) (at + 3) d ≡ put l at (a ∷ b ∷ c ∷ d ∷ [])
unfolding put
put_four l at a b c d h =
    let e1 : at + 1 ≡ suc at = omega arith in
    let e2 : at + 2 ≡ suc (suc at) = omega arith in
    let e3 : at + 3 ≡ suc (suc (suc at)) = omega arith in
    rw (e1, e2, e3) (sets-eq (a ∷ b ∷ c ∷ d ∷ []) l at h)

-- ---- a run of puts, each where the one before ends

pub put_none : (l : List ℕ) (at : ℕ) → put l at [] ≡ l
unfolding put
put_none l at = simp (append-nil, add-zero, take-append-drop)

-- where there is room for n bytes from a place on, l₀ became l by putting the first k of them, xs
pub record Run (l₀ : List ℕ) (at n : ℕ) (l : List ℕ) (k : ℕ) (xs : List ℕ) : Type 0 where
  pub room : at + n ≤ length l₀
  pub became : l ≡ put l₀ at xs
  pub far : length xs ≡ k

pub run_starts : (l : List ℕ) (at n : ℕ) → at + n ≤ length l → Run l at n l 0 []
run_starts l at n h = record { room = h; became = sym (put_none l at); far = refl }

pub run_puts : {l₀ l l' xs : List ℕ} {at n k : ℕ} (ys : List ℕ) (j : ℕ) → Run l₀ at n l k xs → length ys ≡ j → T (leb (k + j) n)
    → l' ≡ put l (at + k) ys → Run l₀ at n l' (k + j) (xs ++ ys)
run_puts {l₀} {l} {l'} {xs} {at} {n} {k} ys j r e t p =
    let h = leb→le (k + j) n t in
    let a = r.room in
    let f = r.far in
    record {
      room = r.room;
      became = p ∙ ap (λ (m : List ℕ). put m (at + k) ys) r.became ∙ put-put l₀ xs ys at k r.far (omega arith);
      far = length-append xs ys ∙ (omega arith);
    }

-- where it fits, a put that looks whether it does is a put
run_looks : {l₀ l l' xs : List ℕ} {at n k : ℕ} (ys : List ℕ) (j : ℕ) → Run l₀ at n l k xs → length ys ≡ j → T (leb (k + j) n)
    → l' ≡ put_of l (at + k) ys → Run l₀ at n l' (k + j) (xs ++ ys)
run_looks {l₀} {l} {l'} {xs} {at} {n} {k} ys j r e t p =
    let h = leb→le (k + j) n t in
    let a = r.room in
    let f = r.far in
    let same : length l ≡ length l₀ = ap length r.became ∙ length-put l₀ at xs (omega arith) in
    run_puts ys j r e t (p ∙ put-fits l (at + k) ys (omega arith))

pub run_word : {l₀ l l' xs : List ℕ} {at n k : ℕ} (w : ℕ) → Run l₀ at n l k xs → T (leb (k + 4) n)
    → l' ≡ put_of l (at + k) (le32 w) → Run l₀ at n l' (k + 4) (xs ++ le32 w)
run_word w r t p = run_looks (le32 w) 4 r (length-le32 w) t p

pub run_number : {l₀ l l' xs : List ℕ} {at n k : ℕ} (x : Float) → Run l₀ at n l k xs → T (leb (k + 8) n)
    → l' ≡ put_of l (at + k) (le_number x) → Run l₀ at n l' (k + 8) (xs ++ le_number x)
run_number x r t p = run_looks (le_number x) 8 r (length-le_number x) t p

no_more : (m : List ℕ) → length m ≡ 0 → m ≡ []
no_more [] h = refl
no_more (a ∷ m) h = absurd (omega arith)

put_all : (l xs : List ℕ) → drop (length xs) l ≡ [] → put l 0 xs ≡ xs
unfolding put
put_all l xs e = simp (zero-add, e) (append-nil xs)

-- the first of a run
pub run_starts_number : {l l' : List ℕ} {at n : ℕ} (x : Float) → at + n ≤ length l → T (leb 8 n) → l' ≡ put_of l at (le_number x)
    → Run l at n l' 8 (le_number x)
run_starts_number {l} {l'} {at} {n} x h t p =
    run_number x (run_starts l at n h) t (p ∙ ap (λ (k : ℕ). put_of l k (le_number x)) (sym (add-zero at)))

-- a run that fills its list is all of it
pub run_fills : {l₀ l xs : List ℕ} {n : ℕ} → Run l₀ 0 n l n xs → length l₀ ≡ n → l ≡ xs
run_fills {l₀} {l} {xs} {n} r e =
    let f = r.far in
    let none : length (drop (length xs) l₀) ≡ 0 = simp length-drop (omega arith) in
    r.became ∙ put_all l₀ xs (no_more (drop (length xs) l₀) none)
