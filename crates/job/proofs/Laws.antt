-- What is true of jobs, for callers to cite. Assumes nothing.
use mathlib.Core.Path.{◌≡◌, refl, sym, ap, ◌∙◌}
use Prim.Native.Nat.{ℕ, zero, suc, ◌+◌, ◌-◌, ◌*◌, ◌<◌, ◌≤◌}
use mathlib.Core.List.{List, ◌++◌, append-nil}
use native.Mathlib.Omega.{arith}
use native.Mathlib.Nat.{add_assoc, add-zero, zero-add, sub-zero}
use native.Mathlib.Numerals.{add-one}
use lib.ListN.{length, take, drop, set}
use lib.Seq.{get_or-drop, drop-drop, take-suc-set, append_snoc, take_all}
use lib.Ieee.{Float}
use Rattle.words.specs.Words.{word32, word64, number_at}
use Rattle.job.specs.Job.{numbers_of}

-- ---- numbers

pub length-numbers_of : (k : ℕ) (bs : List ℕ) → length (numbers_of k bs) ≡ k
unfolding numbers_of
length-numbers_of zero bs = refl
length-numbers_of (suc k) bs = ap suc (length-numbers_of k (drop 8 bs))

-- a number is read in what is left as in the whole
pub number_in_rest : (bs : List ℕ) (at : ℕ) → number_at (drop at bs) 0 ≡ number_at bs at
unfolding number_at word64 word32
number_in_rest bs at = simp (get_or-drop, add-zero, zero-add, add_assoc)

-- one more number put into a list: what is done and what is to come
pub one_more : (l : List Float) (i n at : ℕ) (bs : List ℕ) (whole : List Float) → i < length l → length l ≡ n
    → take i l ++ numbers_of (n - i) (drop at bs) ≡ whole
    → take (i + 1) (set l i (number_at bs at)) ++ numbers_of (n - (i + 1)) (drop (at + 8) bs) ≡ whole
unfolding numbers_of
one_more l i n at bs whole h e w =
    let p : n - i ≡ suc (n - suc i) = omega arith in
    rw (← drop-drop 8 at bs, ← number_in_rest bs at, add-one i, take-suc-set l i (number_at (drop at bs) 0) h, append_snoc) (rw p at w)

-- before the first, and past the last
pub none_yet : (l : List Float) (bs : List ℕ) → take 0 l ++ numbers_of (length l - 0) (drop (8 * 0) bs) ≡ numbers_of (length l) bs
none_yet l bs = rw (sub-zero (length l))

pub all_read : (l : List Float) (i n : ℕ) (bs : List ℕ) (whole : List Float) → length l ≡ n → n ≤ i → take i l ++ numbers_of (n - i) bs ≡ whole → l ≡ whole
unfolding numbers_of
all_read l i n bs whole e h w =
    let z : n - i ≡ 0 = omega arith in
    sym (append-nil l) ∙ (rw (z, take_all i l (omega arith)) at w)
