-- A line for each count and each tuple, one after another. Assumes nothing.
use mathlib.Core.Path.{◌≡◌, refl}
use Prim.Native.Nat.{ℕ, zero, suc, ◌+◌, ◌*◌, ◌/◌, ◌<◌, ◌≤◌}
use mathlib.Core.Bool.{Bool, true, false, cond}
use mathlib.Core.List.{List, [], ◌∷◌, ◌++◌}
use lib.Dec.{eqb}
use native.Mathlib.Omega.{arith}
use native.Mathlib.Numerals.{add-one}
use lib.ListN.{length, take, get_or, length-append, length-take}
use lib.Ieee.{Float, nan}
use Rattle.text.specs.Ascii.{ascii}
use Rattle.text.proofs.Laws.{length_hex, decimal_is_short}
use Rattle.report.specs.Report.{line_of, refused_text, reach_text, count_text, counts_text, met_in, word_of, tuple_text, tuples_text, ran_text}

-- ---- counts

pub next_count : (met : ℕ → ℕ) (i c n n' : ℕ) (counts rest : List ℕ) → counts ≡ c ∷ rest → n' + 1 ≡ n
    → counts_text met i (take n counts) ≡ count_text (i + 1) c (met i) ++ counts_text met (i + 1) (take n' rest)
unfolding counts_text
next_count met i c n n' counts rest e k = rw (e, ← k, add-one n')

pub no_count : (met : ℕ → ℕ) (i n : ℕ) (counts : List ℕ) → (0 < n → length counts ≡ 0) → counts_text met i (take n counts) ≡ []
unfolding counts_text
no_count met i zero counts h = refl
no_count met i (suc n) [] h = refl
no_count met i (suc n) (c ∷ counts) h = let z = h (omega arith) in absurd (omega arith)

-- ---- tuples

pub next_tuple : (v rest : List Float) → length v ≡ 4
    → tuples_text (v ++ rest) ≡ tuple_text (get_or v 0 nan) (get_or v 1 nan) (get_or v 2 nan) (get_or v 3 nan) ++ tuples_text rest
unfolding tuples_text
next_tuple (x ∷ y ∷ z ∷ t ∷ []) rest h = refl
next_tuple [] rest h = absurd (omega arith)
next_tuple (x ∷ []) rest h = absurd (omega arith)
next_tuple (x ∷ y ∷ []) rest h = absurd (omega arith)
next_tuple (x ∷ y ∷ z ∷ []) rest h = absurd (omega arith)
next_tuple (x ∷ y ∷ z ∷ t ∷ u ∷ l) rest h = absurd (omega arith)

pub no_tuple : (l : List Float) → length l < 4 → tuples_text l ≡ []
unfolding tuples_text
no_tuple [] h = refl
no_tuple (x ∷ []) h = refl
no_tuple (x ∷ y ∷ []) h = refl
no_tuple (x ∷ y ∷ z ∷ []) h = refl
no_tuple (x ∷ y ∷ z ∷ t ∷ l) h = absurd (omega arith)

-- ---- how long the text is

line_is_short : (first : List ℕ) (a : ℕ) (second : List ℕ) (b : ℕ) → length (line_of first a second b) ≤ length first + length second + 41
unfolding line_of
line_is_short first a second b =
    let x = decimal_is_short a in
    let y = decimal_is_short b in
    simp length-append (omega arith)

pub refused_is_short : (number step : ℕ) → length (refused_text number step) ≤ 55
refused_is_short number step = line_is_short (ascii "refused ") number (ascii " step ") step

reach_is_short : (step count met : ℕ) → length (reach_text step count met) ≤ 89
unfolding reach_text
reach_is_short step count met =
    let x = decimal_is_short step in
    let y = decimal_is_short count in
    let z = decimal_is_short met in
    simp length-append (omega arith)

count_is_short : (step count met : ℕ) → length (count_text step count met) ≤ 89
count_is_short step count met = by (eqb met 0)
  where
    by : (b : Bool) → length (cond b (line_of (ascii "step ") step (ascii " counted ") count) (reach_text step count met)) ≤ 89
    by true = let x = line_is_short (ascii "step ") step (ascii " counted ") count in omega arith
    by false = reach_is_short step count met

counts_are_short : (met : ℕ → ℕ) (i : ℕ) (counts : List ℕ) → length (counts_text met i counts) ≤ 89 * length counts
unfolding counts_text
counts_are_short met i [] = omega arith
counts_are_short met i (c ∷ counts) =
    let x = count_is_short (i + 1) c (met i) in
    let y = counts_are_short met (i + 1) counts in
    simp length-append (omega arith)

length-word : (x : Float) (end : ℕ) → length (word_of x end) ≡ 17
unfolding word_of
length-word x end = simp (length-append, length_hex)

length_tuple : (x y z t : Float) → length (tuple_text x y z t) ≡ 68
unfolding tuple_text
length_tuple x y z t = simp (length-append, length-word)

tuples_are_short : (l : List Float) → length (tuples_text l) ≤ 17 * length l
unfolding tuples_text
tuples_are_short (x ∷ y ∷ z ∷ t ∷ rest) =
    let a = tuples_are_short rest in
    let b = length_tuple x y z t in
    simp length-append (omega arith)
tuples_are_short (x ∷ y ∷ z ∷ []) = omega arith
tuples_are_short (x ∷ y ∷ []) = omega arith
tuples_are_short (x ∷ []) = omega arith
tuples_are_short [] = omega arith

-- 55 bytes the first line, 89 a step, 68 a tuple
pub ran_is_short : (steps : ℕ) (counts mets : List ℕ) (l : List Float) → length (ran_text steps counts mets l) ≤ 55 + 89 * steps + 17 * length l
unfolding ran_text
ran_is_short steps counts mets l =
    let a = line_is_short (ascii "steps ") steps (ascii " tuples ") (length l / 4) in
    let b = counts_are_short (met_in mets) 0 (take steps counts) in
    let c = tuples_are_short l in
    let d : length (take steps counts) ≤ steps = simp length-take (omega arith) in
    simp length-append (omega arith)
