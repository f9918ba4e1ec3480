-- What is true of text in a room, for callers to cite: pieces one after another are one piece.
-- Assumes nothing.
use mathlib.Core.Path.{◌≡◌, refl, sym, ap, ◌∙◌}
use Prim.Native.Nat.{ℕ, zero, suc, ◌+◌, ◌-◌, ◌^◌, ◌<◌, ◌≤◌, min}
use mathlib.Core.Bool.{Bool, true, false, cond}
use mathlib.Core.List.{List, [], ◌∷◌, ◌++◌, append-nil}
use native.Mathlib.Omega.{arith}
use native.Mathlib.Nat.{add-zero}
use lib.Dec.{ltb, leb}
use lib.ListN.{length, take, drop, set, length-append, length-take, length-drop, length-set, take-append-drop, drop_of_length-le}
use lib.Seq.{take_all, take-nil, take-suc-set, drop-set-lt, append_snoc}
use borrow.Author.Tests.{ltb-true, ltb-false}
use Rattle.text.specs.Text.{Text, text, appended}
use Rattle.text.specs.Digits.{digits_of, places_of, decimal_of, hex_of}

-- ---- byte by byte

-- past the room's end nothing is written
pub full : (l : List ℕ) (at : ℕ) (bs : List ℕ) → length l ≤ at → text l (length l) ≡ appended (text l at) bs
unfolding appended
full l at bs h =
    let z : length l - at ≡ 0 = omega arith in
    let m : min (at + length bs) (length l) ≡ length l = omega arith in
    let d : length l ≤ at + length bs = omega arith in
    rw (z, m, take_all at l h, drop_of_length-le l d, append-nil (l ++ []), append-nil l)

-- within it the first byte is written at the place, and the others from the next place on
pub first : (l : List ℕ) (at b : ℕ) (bs : List ℕ) → at < length l → appended (text l at) (b ∷ bs) ≡ appended (text (set l at b) (at + 1)) bs
unfolding appended
first l at b bs h =
    let p : length l - at ≡ suc (length l - (at + 1)) = omega arith in
    let q : at + suc (length bs) ≡ at + 1 + length bs = omega arith in
    let r : at + 1 ≡ suc at = omega arith in
    let s : at < at + 1 + length bs = omega arith in
    rw (p, q, length-set l at b, drop-set-lt (at + 1 + length bs) l at b s, r, take-suc-set l at b h, append_snoc)

-- no bytes: the place, brought within the room
pub none : (l : List ℕ) (at : ℕ) → text l (min at (length l)) ≡ appended (text l at) []
unfolding appended
none l at = rw (take-nil (length l - at), add-zero at, append-nil (take at l), take-append-drop at l)

-- nothing more, from a place within the room
pub no_more : (t : Text) → t.place ≤ length t.room → appended t [] ≡ t
no_more t h = sym (none t.room t.place) ∙ ap (text t.room) (let m : min t.place (length t.room) ≡ t.place = omega arith in m)

-- one byte
pub one : (l : List ℕ) (at b : ℕ) → at < length l → text (set l at b) (at + 1) ≡ appended (text l at) (b ∷ [])
one l at b h = sym (first l at b [] h ∙ no_more (text (set l at b) (at + 1)) (rw (length-set l at b) (omega arith)))

-- ---- pieces

from_within : (l : List ℕ) (at : ℕ) (ys : List ℕ) → appended (text l (min at (length l))) ys ≡ appended (text l at) ys
from_within l at ys = by (ltb at (length l)) refl
  where
    by : (t : Bool) → ltb at (length l) ≡ t → appended (text l (min at (length l))) ys ≡ appended (text l at) ys
    by true e =
        let h = ltb-true at (length l) e in
        let m : min at (length l) ≡ at = omega arith in
        rw m
    by false e =
        let h = ltb-false at (length l) e in
        let m : min at (length l) ≡ length l = omega arith in
        rw m (sym (full l (length l) ys (omega arith)) ∙ full l at ys h)

-- a byte and then more
after_first : (t : Text) (x : ℕ) (xs ys : List ℕ)
    → ((u : Text) → appended (appended u xs) ys ≡ appended u (xs ++ ys)) → appended (appended t (x ∷ xs)) ys ≡ appended t (x ∷ (xs ++ ys))
after_first t x xs ys rest = by (ltb t.place (length t.room)) refl
  where
    by : (b : Bool) → ltb t.place (length t.room) ≡ b → appended (appended t (x ∷ xs)) ys ≡ appended t (x ∷ (xs ++ ys))
    by true e =
        let h = ltb-true t.place (length t.room) e in
        ap (λ (u : Text). appended u ys) (first t.room t.place x xs h)
        ∙ rest (text (set t.room t.place x) (t.place + 1))
        ∙ sym (first t.room t.place x (xs ++ ys) h)
    by false e =
        let h = ltb-false t.place (length t.room) e in
        ap (λ (u : Text). appended u ys) (sym (full t.room t.place (x ∷ xs) h))
        ∙ sym (full t.room (length t.room) ys (omega arith))
        ∙ full t.room t.place (x ∷ (xs ++ ys)) h

-- two pieces, one after the other, are one, in any room
pub appended-twice : (t : Text) (xs ys : List ℕ) → appended (appended t xs) ys ≡ appended t (xs ++ ys)
appended-twice t [] ys = ap (λ (u : Text). appended u ys) (sym (none t.room t.place)) ∙ from_within t.room t.place ys
appended-twice t (x ∷ xs) ys = after_first t x xs ys (λ (u : Text). appended-twice u xs ys)

-- the same, as a caller has it: one call after another
pub then : (t : Text) (xs ys : List ℕ) {u v : Text} → u ≡ appended t xs → v ≡ appended u ys → v ≡ appended t (xs ++ ys)
then t xs ys {u} {v} p q = q ∙ ap (λ (w : Text). appended w ys) p ∙ appended-twice t xs ys

-- ---- the room's length, and the place within it

pub same_room : (t : Text) (bs : List ℕ) {u : Text} → u ≡ appended t bs → length u.room ≡ length t.room
unfolding appended
same_room t bs {u} p = ap (λ (w : Text). length w.room) p ∙ simp (length-append, length-take, length-drop) (omega arith)

pub place_within : (t : Text) (bs : List ℕ) {u : Text} → u ≡ appended t bs → u.place ≤ length u.room
unfolding appended
place_within t bs {u} p =
    let a = same_room t bs p in
    let b : u.place ≡ min (t.place + length bs) (length t.room) = ap (λ (w : Text). w.place) p in
    omega arith

-- where the bytes fit, the room is what stood before the place, the bytes, and what stood after
-- them
pub fits : (l : List ℕ) (at : ℕ) (bs : List ℕ) → at + length bs ≤ length l → appended (text l at) bs ≡ text (take at l ++ bs ++ drop (at + length bs) l) (at + length bs)
unfolding appended
fits l at bs h =
    let a : length bs ≤ length l - at = omega arith in
    let m : min (at + length bs) (length l) ≡ at + length bs = omega arith in
    rw (m, take_all (length l - at) bs a)

-- ---- a text written piece by piece in a loop

-- t₀ becomes t₀ with the whole appended, once t has the rest appended
pub record Going (t₀ : Text) (whole : List ℕ) (t : Text) (rest : List ℕ) : Type 0 where
  pub goal : appended t rest ≡ appended t₀ whole
  pub in-room : t.place ≤ length t.room
  pub as_long : length t.room ≡ length t₀.room

pub going_starts : (l : List ℕ) (at : ℕ) (whole : List ℕ) → Going (text l at) whole (text l (min at (length l))) whole
going_starts l at whole = record { goal = from_within l at whole; in-room = omega arith; as_long = refl }

-- a start that is a piece itself
pub going_on_from : {t₀ t : Text} (piece rest : List ℕ) → t ≡ appended t₀ piece → Going t₀ (piece ++ rest) t rest
going_on_from {t₀} {t} piece rest p =
    record { goal = ap (λ (u : Text). appended u rest) p ∙ appended-twice t₀ piece rest; in-room = place_within t₀ piece p; as_long = same_room t₀ piece p }

pub going_on : {t₀ t u : Text} {whole rest : List ℕ} (piece rest' : List ℕ) → Going t₀ whole t rest → u ≡ appended t piece → rest ≡ piece ++ rest'
    → Going t₀ whole u rest'
going_on {t₀} {t} {u} {whole} {rest} piece rest' g p e =
    record {
      goal = ap (λ (w : Text). appended w rest') p ∙ appended-twice t piece rest' ∙ ap (appended t) (sym e) ∙ g.goal;
      in-room = place_within t piece p;
      as_long = same_room t piece p ∙ g.as_long;
    }

pub going_ends : {t₀ t : Text} {whole rest : List ℕ} → Going t₀ whole t rest → rest ≡ [] → t ≡ appended t₀ whole
going_ends {t₀} {t} g e = sym (no_more t g.in-room) ∙ ap (appended t) (sym e) ∙ g.goal

-- a start that is within its room already
pub going_here : (t : Text) (whole : List ℕ) → t.place ≤ length t.room → Going t whole t whole
going_here t whole h = record { goal = refl; in-room = h; as_long = refl }

-- ---- how long numbers are

pub length_digits : (base k n : ℕ) → length (digits_of base k n) ≡ k
unfolding digits_of
length_digits base zero n = refl
length_digits base (suc k) n = ap suc (length_digits base k n)

few_places : (k n : ℕ) → places_of k n ≤ suc k
unfolding places_of
few_places zero n = omega arith
few_places (suc k) n = by (leb (10 ^ suc k) n) (few_places k n)
  where
    by : (b : Bool) → places_of k n ≤ suc k → cond b (suc (suc k)) (places_of k n) ≤ suc (suc k)
    by true h = omega arith
    by false h = omega arith

pub length_hex : (n : ℕ) → length (hex_of n) ≡ 16
unfolding hex_of
length_hex n = length_digits 16 16 n

pub decimal_is_short : (n : ℕ) → length (decimal_of n) ≤ 20
unfolding decimal_of
decimal_is_short n = rw (length_digits 10 (places_of 19 n) n) (few_places 19 n)
