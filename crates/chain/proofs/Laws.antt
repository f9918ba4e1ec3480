-- The chain's laws: what a chain of one step and of steps A then B is; and the invariants by which
-- the loops over the steps are proved. Working definitions, which no promise cites: `left_from`,
-- `Forward`, `Backward`. Assumes nothing.
use Prim.Native.Nat.{ℕ, zero, suc, ◌+◌, ◌-◌, ◌≤◌, ◌<◌}
use native.Mathlib.Omega.{arith}
use mathlib.Core.Path.{◌≡◌, refl, sym, ap, ◌∙◌}
use mathlib.Core.Bool.{Bool, true, false}
use mathlib.Core.List.{List, [], ◌∷◌, ◌++◌, append_assoc, append-nil}
use lib.ListN.{length, take, drop, set, replicate, length-take, length-set, take-append-drop}
use lib.Seq.{take-suc-set, drop-set-lt, drop-cons, drop-drop, get_or-set_same}
use lib.Ieee.{Float}
use Rattle.sheet.specs.declared.Entry.{Entry}
use Rattle.lists.proofs.Laws.{ran_length}
use Rattle.tally.specs.declared.Tally.{Tally}
use Rattle.tally.specs.Tallies.{no_tally}
use Rattle.plans.specs.Lent.{Lent}
use Rattle.chain.specs.Chain.{turns_of, state_of, reversed_of, step_list_of, step_tally_of, chain_forward_of, chain_inverse_of, places_of, entries_of}

module _ (lent : Lent) where
  -- ---- a chain of one step is that step over the list

  pub one-step-forward : (e : Entry) (l : List Float)
      → chain_forward_of lent (e ∷ []) l
      ≡ record { list = step_list_of false lent e l; tallies = step_tally_of false lent e l ∷ [] }
  unfolding chain_forward_of
  one-step-forward e l = refl

  pub one-step-inverse : (e : Entry) (l : List Float)
      → chain_inverse_of lent (e ∷ []) l
      ≡ record { list = step_list_of true lent e l; tallies = step_tally_of true lent e l ∷ [] }
  unfolding chain_inverse_of
  one-step-inverse e l = refl

  -- ---- running steps A then B is running A's and then B's; inverse, B's and then A's

  pub then-forward : (a b : List Entry) (l : List Float)
      → chain_forward_of lent (a ++ b) l
      ≡ record {
        list = (chain_forward_of lent b (chain_forward_of lent a l).list).list;
        tallies = (chain_forward_of lent a l).tallies ++ (chain_forward_of lent b (chain_forward_of lent a l).list).tallies;
      }
  unfolding chain_forward_of
  then-forward [] b l = refl
  then-forward (e ∷ a) b l = rw (then-forward a b (step_list_of false lent e l))

  pub then-inverse : (a b : List Entry) (l : List Float)
      → chain_inverse_of lent (a ++ b) l
      ≡ record {
        list = (chain_inverse_of lent a (chain_inverse_of lent b l).list).list;
        tallies = (chain_inverse_of lent a (chain_inverse_of lent b l).list).tallies ++ (chain_inverse_of lent b l).tallies;
      }
  unfolding chain_inverse_of
  then-inverse [] b l = refl
  then-inverse (e ∷ a) b l = rw (then-inverse a b l)

-- a step leaves the list's length
pub step_length : (inverse : Bool) (lent : Lent) (e : Entry) (l : List Float)
    → length (step_list_of inverse lent e l) ≡ length l
unfolding step_list_of
step_length inverse lent e l =
    ran_length (turns_of (reversed_of inverse e) lent e.step) 0 (state_of e.step) l

-- ---- places for the tallies

-- one place filled: what stood before it stays, and what stands after it
module _ (tallies : List Tally) (i : ℕ) (n : Tally) (h : i < length tallies) where
  filled : take (i + 1) (set tallies i n) ≡ take i tallies ++ (n ∷ [])
  filled = let e : i + 1 ≡ suc i = omega arith in rw e (take-suc-set tallies i n h)

  left : drop (i + 1) (set tallies i n) ≡ drop (i + 1) tallies
  left = drop-set-lt (i + 1) tallies i n (omega arith)

  from-there : drop i (set tallies i n) ≡ n ∷ drop (i + 1) tallies
  from-there =
      let e : i + 1 ≡ suc i = omega arith in
      let g : i < length (set tallies i n) = rw (length-set tallies i n) h in
      drop-cons (set tallies i n) i no_tally g ∙ rw (get_or-set_same tallies i n no_tally h, ← e) (ap (λ (rest : List Tally). n ∷ rest) left)

fewer : (i : ℕ) (tallies : List Tally) → i < 16 → drop i tallies ≡ replicate (16 - i) no_tally → drop (i + 1) tallies ≡ replicate (16 - (i + 1)) no_tally
fewer i tallies h e =
    let s : 16 - i ≡ suc (16 - (i + 1)) = omega arith in
    sym (drop-drop 1 i tallies) ∙ ap (drop 1) e ∙ rw s

zeros : (m n : ℕ) → drop {A = Tally} n (replicate m no_tally) ≡ replicate (m - n) no_tally
zeros m zero = let s : m - 0 ≡ m = omega arith in rw s
zeros zero (suc n) = let s : 0 - suc n ≡ 0 = omega arith in rw s
zeros (suc m) (suc n) = let s : suc m - suc n ≡ m - n = omega arith in rw s (zeros m n)

-- a tally for each step
pub tallies_length : (lent : Lent) (es : List Entry) (l : List Float) → length (chain_inverse_of lent es l).tallies ≡ length es
unfolding chain_inverse_of
tallies_length lent [] l = refl
tallies_length lent (e ∷ es) l = ap suc (tallies_length lent es l)

pub forward_tallies_length : (lent : Lent) (es : List Entry) (l : List Float) → length (chain_forward_of lent es l).tallies ≡ length es
unfolding chain_forward_of
forward_tallies_length lent [] l = refl
forward_tallies_length lent (e ∷ es) l = ap suc (forward_tallies_length lent es (step_list_of false lent e l))

pub entries_length : (entry : ℕ → Entry) (n i : ℕ) → length (entries_of entry n i) ≡ n
unfolding entries_of
entries_length entry zero i = refl
entries_length entry (suc n) i = ap suc (entries_length entry n (suc i))

-- ---- the loops: over any way to an entry

-- the entries from index i on, of which n - i are left
abbrev pub left_from : (ℕ → Entry) → ℕ → ℕ → List Entry
left_from entry n i = entries_of entry (n - i) i

left_open : (entry : ℕ → Entry) (n i : ℕ) → i < n → left_from entry n i ≡ entry i ∷ left_from entry n (i + 1)
unfolding entries_of
left_open entry n i h =
    let s : n - i ≡ suc (n - (i + 1)) = omega arith in
    let e : i + 1 ≡ suc i = omega arith in
    rw (s, e)

left_none : (entry : ℕ → Entry) (n : ℕ) → left_from entry n n ≡ []
unfolding entries_of
left_none entry n = let s : n - n ≡ 0 = omega arith in rw s

-- forward: what the steps left make of the list, and of the tallies after those that stand, is what
-- all make of the list at the start
pub record Forward (lent : Lent) (entry : ℕ → Entry) (n : ℕ) (l₀ : List Float) (i : ℕ) (l : List Float) (tallies : List Tally) : Type 0 where
  pub within : i ≤ n
  pub places : length tallies ≡ 16
  pub long : length l ≡ length l₀
  pub list : (chain_forward_of lent (left_from entry n i) l).list ≡ (chain_forward_of lent (entries_of entry n 0) l₀).list
  pub told : take i tallies ++ (chain_forward_of lent (left_from entry n i) l).tallies ≡ (chain_forward_of lent (entries_of entry n 0) l₀).tallies
  pub rest : drop i tallies ≡ replicate (16 - i) no_tally

-- inverse: the list is what the steps from index i on have made of it, last first, and the tallies
-- from there on are theirs
pub record Backward (lent : Lent) (entry : ℕ → Entry) (n : ℕ) (l₀ : List Float) (i : ℕ) (l : List Float) (tallies : List Tally) : Type 0 where
  pub within : i ≤ n
  pub places : length tallies ≡ 16
  pub long : length l ≡ length l₀
  pub list : l ≡ (chain_inverse_of lent (left_from entry n i) l₀).list
  pub told : drop i tallies ≡ (chain_inverse_of lent (left_from entry n i) l₀).tallies ++ replicate (16 - n) no_tally

module _ (lent : Lent) (entry : ℕ → Entry) (n : ℕ) (l₀ : List Float) (most : n ≤ 16) where
  pub forward_start : Forward lent entry n l₀ 0 l₀ (replicate 16 no_tally)
  forward_start =
      let s : n - 0 ≡ n = omega arith in
      record { within = omega arith; places = refl; long = refl; list = rw s; told = rw s; rest = refl }

  pub backward_start : Backward lent entry n l₀ n l₀ (replicate 16 no_tally)
  unfolding chain_inverse_of
  backward_start =
      record {
        within = omega arith;
        places = refl;
        long = refl;
        list = rw (left_none entry n);
        told = rw (left_none entry n) (zeros 16 n);
      }

module _ {lent : Lent} {entry : ℕ → Entry} {n : ℕ} {l₀ : List Float} {i : ℕ} {l : List Float} {tallies : List Tally} (most : n ≤ 16) where
  pub forward-again : {e : Entry} {l' : List Float} {tally : Tally} → i < n → e ≡ entry i → l' ≡ step_list_of false lent e l → tally ≡ step_tally_of false lent e l
      → Forward lent entry n l₀ i l tallies → Forward lent entry n l₀ (i + 1) l' (set tallies i tally)
  unfolding chain_forward_of
  forward-again {e} {l'} {tally} h ee el ec now =
      let g : i < length tallies = omega (arith, now.places) in
      let a : l' ≡ step_list_of false lent (entry i) l = el ∙ ap (λ (x : Entry). step_list_of false lent x l) ee in
      let b : tally ≡ step_tally_of false lent (entry i) l = ec ∙ ap (λ (x : Entry). step_tally_of false lent x l) ee in
      record {
        within = omega arith;
        places = length-set tallies i tally ∙ now.places;
        long = ap length a ∙ step_length false lent (entry i) l ∙ now.long;
        list = rw a (rw (left_open entry n i h) at now.list);
        told = rw (filled tallies i tally g, append_assoc, b, a) (rw (left_open entry n i h) at now.told);
        rest = left tallies i tally g ∙ fewer i tallies (omega arith) now.rest;
      }

  pub forward-end : n ≤ i → Forward lent entry n l₀ i l tallies
      → (l ≡ (chain_forward_of lent (entries_of entry n 0) l₀).list) × (tallies ≡ places_of (chain_forward_of lent (entries_of entry n 0) l₀).tallies)
  unfolding chain_forward_of
  forward-end h now =
      let s : i ≡ n = omega (arith, now.within) in
      let none : left_from entry n i ≡ [] = rw s (left_none entry n) in
      let c : take i tallies ≡ (chain_forward_of lent (entries_of entry n 0) l₀).tallies = rw (none, append-nil) at now.told in
      let t : length (take i tallies) ≡ i = simp length-take (omega (arith, now.places)) in
      let k : length (chain_forward_of lent (entries_of entry n 0) l₀).tallies ≡ i = ap length (sym c) ∙ t in
      (rw none at now.list, sym (take-append-drop i tallies) ∙ rw (now.rest, c, k))

  pub backward-again : {e : Entry} {l' : List Float} {tally : Tally} (j : ℕ) → j + 1 ≡ i → e ≡ entry j → l' ≡ step_list_of true lent e l → tally ≡ step_tally_of true lent e l
      → Backward lent entry n l₀ i l tallies → Backward lent entry n l₀ j l' (set tallies j tally)
  unfolding chain_inverse_of
  backward-again {e} {l'} {tally} j s ee el ec now =
      let g : j < length tallies = omega (arith, now.places, now.within) in
      let h : j < n = omega (arith, now.within) in
      let a : l' ≡ step_list_of true lent (entry j) l = el ∙ ap (λ (x : Entry). step_list_of true lent x l) ee in
      let b : tally ≡ step_tally_of true lent (entry j) l = ec ∙ ap (λ (x : Entry). step_tally_of true lent x l) ee in
      record {
        within = omega (arith, now.within);
        places = length-set tallies j tally ∙ now.places;
        long = ap length a ∙ step_length true lent (entry j) l ∙ now.long;
        list = rw (left_open entry n j h, s, a) (ap (step_list_of true lent (entry j)) now.list);
        told = from-there tallies j tally g ∙ rw (left_open entry n j h, s, b, now.told, ← now.list);
      }

  pub backward-end : i ≡ 0 → Backward lent entry n l₀ i l tallies
      → (l ≡ (chain_inverse_of lent (entries_of entry n 0) l₀).list) × (tallies ≡ places_of (chain_inverse_of lent (entries_of entry n 0) l₀).tallies)
  backward-end s now =
      let z : n - 0 ≡ n = omega arith in
      let c : tallies ≡ (chain_inverse_of lent (entries_of entry n 0) l₀).tallies ++ replicate (16 - n) no_tally = rw (s, z) at now.told in
      let k : length (chain_inverse_of lent (entries_of entry n 0) l₀).tallies ≡ n =
      tallies_length lent (entries_of entry n 0) l₀ ∙ entries_length entry n 0
      in
      (rw (s, z) at now.list, c ∙ rw k)
