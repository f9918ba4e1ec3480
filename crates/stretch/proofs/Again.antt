-- Redoing, turn by turn over what is left of the three lists: the form in which the loop is proved.
-- Working definitions, which no promise cites: `Again`, `again_of`, `joined`, `Redoing`. Assumes
-- nothing.
use Prim.Native.Nat.{ℕ, suc, ◌+◌, ◌-◌, ◌/◌, ◌≤◌, ◌<◌}
use native.Mathlib.Omega.{arith}
use native.Mathlib.Nat.{add-zero, add_assoc, add_comm}
use mathlib.Core.Bool.{Bool, true, false}
use mathlib.Core.Path.{◌≡◌, refl, ap, ◌∙◌}
use mathlib.Core.List.{List, [], ◌∷◌, ◌++◌, append_assoc}
use lib.ListN.{length, take, drop, length-drop, take-append-drop}
use lib.Seq.{drop-drop}
use lib.Ieee.{Float}
use Rattle.tuple.specs.declared.Tuple.{Tuple}
use Rattle.helmert.specs.declared.State.{State}
use Rattle.lists.specs.Flat.{four_of, numbers_of, tuple_at, put_at}
use Rattle.lists.specs.Run.{Turn, Turns}
use Rattle.lists.proofs.Places.{from_place, put-there, put-take, put-drop, put-length}
use Rattle.stretch.specs.Same.{alike_of}
use Rattle.lists.proofs.Results.{tuple_beyond}
use Rattle.stretch.specs.Kept.{tracked_of}

-- how many fixes, and what is left of the results and the track afterwards
pub record Again : Type 0 where
  pub count : ℕ
  pub results : List Float
  pub track : List Float

abbrev pub again : ℕ → List Float → List Float → Again
again n rs ts = record { count = n; results = rs; track = ts }

-- one fix, with what the rest gives
abbrev pub one_of : Bool → Turn State → List Float → List Float → Again → Again
one_of true turn rs ts rest = again 1 (numbers_of turn.tuple ++ rs) (numbers_of (tracked_of turn.state) ++ ts)
one_of false turn rs ts rest =
    again (rest.count + 1) (numbers_of turn.tuple ++ rest.results) (numbers_of (tracked_of turn.state) ++ rest.track)

-- from index k, in a state, over what is left of the list, the results and the track
abbrev pub again_of : Turns State → ℕ → State → List Float → List Float → List Float → Again
again_of f k state (x ∷ y ∷ z ∷ t ∷ rest) rs ts =
    one_of (alike_of (tracked_of (f k state (four_of x y z t)).state) (tuple_at ts 0)) (f k state (four_of x y z t)) (drop 4 rs) (drop 4 ts)
    (again_of f (suc k) (f k state (four_of x y z t)).state rest (drop 4 rs) (drop 4 ts))
again_of f k state (x ∷ y ∷ z ∷ []) rs ts = again 0 rs ts
again_of f k state (x ∷ y ∷ []) rs ts = again 0 rs ts
again_of f k state (x ∷ []) rs ts = again 0 rs ts
again_of f k state [] rs ts = again 0 rs ts

-- with n fixes done before the place i
abbrev pub joined : ℕ → ℕ → List Float → List Float → Again → Again
joined n i rs ts d = again (n + d.count) (take i rs ++ d.results) (take i ts ++ d.track)

tuple_from : (l : List Float) (i : ℕ) → tuple_at (drop i l) 0 ≡ tuple_at l i
tuple_from l i = tuple_beyond l i 0 ∙ ap (tuple_at l) (add-zero i)

pub again-short : (f : Turns State) (k : ℕ) (state : State) (l rs ts : List Float) → length l < 4 → again_of f k state l rs ts ≡ again 0 rs ts
again-short f k state (x ∷ y ∷ z ∷ t ∷ rest) rs ts h = absurd (omega arith)
again-short f k state (x ∷ y ∷ z ∷ []) rs ts h = refl
again-short f k state (x ∷ y ∷ []) rs ts h = refl
again-short f k state (x ∷ []) rs ts h = refl
again-short f k state [] rs ts h = refl

abbrev turn_at : Turns State → State → List Float → ℕ → Turn State
turn_at f state l i = f (i / 4) state (tuple_at l i)

next_index : (i : ℕ) → suc (i / 4) ≡ (i + 4) / 4
next_index i = omega arith

-- the redoing at a place: its fix, and the redoing from the next place on
again_open : (f : Turns State) (state : State) (l rs ts : List Float) (i : ℕ) → i + 4 ≤ length l
    → again_of f (i / 4) state (drop i l) (drop i rs) (drop i ts)
    ≡ one_of (alike_of (tracked_of (turn_at f state l i).state) (tuple_at ts i)) (turn_at f state l i) (drop (i + 4) rs) (drop (i + 4) ts)
    (again_of f ((i + 4) / 4) (turn_at f state l i).state (drop (i + 4) l) (drop (i + 4) rs) (drop (i + 4) ts))
again_open f state l rs ts i h = rw (from_place l i h, tuple_from ts i, drop-drop 4 i rs, drop-drop 4 i ts, ← next_index i)

module _ (f : Turns State) (state : State) (l rs ts : List Float) (i n : ℕ) where
  pub again-end : {out : Again} → length l - i < 4 → joined n i rs ts (again_of f (i / 4) state (drop i l) (drop i rs) (drop i ts)) ≡ out → again n rs ts ≡ out
  again-end h inv =
      let short : length (drop i l) < 4 = simp length-drop h in
      rw (again-short f (i / 4) state (drop i l) (drop i rs) (drop i ts) short, take-append-drop i rs, take-append-drop i ts, add-zero) at inv

  module _ {v w : Tuple} {met : Bool} {rs' ts' : List Float} {out : Again}
      (hl : i + 4 ≤ length l) (hr : i + 4 ≤ length rs) (ht : i + 4 ≤ length ts)
      (ev : v ≡ (turn_at f state l i).tuple) (ew : w ≡ tracked_of (turn_at f state l i).state)
      (ers : rs' ≡ put_at rs i v) (ets : ts' ≡ put_at ts i w) (em : met ≡ alike_of w (tuple_at ts i))
      (inv : joined n i rs ts (again_of f (i / 4) state (drop i l) (drop i rs) (drop i ts)) ≡ out) where
    test : alike_of (tracked_of (turn_at f state l i).state) (tuple_at ts i) ≡ met
    test = rw (em, ew)

    pub again-stop : met ≡ true → again (n + 1) rs' ts' ≡ out
    again-stop e =
        rw (ers, ets, ev, ew, put-there rs i (turn_at f state l i).tuple hr, put-there ts i (tracked_of (turn_at f state l i).state) ht, append_assoc, append_assoc)
        (rw (again_open f state l rs ts i hl, test, e) at inv)

    pub again-go : met ≡ false
        → joined (n + 1) (i + 4) rs' ts' (again_of f ((i + 4) / 4) (turn_at f state l i).state (drop (i + 4) l) (drop (i + 4) rs') (drop (i + 4) ts')) ≡ out
    again-go e =
        let r : rs' ≡ put_at rs i (turn_at f state l i).tuple = rw (ers, ev) in
        let t : ts' ≡ put_at ts i (tracked_of (turn_at f state l i).state) = rw (ets, ew) in
        let r1 : take (i + 4) rs' ≡ take i rs ++ numbers_of (turn_at f state l i).tuple = rw r (put-take rs i _ hr) in
        let r2 : drop (i + 4) rs' ≡ drop (i + 4) rs = rw r (put-drop rs i _ hr) in
        let t1 : take (i + 4) ts' ≡ take i ts ++ numbers_of (tracked_of (turn_at f state l i).state) = rw t (put-take ts i _ ht) in
        let t2 : drop (i + 4) ts' ≡ drop (i + 4) ts = rw t (put-drop ts i _ ht) in
        rw (r1, r2, t1, t2, append_assoc, append_assoc, add_assoc n 1, add_comm 1) (rw (again_open f state l rs ts i hl, test, e) at inv)

-- ---- the loop

-- what is done and what is left to do are the redoing from the place where it began
pub record Redoing (f : Turns State) (start : State) (l rs₀ ts₀ : List Float) (at i : ℕ) (state : State) (rs ts : List Float) (n : ℕ) : Type 0 where
  pub within : i ≤ length l
  pub long-results : length rs ≡ length l
  pub long-track : length ts ≡ length l
  pub few : n ≤ i
  pub are : joined n i rs ts (again_of f (i / 4) state (drop i l) (drop i rs) (drop i ts)) ≡ joined 0 at rs₀ ts₀ (again_of f (at / 4) start (drop at l) (drop at rs₀) (drop at ts₀))

pub redoing_start : (f : Turns State) (start : State) (l rs ts : List Float) (at : ℕ) → at ≤ length l → length rs ≡ length l → length ts ≡ length l
    → Redoing f start l rs ts at at start rs ts 0
redoing_start f start l rs ts at h er et = record { within = h; long-results = er; long-track = et; few = omega arith; are = refl }

module _ {f : Turns State} {start : State} {l rs₀ ts₀ : List Float} {at i : ℕ} {state : State} {rs ts : List Float} {n : ℕ}
    (now : Redoing f start l rs₀ ts₀ at i state rs ts n) where
  pub redoing-end : length l - i < 4 → again n rs ts ≡ joined 0 at rs₀ ts₀ (again_of f (at / 4) start (drop at l) (drop at rs₀) (drop at ts₀))
  redoing-end h = again-end f state l rs ts i n h now.are

  pub redoing-results-long : (v : Tuple) {rs' : List Float} → i + 4 ≤ length l → rs' ≡ put_at rs i v → length rs' ≡ length l
  redoing-results-long v h er = ap length er ∙ put-length rs i v (rw now.long-results h) ∙ now.long-results

  pub redoing-track-long : (w : Tuple) {ts' : List Float} → i + 4 ≤ length l → ts' ≡ put_at ts i w → length ts' ≡ length l
  redoing-track-long w h et = ap length et ∙ put-length ts i w (rw now.long-track h) ∙ now.long-track

  module _ {v w : Tuple} {met : Bool} {rs' ts' : List Float} (h : i + 4 ≤ length l)
      (ev : v ≡ (turn_at f state l i).tuple) (ew : w ≡ tracked_of (turn_at f state l i).state)
      (er : rs' ≡ put_at rs i v) (et : ts' ≡ put_at ts i w) (em : met ≡ alike_of w (tuple_at ts i)) where
    hr : i + 4 ≤ length rs
    hr = rw now.long-results h

    ht : i + 4 ≤ length ts
    ht = rw now.long-track h

    pub redoing-stop : met ≡ true → again (n + 1) rs' ts' ≡ joined 0 at rs₀ ts₀ (again_of f (at / 4) start (drop at l) (drop at rs₀) (drop at ts₀))
    redoing-stop e = again-stop f state l rs ts i n h hr ht ev ew er et em now.are e

    pub redoing-again : met ≡ false → Redoing f start l rs₀ ts₀ at (i + 4) (turn_at f state l i).state rs' ts' (n + 1)
    redoing-again e =
        record {
          within = h;
          long-results = redoing-results-long v h er;
          long-track = redoing-track-long w h et;
          few = omega (arith, now.few);
          are = again-go f state l rs ts i n h hr ht ev ew er et em now.are e;
        }
