-- The track alone: by the times of a list it is the run's own track, a fix, a window and a list at
-- a time; and what a loop over fixes, or over windows of them, has written so far. Working
-- definitions, which no promise cites: `Tracking`, `Retracking`, `joined_track`, `then_of`. Assumes
-- nothing.
use Prim.Native.Nat.{ℕ, suc, ◌+◌, ◌-◌, ◌*◌, ◌%◌, ◌≤◌, ◌<◌}
use native.Mathlib.Omega.{arith}
use native.Mathlib.Nat.{add-zero, zero-add}
use mathlib.Core.Bool.{Bool, true, false}
use mathlib.Core.Path.{◌≡◌, refl, sym, ap, ◌∙◌, subst}
use mathlib.Core.List.{List, [], ◌∷◌, ◌++◌, append_assoc, append-nil}
use lib.Dec.{T}
use lib.ListN.{length, take, drop, length-drop, length-append, take-append-drop, drop_of_length-le}
use lib.Seq.{take_all, drop-drop, drop-cons, take_at, drop_at, length-take-le}
use lib.Ieee.{Float, nan}
use Rattle.blocks.specs.Each.{at}
use Rattle.tuple.specs.declared.Tuple.{Tuple}
use Rattle.helmert.specs.declared.Shift.{Shift}
use Rattle.helmert.specs.declared.State.{State}
use Rattle.helmert.specs.Modes.{is_running_of, running_of, step_of}
use Rattle.helmert.specs.Turns.{helmert_turns}
use Rattle.lists.specs.Flat.{four_of, numbers_of, tuple_at, put_at}
use Rattle.lists.specs.Run.{Turn, Turns, track_of, state_after_of}
use Rattle.lists.proofs.Places.{from_place, put-there, put-take, put-length}
use Rattle.lists.proofs.Results.{tuple_first}
use Rattle.columns.specs.Columns.{column_of}
use Rattle.stretch.specs.Same.{alike_of}
use Rattle.stretch.specs.Kept.{tracked_of}
use Rattle.stretch.specs.Track.{moved_of, moved_by_of, tracks_of, Retracked, retracked, one_retracked, retrack_of}
use Rattle.stretch.proofs.Again.{Again, one_of, again_of}

-- ---- the state of a fix is moved by its time

abbrev times_of : List Float → List Float
times_of l = column_of (λ (v : Tuple). v.t) l

by_mode : (shift : Shift) (inverse running : Bool) → is_running_of shift ≡ running
    → (k : ℕ) (state : State) (v : Tuple) → moved_of shift state v.t ≡ (helmert_turns inverse shift k state v).state
unfolding moved_of step_of running_of
by_mode shift inverse true e k state v = rw e
by_mode shift inverse false e k state v = rw e

pub turn_moves : (shift : Shift) (inverse : Bool) (k : ℕ) (state : State) (v : Tuple) → moved_of shift state v.t ≡ (helmert_turns inverse shift k state v).state
turn_moves shift inverse = by_mode shift inverse (is_running_of shift) refl

-- ---- by the times, the run's own state, track and redoing

module _ (shift : Shift) (inverse : Bool) where
  abbrev f : Turns State
  f = helmert_turns inverse shift

  pub moved-by-times : (k : ℕ) (state : State) (l : List Float) → moved_by_of shift state (times_of l) ≡ state_after_of f k state l
  unfolding column_of
  moved-by-times k state (x ∷ y ∷ z ∷ t ∷ rest) =
      ap (λ (s : State). moved_by_of shift s (times_of rest)) (turn_moves shift inverse k state (four_of x y z t))
      ∙ moved-by-times (suc k) (f k state (four_of x y z t)).state rest
  moved-by-times k state (x ∷ y ∷ z ∷ []) = refl
  moved-by-times k state (x ∷ y ∷ []) = refl
  moved-by-times k state (x ∷ []) = refl
  moved-by-times k state [] = refl

  pub track-by-times : (k : ℕ) (state : State) (l : List Float) → length l % 4 ≡ 0 → tracks_of shift state (times_of l) ≡ track_of tracked_of f k state l
  unfolding column_of
  track-by-times k state (x ∷ y ∷ z ∷ t ∷ rest) h =
      ap (λ (s : State). numbers_of (tracked_of s) ++ tracks_of shift s (times_of rest)) (turn_moves shift inverse k state (four_of x y z t))
      ∙ ap (λ (u : List Float). numbers_of (tracked_of (f k state (four_of x y z t)).state) ++ u) (track-by-times (suc k) (f k state (four_of x y z t)).state rest (omega (arith, h)))
  track-by-times k state (x ∷ y ∷ z ∷ []) h = absurd (omega (arith, h))
  track-by-times k state (x ∷ y ∷ []) h = absurd (omega (arith, h))
  track-by-times k state (x ∷ []) h = absurd (omega (arith, h))
  track-by-times k state [] h = refl

  -- the count and the track of a redoing, whatever the results held
  pub record Alike (d : Retracked) (a : Again) : Type 0 where
    pub count : d.count ≡ a.count
    pub track : d.track ≡ a.track

  one_alike : (b : Bool) (turn : Turn State) (rs ts : List Float) (d : Retracked) (a : Again) → Alike d a → Alike (one_retracked b turn.state ts d) (one_of b turn rs ts a)
  one_alike true turn rs ts d a h = record { count = refl; track = refl }
  one_alike false turn rs ts d a h =
      record {
        count = ap (λ (n : ℕ). n + 1) h.count;
        track = ap (λ (u : List Float). numbers_of (tracked_of turn.state) ++ u) h.track;
      }

  pub retrack-by-times : (k : ℕ) (state : State) (l rs ts : List Float) → Alike (retrack_of shift state (times_of l) ts) (again_of f k state l rs ts)
  unfolding column_of
  retrack-by-times k state (x ∷ y ∷ z ∷ t ∷ rest) rs ts =
      let turn = f k state (four_of x y z t) in
      subst (λ (s : State). Alike (one_retracked (alike_of (tracked_of s) (tuple_at ts 0)) s (drop 4 ts) (retrack_of shift s (times_of rest) (drop 4 ts))) (again_of f k state (x ∷ y ∷ z ∷ t ∷ rest) rs ts))
      (sym (turn_moves shift inverse k state (four_of x y z t)))
      (one_alike (alike_of (tracked_of turn.state) (tuple_at ts 0)) turn (drop 4 rs) (drop 4 ts) _ _ (retrack-by-times (suc k) turn.state rest (drop 4 rs) (drop 4 ts)))
  retrack-by-times k state (x ∷ y ∷ z ∷ []) rs ts = record { count = refl; track = refl }
  retrack-by-times k state (x ∷ y ∷ []) rs ts = record { count = refl; track = refl }
  retrack-by-times k state (x ∷ []) rs ts = record { count = refl; track = refl }
  retrack-by-times k state [] rs ts = record { count = refl; track = refl }

-- ---- one window of times after another

pub moved-append : (shift : Shift) (state : State) (a b : List Float) → moved_by_of shift state (a ++ b) ≡ moved_by_of shift (moved_by_of shift state a) b
moved-append shift state (t ∷ a) b = moved-append shift (moved_of shift state t) a b
moved-append shift state [] b = refl

pub tracks_append : (shift : Shift) (state : State) (a b : List Float) → tracks_of shift state (a ++ b) ≡ tracks_of shift state a ++ tracks_of shift (moved_by_of shift state a) b
tracks_append shift state (t ∷ a) b =
    ap (λ (u : List Float). numbers_of (tracked_of (moved_of shift state t)) ++ u) (tracks_append shift (moved_of shift state t) a b)
tracks_append shift state [] b = refl

-- what a window gives, and then the rest, which is reached where the states have not met
abbrev pub then_of : Bool → Retracked → List Float → Retracked → Retracked
then_of true d track rest = retracked d.count true d.state (d.track ++ track)
then_of false d track rest = retracked (d.count + rest.count) rest.met rest.state (d.track ++ rest.track)

abbrev and_then : Retracked → List Float → Retracked → Retracked
and_then d track rest = then_of d.met d track rest

one_then : (b : Bool) (state : State) (ta tb : List Float) (d : Retracked) (rest : State → Retracked)
    → one_retracked b state (ta ++ tb) (and_then d tb (rest d.state)) ≡ and_then (one_retracked b state ta d) tb (rest (one_retracked b state ta d).state)
one_then true state ta tb d rest = refl
one_then false state ta tb d rest = not_yet d.met refl
  where
    not_yet : (met : Bool) → d.met ≡ met
        → one_retracked false state (ta ++ tb) (and_then d tb (rest d.state)) ≡ and_then (one_retracked false state ta d) tb (rest (one_retracked false state ta d).state)
    not_yet true m = rw m
    not_yet false m =
        let n : d.count + (rest d.state).count + 1 ≡ d.count + 1 + (rest d.state).count = omega arith in
        rw (m, n)

pub retrack_append : (shift : Shift) (state : State) (a b ta tb : List Float) → length ta ≡ 4 * length a
    → retrack_of shift state (a ++ b) (ta ++ tb) ≡ and_then (retrack_of shift state a ta) tb (retrack_of shift (retrack_of shift state a ta).state b tb)
retrack_append shift state [] b [] tb h = rw (zero-add (retrack_of shift state b tb).count)
retrack_append shift state [] b (y ∷ ta) tb h = absurd (omega (arith, h))
retrack_append shift state (t ∷ a) b (p ∷ q ∷ r ∷ s ∷ ta) tb h =
    let now = moved_of shift state t in
    let v = four_of p q r s in
    let d = retrack_of shift now a ta in
    ap (λ (u : Retracked). one_retracked (alike_of (tracked_of now) (tuple_at (numbers_of v ++ (ta ++ tb)) 0)) now (ta ++ tb) u) (retrack_append shift now a b ta tb (omega (arith, h)))
    ∙ rw (tuple_first v (ta ++ tb), tuple_first v ta) (one_then (alike_of (tracked_of now) v) now ta tb d (λ (s : State). retrack_of shift s b tb))
retrack_append shift state (t ∷ a) b (p ∷ q ∷ r ∷ []) tb h = absurd (omega (arith, h))
retrack_append shift state (t ∷ a) b (p ∷ q ∷ []) tb h = absurd (omega (arith, h))
retrack_append shift state (t ∷ a) b (p ∷ []) tb h = absurd (omega (arith, h))
retrack_append shift state (t ∷ a) b [] tb h = absurd (omega (arith, h))

-- where the states do not meet, every fix is tracked anew; and what lies after those that are stays
pub record Rewritten (d : Retracked) (n : ℕ) (ts : List Float) : Type 0 where
  pub all : d.met ≡ false → d.count ≡ n
  pub few : d.count ≤ n
  pub long : length d.track ≡ length ts
  pub rest : drop (4 * d.count) d.track ≡ drop (4 * d.count) ts

one_rewritten : (b : Bool) (state : State) (ts : List Float) (n : ℕ) (d : Retracked) (v : Tuple) → Rewritten d n ts → Rewritten (one_retracked b state ts d) (suc n) (numbers_of v ++ ts)
one_rewritten true state ts n d v h =
    record { all = λ e. absurd (subst T e tt); few = omega arith; long = refl; rest = refl }
one_rewritten false state ts n d v h =
    let e : 4 * (d.count + 1) ≡ suc (suc (suc (suc (4 * d.count)))) = omega arith in
    record {
      all = λ m. ap (λ (k : ℕ). k + 1) (h.all m) ∙ omega arith;
      few = omega (arith, h.few);
      long = ap (λ (k : ℕ). suc (suc (suc (suc k)))) h.long;
      rest = rw e h.rest;
    }

pub rewritten : (shift : Shift) (state : State) (a ts : List Float) → length ts ≡ 4 * length a → Rewritten (retrack_of shift state a ts) (length a) ts
rewritten shift state [] ts h = record { all = λ e. refl; few = omega arith; long = refl; rest = refl }
rewritten shift state (t ∷ a) (p ∷ q ∷ r ∷ s ∷ ts) h =
    one_rewritten (alike_of (tracked_of (moved_of shift state t)) (tuple_at (p ∷ q ∷ r ∷ s ∷ ts) 0)) (moved_of shift state t) ts (length a) (retrack_of shift (moved_of shift state t) a ts) (four_of p q r s) (rewritten shift (moved_of shift state t) a ts (omega (arith, h)))
rewritten shift state (t ∷ a) (p ∷ q ∷ r ∷ []) h = absurd (omega (arith, h))
rewritten shift state (t ∷ a) (p ∷ q ∷ []) h = absurd (omega (arith, h))
rewritten shift state (t ∷ a) (p ∷ []) h = absurd (omega (arith, h))
rewritten shift state (t ∷ a) [] h = absurd (omega (arith, h))

-- ---- a loop over the times: of a fresh run

-- a list from a place on: a window, and the rest
split_from : (l : List Float) (i w : ℕ) → drop i l ≡ take w (drop i l) ++ drop (i + w) l
split_from l i w = sym (take-append-drop w (drop i l)) ∙ ap (λ (u : List Float). take w (drop i l) ++ u) (drop-drop w i l)

-- what is written before fix i, and the track from there on, are the track of all
pub record Tracking (shift : Shift) (from : State) (times : List Float) (i : ℕ) (state : State) (ts : List Float) : Type 0 where
  pub within : i ≤ length times
  pub long : length ts ≡ 4 * length times
  pub are : take (4 * i) ts ++ tracks_of shift state (drop i times) ≡ tracks_of shift from times
  pub after : moved_by_of shift state (drop i times) ≡ moved_by_of shift from times

pub tracking_start : (shift : Shift) (from : State) (times ts : List Float) → length ts ≡ 4 * length times → Tracking shift from times 0 from ts
tracking_start shift from times ts e = record { within = omega arith; long = e; are = refl; after = refl }

module _ {shift : Shift} {from state : State} {times ts : List Float} {i : ℕ} (now : Tracking shift from times i state ts) where
  -- a window of w fixes
  pub tracking-on : (w : ℕ) {part ts' : List Float} {next : State} → i + w ≤ length times
      → part ≡ tracks_of shift state (take w (drop i times)) → next ≡ moved_by_of shift state (take w (drop i times))
      → take (4 * (i + w)) ts' ≡ take (4 * i) ts ++ part → length ts' ≡ length ts
      → Tracking shift from times (i + w) next ts'
  tracking-on w {part} {ts'} {next} h ep en et long =
      let a = take w (drop i times) in
      let b = drop (i + w) times in
      let cut : drop i times ≡ a ++ b = split_from times i w in
      record {
        within = h;
        long = long ∙ now.long;
        are =
            rw (et, ep, en, append_assoc)
            (ap (λ (u : List Float). take (4 * i) ts ++ u) (sym (ap (tracks_of shift state) cut ∙ tracks_append shift state a b)) ∙ now.are);
        after = rw en (sym (ap (moved_by_of shift state) cut ∙ moved-append shift state a b) ∙ now.after);
      }

  pub tracking-fix : {next : State} {ts' : List Float} → i < length times → next ≡ moved_of shift state (at times i) → ts' ≡ put_at ts (4 * i) (tracked_of next)
      → Tracking shift from times (i + 1) next ts'
  tracking-fix {next} {ts'} h en et =
      let room : 4 * i + 4 ≤ length ts = omega (arith, now.long) in
      let place : 4 * (i + 1) ≡ 4 * i + 4 = omega arith in
      let one : take 1 (drop i times) ≡ at times i ∷ [] = ap (take 1) (drop-cons times i nan h) in
      tracking-on 1 {part = numbers_of (tracked_of next)} {ts' = ts'} (omega arith) (rw (one, en)) (rw one en)
      (rw (place, et) (put-take ts (4 * i) (tracked_of next) room)) (ap length et ∙ put-length ts (4 * i) (tracked_of next) room)

  pub tracking-list : length times ≤ i → ts ≡ tracks_of shift from times
  tracking-list h =
      let end : length ts ≤ 4 * i = omega (arith, now.long) in
      rw (drop_of_length-le times {i = i} h, append-nil, take_all (4 * i) ts end) at now.are

  pub tracking-state : length times ≤ i → state ≡ moved_by_of shift from times
  tracking-state h = rw (drop_of_length-le times {i = i} h) at now.after

-- ---- and of a correction

abbrev joined_track : ℕ → List Float → Retracked → Retracked
joined_track i ts d = retracked (i + d.count) d.met d.state (take (4 * i) ts ++ d.track)

-- what is tracked anew before fix i, and what is left to track, are the whole of it
pub record Retracking (shift : Shift) (from : State) (times ts₀ : List Float) (i : ℕ) (state : State) (ts : List Float) : Type 0 where
  pub within : i ≤ length times
  pub long : length ts ≡ 4 * length times
  pub are : joined_track i ts (retrack_of shift state (drop i times) (drop (4 * i) ts)) ≡ retrack_of shift from times ts₀

pub retracking_start : (shift : Shift) (from : State) (times ts : List Float) → length ts ≡ 4 * length times → Retracking shift from times ts 0 from ts
retracking_start shift from times ts e = record { within = omega arith; long = e; are = rw (zero-add (retrack_of shift from times ts).count) }

module _ {shift : Shift} {from state : State} {times ts₀ ts : List Float} {i : ℕ} (now : Retracking shift from times ts₀ i state ts) where
  -- a window of w fixes, tracked anew as far as the states have not met
  module _ (w : ℕ) (h : i + w ≤ length times) where
    abbrev window : Retracked
    window = retrack_of shift state (take w (drop i times)) (take (4 * w) (drop (4 * i) ts))

    window-long : length (take w (drop i times)) ≡ w
    window-long = let d : length (drop i times) ≡ length times - i = length-drop i times in length-take-le w (drop i times) (omega (arith, d))

    track-long : length (take (4 * w) (drop (4 * i) ts)) ≡ 4 * length (take w (drop i times))
    track-long =
        let d : length (drop (4 * i) ts) ≡ length ts - 4 * i = length-drop (4 * i) ts in
        length-take-le (4 * w) (drop (4 * i) ts) (omega (arith, d, now.long)) ∙ ap (λ (n : ℕ). 4 * n) (sym window-long)

    opened : joined_track i ts (and_then window (drop (4 * (i + w)) ts) (retrack_of shift window.state (drop (i + w) times) (drop (4 * (i + w)) ts))) ≡ retrack_of shift from times ts₀
    opened =
        let place : 4 * i + 4 * w ≡ 4 * (i + w) = omega arith in
        let ta = take (4 * w) (drop (4 * i) ts) in
        let cut : drop (4 * i) ts ≡ ta ++ drop (4 * (i + w)) ts = split_from ts (4 * i) (4 * w) ∙ ap (λ (n : ℕ). ta ++ drop n ts) place in
        ap (joined_track i ts)
        (sym
        (ap (λ (u : List Float). retrack_of shift state u (drop (4 * i) ts)) (split_from times i w)
        ∙ ap (retrack_of shift state (take w (drop i times) ++ drop (i + w) times)) cut
        ∙ retrack_append shift state (take w (drop i times)) (drop (i + w) times) ta (drop (4 * (i + w)) ts) track-long))
        ∙ now.are

    module _ {n : ℕ} {met : Bool} {next : State} {part ts' : List Float} (e : retracked n met next part ≡ window)
        (et : ts' ≡ take (4 * i) ts ++ (part ++ drop (4 * (i + w)) ts)) where
      stands : ts' ≡ take (4 * i) ts ++ (window.track ++ drop (4 * (i + w)) ts)
      stands = et ∙ ap (λ (d : Retracked). take (4 * i) ts ++ (d.track ++ drop (4 * (i + w)) ts)) e

      pub retracking-met : met ≡ true → retracked (i + n) true next ts' ≡ retrack_of shift from times ts₀
      retracking-met m =
          let em : window.met ≡ true = sym (ap (λ (d : Retracked). d.met) e) ∙ m in
          let en : n ≡ window.count = ap (λ (d : Retracked). d.count) e in
          let es : next ≡ window.state = ap (λ (d : Retracked). d.state) e in
          rw (stands, en, es) (rw em at opened)

      pub retracking-on : met ≡ false → Retracking shift from times ts₀ (i + n) next ts'
      retracking-on m =
          let em : window.met ≡ false = sym (ap (λ (d : Retracked). d.met) e) ∙ m in
          let es : next ≡ window.state = ap (λ (d : Retracked). d.state) e in
          let r = rewritten shift state (take w (drop i times)) (take (4 * w) (drop (4 * i) ts)) track-long in
          let count : window.count ≡ w = r.all em ∙ window-long in
          let en : n ≡ w = ap (λ (d : Retracked). d.count) e ∙ count in
          let b = drop (4 * (i + w)) ts in
          let head : List Float = take (4 * i) ts ++ window.track in
          let is : ts' ≡ head ++ b = stands ∙ sym (append_assoc (take (4 * i) ts) window.track b) in
          let long-head : length head ≡ 4 * (i + w) =
          length-append (take (4 * i) ts) window.track
          ∙ ap (λ (k : ℕ). k + length window.track) (length-take-le (4 * i) ts (omega (arith, now.long)))
          ∙ omega (arith, r.long, track-long, window-long) in
          let long_rest : length b ≡ length ts - 4 * (i + w) = length-drop (4 * (i + w)) ts in
          rw (en, es)
          (record {
            within = h;
            long = ap length is ∙ length-append head b ∙ omega (arith, long-head, long_rest, now.long);
            are =
                rw (is, drop_at head b (4 * (i + w)) long-head, take_at head b (4 * (i + w)) long-head, append_assoc)
                (ap (λ (k : ℕ). retracked k (retrack_of shift window.state (drop (i + w) times) b).met (retrack_of shift window.state (drop (i + w) times) b).state
                (take (4 * i) ts ++ (window.track ++ (retrack_of shift window.state (drop (i + w) times) b).track))) (sum count)
                ∙ (rw em at opened));
          })
        where
          sum : window.count ≡ w → i + w + (retrack_of shift window.state (drop (i + w) times) (drop (4 * (i + w)) ts)).count
              ≡ i + (window.count + (retrack_of shift window.state (drop (i + w) times) (drop (4 * (i + w)) ts)).count)
          sum c = omega (arith, c)

  -- no fix is left
  pub retracking-end : length times ≤ i → retracked i false state ts ≡ retrack_of shift from times ts₀
  retracking-end h =
      let none : drop (4 * i) ts ≡ [] = drop_of_length-le ts {i = 4 * i} (omega (arith, now.long)) in
      rw (drop_of_length-le times {i = i} h, none, append-nil, take_all (4 * i) ts (omega (arith, now.long)), add-zero i) at now.are

  -- one fix
  module _ (h : i < length times) {next : State} {met : Bool} {ts' : List Float} (en : next ≡ moved_of shift state (at times i))
      (em : met ≡ alike_of (tracked_of next) (tuple_at ts (4 * i))) (et : ts' ≡ put_at ts (4 * i) (tracked_of next)) where
    room : 4 * i + 4 ≤ length ts
    room = omega (arith, now.long)

    one-window : retracked 1 met next (numbers_of (tracked_of next)) ≡ window 1 (omega arith)
    one-window =
        let one : take 1 (drop i times) ≡ at times i ∷ [] = ap (take 1) (drop-cons times i nan h) in
        let four : take 4 (drop (4 * i) ts) ≡ numbers_of (tuple_at ts (4 * i)) = ap (take 4) (from_place ts (4 * i) room) in
        rw (one, four, tuple_first (tuple_at ts (4 * i)) [], ← en, ← em) (either met)
      where
        either : (b : Bool) → retracked 1 b next (numbers_of (tracked_of next)) ≡ one_retracked b next [] (retracked 0 false next [])
        either true = refl
        either false = refl

    written : ts' ≡ take (4 * i) ts ++ (numbers_of (tracked_of next) ++ drop (4 * (i + 1)) ts)
    written =
        let place : 4 * (i + 1) ≡ 4 * i + 4 = omega arith in
        rw place (et ∙ put-there ts (4 * i) (tracked_of next) room ∙ append_assoc (take (4 * i) ts) (numbers_of (tracked_of next)) (drop (4 * i + 4) ts))

    pub retracking-fix-met : met ≡ true → retracked (i + 1) true next ts' ≡ retrack_of shift from times ts₀
    retracking-fix-met = retracking-met 1 (omega arith) one-window written

    pub retracking-fix : met ≡ false → Retracking shift from times ts₀ (i + 1) next ts'
    retracking-fix = retracking-on 1 (omega arith) one-window written
