-- A window of a list: the part of it that is lent and given back, and what a step makes of it, which
-- is a piece of the step's run (`Passed`), whatever its rows. Assumes nothing.
use Prim.Native.Nat.{ℕ, ◌+◌, ◌*◌, ◌-◌, ◌/◌, ◌≤◌, ◌<◌}
use native.Mathlib.Omega.{arith}
use mathlib.Core.Path.{◌≡◌, sym, ap, ◌∙◌}
use mathlib.Core.List.{List, ◌++◌, append_assoc}
use lib.ListN.{length, take, drop, length-drop, length-append, take-append-drop}
use lib.Seq.{drop-drop, length-take-le, take_at, drop_at}
use lib.Ieee.{Float}
use Rattle.lists.specs.Run.{Turns, ran_of, count_of, state_after_of}
use Rattle.lists.proofs.Laws.{ran_length, ran_short, count_short}
use Rattle.columns.specs.Passed.{Passed}
use Rattle.helmert.specs.declared.State.{State}
use Rattle.reach.proofs.Laws.{meeting-ran, meeting-state}
use Rattle.plans.specs.Passes.{Pass, meets}
use Rattle.plans.proofs.Windows.{ran_append, count_append, state_append, count_few}

-- as many rows of a room as a window has
pub room_rows : (room : List Float) (m : ℕ) → 128 ≡ length room → m ≤ 128 → length (take m room) ≡ m
room_rows room m e h = length-take-le m room (omega (arith, e, h))

-- and a room that is given back has all its rows
pub room_back : (room rows : List Float) (m : ℕ) → 128 ≡ length room → length rows ≡ length (take m room) → 128 ≡ length (rows ++ drop m room)
room_back room rows m e h = e ∙ ap length (sym (take-append-drop m room)) ∙ length-append (take m room) (drop m room) ∙ rw (sym h) (sym (length-append rows (drop m room)))

-- ---- a window of a list, lent and given back

module _ (l : List Float) (i m : ℕ) where
  abbrev pub part_of : List Float
  part_of = take (4 * (i + m) - 4 * i) (drop (4 * i) l)

  size : 4 * (i + m) - 4 * i ≡ 4 * m
  size = omega arith

  pub part-taken : part_of ≡ take (4 * m) (drop (4 * i) l)
  part-taken = rw size

  pub part_length : 4 * (i + m) ≤ length l → length part_of ≡ 4 * m
  part_length h = ap length part-taken ∙ length-take-le (4 * m) (drop (4 * i) l) (rw (length-drop (4 * i) l) (omega (arith, h)))

  pub part-put : (w : List Float) → take (4 * i) l ++ (w ++ drop (4 * (i + m) - 4 * i) (drop (4 * i) l)) ≡ take (4 * i) l ++ w ++ drop (4 * (i + m)) l
  part-put w =
      let s : 4 * i + (4 * (i + m) - 4 * i) ≡ 4 * (i + m) = omega arith in
      rw (append_assoc, drop-drop (4 * (i + m) - 4 * i) (4 * i) l, s)

-- ---- row i of a list's rows, and m more: they are there; and past the last less than a tuple is left

pub fits-list : {n n₀ : ℕ} (i m : ℕ) → i ≤ n₀ / 4 → n ≡ n₀ → m ≤ n₀ / 4 - i → i < n₀ / 4 → 4 * (i + m) ≤ n
fits-list i m h e few more = omega (arith, h, e, few, more)

pub last_left : {n n₀ : ℕ} (i : ℕ) → n ≡ n₀ → n₀ / 4 ≤ i → n < 4 * i + 4
last_left i e h = omega (arith, e, h)

-- ---- a window through one step

module _ {S : Type 0} {f : Turns S} {i : ℕ} {state state' : S} {l l' w' : List Float} {c : ℕ} (m : ℕ) where
  pub passed-window : 4 * (i + m) ≤ length l → l' ≡ take (4 * i) l ++ w' ++ drop (4 * (i + m)) l
      → w' ≡ ran_of f i state (take (4 * m) (drop (4 * i) l))
      → state' ≡ state_after_of f i state (take (4 * m) (drop (4 * i) l))
      → c ≡ count_of f i state (take (4 * m) (drop (4 * i) l))
      → Passed f i state l (i + m) state' l' c
  passed-window fits el ew es ec =
      let w = take (4 * m) (drop (4 * i) l) in
      let more = drop (4 * (i + m)) l in
      let four : 4 * (i + m) ≡ 4 * i + 4 * m = omega arith in
      let wide : length w ≡ 4 * m = length-take-le (4 * m) (drop (4 * i) l) (rw (length-drop (4 * i) l) (omega (arith, fits))) in
      let wide' : length w' ≡ 4 * m = ap length ew ∙ ran_length f i state w ∙ wide in
      let front : length (take (4 * i) l) ≡ 4 * i = length-take-le (4 * i) l (omega (arith, fits)) in
      let head : length (take (4 * i) l ++ w') ≡ 4 * (i + m) = length-append (take (4 * i) l) w' ∙ rw (front, wide') (omega arith) in
      let cut : drop (4 * i) l ≡ w ++ more =
      sym (take-append-drop (4 * m) (drop (4 * i) l)) ∙ ap (λ (u : List Float). w ++ u) (drop-drop (4 * m) (4 * i) l ∙ ap (λ (k : ℕ). drop k l) (sym four)) in
      let t : take (4 * (i + m)) l' ≡ take (4 * i) l ++ w' = ap (take (4 * (i + m))) el ∙ take_at (take (4 * i) l ++ w') more (4 * (i + m)) head in
      let d : drop (4 * (i + m)) l' ≡ more = ap (drop (4 * (i + m))) el ∙ drop_at (take (4 * i) l ++ w') more (4 * (i + m)) head in
      let ran : ran_of f i state (drop (4 * i) l) ≡ ran_of f i state w ++ ran_of f (i + m) (state_after_of f i state w) more = ap (ran_of f i state) cut ∙ ran_append f i state m w more wide in
      let after : state_after_of f i state (drop (4 * i) l) ≡ state_after_of f (i + m) (state_after_of f i state w) more = ap (state_after_of f i state) cut ∙ state_append f i state m w more wide in
      let counts : count_of f i state (drop (4 * i) l) ≡ count_of f i state w + count_of f (i + m) (state_after_of f i state w) more = ap (count_of f i state) cut ∙ count_append f i state m w more wide in
      record {
        whole = rw (t, d, es, ew, append_assoc) (sym (ap (λ (u : List Float). take (4 * i) l ++ u) ran));
        after = rw (d, es) (sym after);
        counts = rw (d, es, ec) (sym counts);
        few = omega (arith, ec, count_few f i state w, wide);
      }

-- the same of the tuples that meet an angle out of reach
module _ (p : Pass) {i : ℕ} {state state' : State} {l l' w' : List Float} {c : ℕ} (m : ℕ) where
  pub passed-met : 4 * (i + m) ≤ length l → l' ≡ take (4 * i) l ++ w' ++ drop (4 * (i + m)) l
      → w' ≡ ran_of p.turns i state (take (4 * m) (drop (4 * i) l))
      → state' ≡ state_after_of p.turns i state (take (4 * m) (drop (4 * i) l))
      → c ≡ count_of (meets p) i state (take (4 * m) (drop (4 * i) l))
      → Passed (meets p) i state l (i + m) state' l' c
  passed-met fits el ew es ec =
      let w = take (4 * m) (drop (4 * i) l) in
      passed-window m fits el (ew ∙ sym (meeting-ran p.met p.turns i state w)) (es ∙ sym (meeting-state p.met p.turns i state w)) ec

-- a window's count is at most its rows
pub part-few : {S : Type 0} (f : Turns S) (k : ℕ) (state : S) (l : List Float) (i m : ℕ) {c : ℕ} → 4 * (i + m) ≤ length l → c ≡ count_of f k state (part_of l i m) → c ≤ m
part-few f k state l i m fits e = omega (arith, e, count_few f k state (part_of l i m), part_length l i m fits)

-- ---- the end: less than a tuple is left

rest-short : (l : List Float) (i : ℕ) → length l < 4 * i + 4 → length (drop (4 * i) l) < 4
rest-short l i end = rw (length-drop (4 * i) l) (omega (arith, end))

module _ {S : Type 0} {f : Turns S} {from state : S} {l₀ l : List Float} {n : ℕ} (i : ℕ) (end : length l < 4 * i + 4) (now : Passed f 0 from l₀ i state l n) where
  pub passed-list : l ≡ ran_of f 0 from l₀
  passed-list = sym (take-append-drop (4 * i) l) ∙ rw (ran_short f i state (drop (4 * i) l) (rest-short l i end)) at now.whole

  pub passed-count : n ≡ count_of f 0 from l₀
  passed-count = let c = rw (count_short f i state (drop (4 * i) l) (rest-short l i end)) at now.counts in omega (arith, c)
