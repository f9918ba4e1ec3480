-- The invariants of the loops of this crate, by the steps that are left. Assumes nothing.
use Prim.Native.Nat.{ℕ, zero, suc, ◌+◌, ◌*◌, ◌-◌, ◌≤◌, ◌<◌}
use native.Mathlib.Omega.{arith}
use mathlib.Core.Path.{◌≡◌, refl, sym, ap, ◌∙◌}
use mathlib.Core.Bool.{Bool, true, false}
use mathlib.Core.List.{List, [], ◌∷◌, ◌++◌, append_assoc, append-nil}
use lib.ListN.{length, take, drop, get_or, set, replicate, length-set, length-drop, length-append, take-append-drop, drop_of_length-le}
use lib.Seq.{take-suc-set, drop-set-lt, take-set-le, drop-cons, drop-drop, get_or-set_same, get_or-take, get_or-drop, take-take, take_all, length-take-le, take_at, drop_at}
use lib.Ieee.{Float, nan}
use Rattle.lists.specs.Run.{Turns, ran_of, count_of}
use Rattle.lists.proofs.Laws.{ran_length}
use Rattle.columns.specs.Columns.{Level, flat_of}
use Rattle.columns.proofs.Laws.{flat-length}
use Rattle.tally.specs.declared.Tally.{Tally}
use Rattle.tally.specs.Tallies.{no_tally}
use Rattle.plans.specs.declared.Plan.{Plan}
use Rattle.plans.specs.declared.Standing.{Standing}
use Rattle.plans.specs.Passes.{Pass}
use Rattle.plans.specs.Windows.{moved_on, gone_of}
use Rattle.plans.proofs.Windows.{in_parts, in_no_part, gone_length, gone_standings, count_few, tally_few}
use Rattle.windows.specs.Steps.{passes_from, at_start, no_standing, starts_from, starts_of, tallies_of, FewIn, Few}

-- ---- one standing filled: what stood before it stays, and what stands after it

module _ (standings : List Standing) (i : ℕ) (standing : Standing) (h : i < length standings) where
  filled : take (i + 1) (set standings i standing) ≡ take i standings ++ (standing ∷ [])
  filled = let e : i + 1 ≡ suc i = omega arith in rw e (take-suc-set standings i standing h)

  left : drop (i + 1) (set standings i standing) ≡ drop (i + 1) standings
  left = drop-set-lt (i + 1) standings i standing (omega arith)

  from-there : drop i (set standings i standing) ≡ standing ∷ drop (i + 1) standings
  from-there =
      let e : i + 1 ≡ suc i = omega arith in
      let g : i < length (set standings i standing) = rw (length-set standings i standing) h in
      drop-cons (set standings i standing) i no_standing g ∙ rw (get_or-set_same standings i standing no_standing h, ← e) (ap (λ (rest : List Standing). standing ∷ rest) left)

opened : (standings : List Standing) (i : ℕ) → i < length standings → drop i standings ≡ get_or standings i no_standing ∷ drop (i + 1) standings
opened standings i h = let e : i + 1 ≡ suc i = omega arith in rw e (drop-cons standings i no_standing h)

-- standings that agree from an index on agree there; and so do those that agree before one
there_alike : (a b : List Standing) (i : ℕ) → drop i a ≡ drop i b → get_or a i no_standing ≡ get_or b i no_standing
there_alike a b i e =
    let z : i + 0 ≡ i = omega arith in
    rw z at (sym (get_or-drop i a 0 no_standing) ∙ ap (λ (l : List Standing). get_or l 0 no_standing) e ∙ get_or-drop i b 0 no_standing)

before_alike : (a b : List Standing) (i j : ℕ) → j < i → take i a ≡ take i b → get_or a j no_standing ≡ get_or b j no_standing
before_alike a b i j h e = sym (get_or-take i a j no_standing h) ∙ ap (λ (l : List Standing). get_or l j no_standing) e ∙ get_or-take i b j no_standing h

-- what an array is read as past its end
abbrev pub absent_standing : Standing
absent_standing = record { state = record { last = nan; t = record { x = nan; y = nan; z = nan } }; tally = no_tally }

-- a standing that is there, whatever stands for one that is not
pub same_there : (standings : List Standing) (i : ℕ) (d : Standing) → i < length standings → get_or standings i d ≡ get_or standings i no_standing
same_there [] i d h = absurd (omega (arith, h))
same_there (standing ∷ standings) zero d h = refl
same_there (standing ∷ standings) (suc i) d h = same_there standings i d (omega (arith, h))

-- ---- steps that are left

abbrev pub passes_left : (ℕ → Pass) → ℕ → ℕ → List Pass
passes_left f n i = passes_from f (n - i) i

passes_open : (f : ℕ → Pass) (n i : ℕ) → i < n → passes_left f n i ≡ f i ∷ passes_left f n (i + 1)
unfolding passes_from
passes_open f n i h =
    let s : n - i ≡ suc (n - (i + 1)) = omega arith in
    let e : i + 1 ≡ suc i = omega arith in
    rw (s, e)

passes_none : (f : ℕ → Pass) (n : ℕ) → passes_left f n n ≡ []
unfolding passes_from
passes_none f n = let s : n - n ≡ 0 = omega arith in rw s

-- ---- forward: what the steps that are left make of the window, and of their standings, is what all
-- make of the window at the start

pub record Forward (f : ℕ → Pass) (n k : ℕ) (standings₀ : List Standing) (l₀ : List Float) (i : ℕ) (standings : List Standing) (l : List Float) : Type 0 where
  pub within : i ≤ n
  pub sixteen₀ : length standings₀ ≡ 16
  pub sixteen : length standings ≡ 16
  pub list : (gone_of false k (passes_left f n i) (drop i standings₀) l).list ≡ (gone_of false k (passes_from f n 0) standings₀ l₀).list
  pub gone : take i standings ++ (gone_of false k (passes_left f n i) (drop i standings₀) l).standings ≡ (gone_of false k (passes_from f n 0) standings₀ l₀).standings
  pub rest : drop i standings ≡ drop i standings₀

pub forward_start : (f : ℕ → Pass) (n k : ℕ) (standings₀ : List Standing) (l₀ : List Float) → length standings₀ ≡ 16 → Forward f n k standings₀ l₀ 0 standings₀ l₀
forward_start f n k standings₀ l₀ h =
    let s : n - 0 ≡ n = omega arith in
    record { within = omega arith; sixteen₀ = h; sixteen = h; list = rw s; gone = rw s; rest = refl }

module _ {f : ℕ → Pass} {n k : ℕ} {standings₀ : List Standing} {l₀ : List Float} {i : ℕ} {standings : List Standing} {l : List Float} (most : n ≤ 16) where
  -- a step's standing is as it was
  pub forward-there : Forward f n k standings₀ l₀ i standings l → get_or standings i no_standing ≡ get_or standings₀ i no_standing
  forward-there now = there_alike standings standings₀ i now.rest

  pub forward-few : (d : Standing) → i < n → Few k standings₀ → Forward f n k standings₀ l₀ i standings l → FewIn k (get_or standings i d).tally
  forward-few d h few now = rw (same_there standings i d (omega (arith, now.sixteen)), forward-there now) (few i)

  pub forward-again : {g : Pass} {standing : Standing} {l' : List Float} (d : Standing) → i < n → g ≡ f i
      → l' ≡ ran_of g.turns k (get_or standings i d).state l → standing ≡ moved_on g k (get_or standings i d) l
      → Forward f n k standings₀ l₀ i standings l → Forward f n k standings₀ l₀ (i + 1) (set standings i standing) l'
  unfolding gone_of
  forward-again {standing = standing} {l' = l'} d h eg el ep now =
      let g : i < length standings = omega (arith, now.sixteen) in
      let g₀ : i < length standings₀ = omega (arith, now.sixteen₀) in
      let same = same_there standings i d g ∙ forward-there now in
      let el' : l' ≡ ran_of (f i).turns k (get_or standings₀ i no_standing).state l = rw (same, eg) at el in
      let ep' : standing ≡ moved_on (f i) k (get_or standings₀ i no_standing) l = rw (same, eg) at ep in
      record {
        within = omega arith;
        sixteen₀ = now.sixteen₀;
        sixteen = length-set standings i standing ∙ now.sixteen;
        list = rw el' (rw (passes_open f n i h, opened standings₀ i g₀) at now.list);
        gone = rw (filled standings i standing g, append_assoc, ep', el') (rw (passes_open f n i h, opened standings₀ i g₀) at now.gone);
        rest = left standings i standing g ∙ sym (drop-drop 1 i standings) ∙ ap (drop 1) now.rest ∙ drop-drop 1 i standings₀;
      }

  pub forward-end : n ≤ i → Forward f n k standings₀ l₀ i standings l
      → (l ≡ (gone_of false k (passes_from f n 0) standings₀ l₀).list) × (standings ≡ (gone_of false k (passes_from f n 0) standings₀ l₀).standings)
  unfolding gone_of
  forward-end h now =
      let s : i ≡ n = omega (arith, now.within) in
      let none : passes_left f n i ≡ [] = rw s (passes_none f n) in
      (rw none at now.list, sym (take-append-drop i standings) ∙ rw now.rest (rw none at now.gone))

-- ---- inverse: the window is what the steps from index i on have made of it, last first, and the
-- standings from there on are theirs

pub record Backward (f : ℕ → Pass) (n k : ℕ) (standings₀ : List Standing) (l₀ : List Float) (i : ℕ) (standings : List Standing) (l : List Float) : Type 0 where
  pub within : i ≤ n
  pub sixteen₀ : length standings₀ ≡ 16
  pub sixteen : length standings ≡ 16
  pub list : l ≡ (gone_of true k (passes_left f n i) (drop i standings₀) l₀).list
  pub gone : drop i standings ≡ (gone_of true k (passes_left f n i) (drop i standings₀) l₀).standings
  pub before : take i standings ≡ take i standings₀

pub backward_start : (f : ℕ → Pass) (n k : ℕ) (standings₀ : List Standing) (l₀ : List Float) → length standings₀ ≡ 16 → Backward f n k standings₀ l₀ n standings₀ l₀
unfolding gone_of
backward_start f n k standings₀ l₀ h =
    record { within = omega arith; sixteen₀ = h; sixteen = h; list = rw (passes_none f n); gone = rw (passes_none f n); before = refl }

module _ {f : ℕ → Pass} {n k : ℕ} {standings₀ : List Standing} {l₀ : List Float} {i : ℕ} {standings : List Standing} {l : List Float} (most : n ≤ 16) where
  pub backward-there : (j : ℕ) → j + 1 ≡ i → Backward f n k standings₀ l₀ i standings l → get_or standings j no_standing ≡ get_or standings₀ j no_standing
  backward-there j s now = before_alike standings standings₀ i j (omega arith) now.before

  pub backward-few : (d : Standing) (j : ℕ) → j + 1 ≡ i → Few k standings₀ → Backward f n k standings₀ l₀ i standings l → FewIn k (get_or standings j d).tally
  backward-few d j s few now = rw (same_there standings j d (omega (arith, now.sixteen, now.within)), backward-there j s now) (few j)

  pub backward-again : {g : Pass} {standing : Standing} {l' : List Float} (d : Standing) (j : ℕ) → j + 1 ≡ i → g ≡ f j
      → l' ≡ ran_of g.turns k (get_or standings j d).state l → standing ≡ moved_on g k (get_or standings j d) l
      → Backward f n k standings₀ l₀ i standings l → Backward f n k standings₀ l₀ j (set standings j standing) l'
  unfolding gone_of
  backward-again {standing = standing} {l' = l'} d j s eg el ep now =
      let h : j < n = omega (arith, now.within) in
      let g : j < length standings = omega (arith, now.sixteen, now.within) in
      let g₀ : j < length standings₀ = omega (arith, now.sixteen₀, now.within) in
      let same = same_there standings j d g ∙ backward-there j s now in
      let el' : l' ≡ ran_of (f j).turns k (get_or standings₀ j no_standing).state l = rw (same, eg) at el in
      let ep' : standing ≡ moved_on (f j) k (get_or standings₀ j no_standing) l = rw (same, eg) at ep in
      let few : take j standings ≡ take j standings₀ = sym (take-take j i standings (omega arith)) ∙ ap (take j) now.before ∙ take-take j i standings₀ (omega arith) in
      record {
        within = omega (arith, now.within);
        sixteen₀ = now.sixteen₀;
        sixteen = length-set standings j standing ∙ now.sixteen;
        list = rw (passes_open f n j h, opened standings₀ j g₀, s, el') (ap (ran_of (f j).turns k (get_or standings₀ j no_standing).state) now.list);
        gone = from-there standings j standing g ∙ rw (passes_open f n j h, opened standings₀ j g₀, s, ep', now.gone, ← now.list);
        before = take-set-le j standings j standing (omega arith) ∙ few;
      }

  pub backward-end : i ≡ 0 → Backward f n k standings₀ l₀ i standings l
      → (l ≡ (gone_of true k (passes_from f n 0) standings₀ l₀).list) × (standings ≡ (gone_of true k (passes_from f n 0) standings₀ l₀).standings)
  backward-end s now = let z : n - 0 ≡ n = omega arith in (rw (s, z) at now.list, rw (s, z) at now.gone)

-- ---- the starts

pub record Started (plan : ℕ → Plan) (n i : ℕ) (standings : List Standing) : Type 0 where
  pub within : i ≤ n
  pub sixteen : length standings ≡ 16
  pub begun : take i standings ++ starts_from plan (n - i) i ≡ starts_from plan n 0
  pub rest : drop i standings ≡ replicate (16 - i) no_standing

pub started_none : (plan : ℕ → Plan) (n : ℕ) → Started plan n 0 (replicate 16 no_standing)
started_none plan n = let s : n - 0 ≡ n = omega arith in record { within = omega arith; sixteen = refl; begun = rw s; rest = refl }

fewer : (i : ℕ) (standings : List Standing) → i < 16 → drop i standings ≡ replicate (16 - i) no_standing → drop (i + 1) standings ≡ replicate (16 - (i + 1)) no_standing
fewer i standings h e =
    let s : 16 - i ≡ suc (16 - (i + 1)) = omega arith in
    sym (drop-drop 1 i standings) ∙ ap (drop 1) e ∙ rw s

starts_open : (plan : ℕ → Plan) (n i : ℕ) → i < n → starts_from plan (n - i) i ≡ at_start (plan i) ∷ starts_from plan (n - (i + 1)) (i + 1)
unfolding starts_from
starts_open plan n i h =
    let s : n - i ≡ suc (n - (i + 1)) = omega arith in
    let e : i + 1 ≡ suc i = omega arith in
    rw (s, e)

module _ {plan : ℕ → Plan} {n i : ℕ} {standings : List Standing} (most : n ≤ 16) where
  pub started-again : {standing : Standing} → i < n → standing ≡ at_start (plan i) → Started plan n i standings → Started plan n (i + 1) (set standings i standing)
  started-again {standing} h e now =
      let g : i < length standings = omega (arith, now.sixteen) in
      record {
        within = omega arith;
        sixteen = length-set standings i standing ∙ now.sixteen;
        begun = rw (filled standings i standing g, append_assoc, e) (rw (starts_open plan n i h) at now.begun);
        rest = left standings i standing g ∙ fewer i standings (omega arith) now.rest;
      }

  pub started-end : n ≤ i → Started plan n i standings → standings ≡ starts_of plan n
  unfolding starts_from
  started-end h now =
      let s : i ≡ n = omega (arith, now.within) in
      let z : n - i ≡ 0 = omega (arith, now.within) in
      let b : take i standings ≡ starts_from plan n 0 = rw (z, append-nil) at now.begun in
      sym (take-append-drop i standings) ∙ rw (b, now.rest, s)

-- ---- the tallies

-- a tally filled
tally_filled : (tallies : List Tally) (i : ℕ) (tally : Tally) → i < length tallies → take (i + 1) (set tallies i tally) ≡ take i tallies ++ (tally ∷ [])
tally_filled tallies i tally h = let e : i + 1 ≡ suc i = omega arith in rw e (take-suc-set tallies i tally h)

pub record Read (standings : List Standing) (i : ℕ) (tallies : List Tally) : Type 0 where
  pub sixteen : length tallies ≡ 16
  pub run : take i tallies ++ tallies_of (drop i standings) ≡ tallies_of standings

pub read_start : (standings : List Standing) → Read standings 0 (replicate 16 no_tally)
read_start standings = record { sixteen = refl; run = refl }

pub read_again : {standings : List Standing} {i : ℕ} {tallies : List Tally} {standing : Standing} (d : Standing) → i < 16 → length standings ≡ 16
    → standing ≡ get_or standings i d → Read standings i tallies → Read standings (i + 1) (set tallies i standing.tally)
unfolding tallies_of
read_again {standings} {i} {tallies} {standing} d h long es now =
    let tally = standing.tally in
    let e : tally ≡ (get_or standings i no_standing).tally = ap (λ (standing : Standing). standing.tally) (es ∙ same_there standings i d (omega (arith, long))) in
    let g : i < length tallies = omega (arith, now.sixteen) in
    record {
      sixteen = length-set tallies i tally ∙ now.sixteen;
      run = rw (tally_filled tallies i tally g, append_assoc, e) (rw (opened standings i (omega (arith, long))) at now.run);
    }

pub read_end : {standings : List Standing} {i : ℕ} {tallies : List Tally} → 16 ≤ i → length standings ≡ 16 → Read standings i tallies → tallies ≡ tallies_of standings
unfolding tallies_of
read_end {standings} {i} {tallies} h long now =
    rw (drop_of_length-le standings {i = i} (omega (arith, long)), append-nil, take_all i tallies (omega (arith, now.sixteen))) at now.run

-- ---- neither number of a tally over the number of rows that have passed

few_starts : (plan : ℕ → Plan) (n i m : ℕ) → Few 0 (starts_from plan n i ++ replicate m no_standing)
unfolding starts_from
few_starts plan zero i zero j = (omega arith, omega arith)
few_starts plan zero i (suc m) zero = (omega arith, omega arith)
few_starts plan zero i (suc m) (suc j) = few_starts plan zero i m j
few_starts plan (suc n) i m zero = (omega arith, omega arith)
few_starts plan (suc n) i m (suc j) = few_starts plan n (suc i) m j

pub starts_few : (plan : ℕ → Plan) (n : ℕ) → Few 0 (starts_of plan n)
starts_few plan n = few_starts plan n 0 (16 - n)

pub gone_few : (inverse : Bool) (k n : ℕ) (ps : List Pass) (standings : List Standing) (l : List Float) → length l ≡ 4 * n → Few k standings
    → Few (k + n) (gone_of inverse k ps standings l).standings
unfolding gone_of
gone_few inverse k n [] standings l e h i = (omega (arith, (h i).0), omega (arith, (h i).1))
gone_few inverse k n (p ∷ ps) [] l e h i = (omega (arith, (h i).0), omega (arith, (h i).1))
gone_few false k n (p ∷ ps) (standing ∷ standings) l e h zero =
    let few = tally_few p k standing.state l in
    (omega (arith, (h 0).0, e, few.0), omega (arith, (h 0).1, e, few.1))
gone_few false k n (p ∷ ps) (standing ∷ standings) l e h (suc i) =
    gone_few false k n ps standings (ran_of p.turns k standing.state l) (ran_length p.turns k standing.state l ∙ e) (λ j. h (suc j)) i
gone_few true k n (p ∷ ps) (standing ∷ standings) l e h zero =
    let few = tally_few p k standing.state (gone_of true k ps standings l).list in
    let long = gone_length true k ps standings l in
    (omega (arith, (h 0).0, e, long, few.0), omega (arith, (h 0).1, e, long, few.1))
gone_few true k n (p ∷ ps) (standing ∷ standings) l e h (suc i) = gone_few true k n ps standings l e (λ j. h (suc j)) i

-- a step over columns counts no more tuples than there are rows
pub rows_few : {S : Type 0} (f : Turns S) (k : ℕ) (state : S) (x y z t : List Float) {n : ℕ} → Level x y z t → n ≡ count_of f k state (flat_of x y z t) → n ≤ length x
rows_few f k state x y z t level e = omega (arith, e, count_few f k state (flat_of x y z t), flat-length x y z t level)

pub passes_length : (f : ℕ → Pass) (n i : ℕ) → length (passes_from f n i) ≡ n
unfolding passes_from
passes_length f zero i = refl
passes_length f (suc n) i = ap suc (passes_length f n (suc i))

pub passes_few : (f : ℕ → Pass) (n : ℕ) → n ≤ 16 → length (passes_from f n 0) ≤ 16
passes_few f n h = rw (passes_length f n 0) h

-- ---- window after window: what the steps make of the rows that are left, going on from their
-- standings, is what they make of the whole list

pub record Going (inverse : Bool) (ps : List Pass) (standings₀ : List Standing) (l₀ : List Float) (i : ℕ) (standings : List Standing) (l : List Float) : Type 0 where
  pub sixteen : length standings ≡ 16
  pub long : length l ≡ length l₀
  pub list : take (4 * i) l ++ (gone_of inverse i ps standings (drop (4 * i) l)).list ≡ (gone_of inverse 0 ps standings₀ l₀).list
  pub gone : (gone_of inverse i ps standings (drop (4 * i) l)).standings ≡ (gone_of inverse 0 ps standings₀ l₀).standings
  pub few : Few i standings

pub going_start : (inverse : Bool) (ps : List Pass) (standings₀ : List Standing) (l₀ : List Float) → length standings₀ ≡ 16 → Few 0 standings₀
    → Going inverse ps standings₀ l₀ 0 standings₀ l₀
going_start inverse ps standings₀ l₀ h few = record { sixteen = h; long = refl; list = refl; gone = refl; few = few }

module _ {inverse : Bool} {ps : List Pass} {standings₀ : List Standing} {l₀ : List Float} {i : ℕ} {standings : List Standing} {l : List Float} where
  pub going-again : {standings' : List Standing} {l' w' : List Float} (m : ℕ) → length ps ≤ 16 → 4 * (i + m) ≤ length l
      → l' ≡ take (4 * i) l ++ w' ++ drop (4 * (i + m)) l
      → w' ≡ (gone_of inverse i ps standings (take (4 * m) (drop (4 * i) l))).list
      → standings' ≡ (gone_of inverse i ps standings (take (4 * m) (drop (4 * i) l))).standings
      → Going inverse ps standings₀ l₀ i standings l → Going inverse ps standings₀ l₀ (i + m) standings' l'
  going-again {standings'} {l'} {w'} m most fits el ew ep now =
      let w = take (4 * m) (drop (4 * i) l) in
      let more = drop (4 * (i + m)) l in
      let four : 4 * (i + m) ≡ 4 * i + 4 * m = omega arith in
      let wide : length w ≡ 4 * m = length-take-le (4 * m) (drop (4 * i) l) (rw (length-drop (4 * i) l) (omega (arith, fits))) in
      let wide' : length w' ≡ 4 * m = ap length ew ∙ gone_length inverse i ps standings w ∙ wide in
      let front : length (take (4 * i) l) ≡ 4 * i = length-take-le (4 * i) l (omega (arith, fits)) in
      let head : length (take (4 * i) l ++ w') ≡ 4 * (i + m) = length-append (take (4 * i) l) w' ∙ rw (front, wide') (omega arith) in
      let cut : drop (4 * i) l ≡ w ++ more = sym (take-append-drop (4 * m) (drop (4 * i) l)) ∙ ap (λ (u : List Float). w ++ u) (drop-drop (4 * m) (4 * i) l ∙ ap (λ (k : ℕ). drop k l) (sym four)) in
      let both = in_parts inverse i ps standings m w more wide in
      let t : take (4 * (i + m)) l' ≡ take (4 * i) l ++ w' = ap (take (4 * (i + m))) el ∙ take_at (take (4 * i) l ++ w') more (4 * (i + m)) head in
      let d : drop (4 * (i + m)) l' ≡ more = ap (drop (4 * (i + m))) el ∙ drop_at (take (4 * i) l ++ w') more (4 * (i + m)) head in
      record {
        sixteen = ap length ep ∙ gone_standings inverse i ps standings w (omega (arith, most, now.sixteen)) ∙ now.sixteen;
        long = ap length el ∙ length-append (take (4 * i) l ++ w') more ∙ rw (head, length-drop (4 * (i + m)) l) (omega (arith, fits, now.long));
        list = rw (t, d, ep, append_assoc, ew) (rw (cut, both) at now.list);
        gone = rw (d, ep) (rw (cut, both) at now.gone);
        few = rw ep (gone_few inverse i m ps standings w wide now.few);
      }

  pub going_end : length l < 4 * i + 4 → Going inverse ps standings₀ l₀ i standings l
      → (l ≡ (gone_of inverse 0 ps standings₀ l₀).list) × (standings ≡ (gone_of inverse 0 ps standings₀ l₀).standings)
  going_end h now =
      let none = in_no_part inverse i ps standings (drop (4 * i) l) (rw (length-drop (4 * i) l) (omega (arith, h))) in
      (sym (take-append-drop (4 * i) l) ∙ rw none at now.list, rw none at now.gone)
