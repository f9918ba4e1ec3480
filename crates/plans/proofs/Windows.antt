-- A list in parts. A step over two lists joined is the step over the first, and over the second
-- from the state and the index that the first leaves; its tally is the sum of both. So are steps
-- one after another (`in_parts`): which is by induction over the steps, since what a step makes of
-- the first part does not depend on the second. Assumes nothing.
use Prim.Native.Nat.{ℕ, zero, suc, ◌+◌, ◌*◌, ◌≤◌, ◌<◌}
use native.Mathlib.Omega.{arith}
use native.Mathlib.Nat.{add_assoc, add-zero}
use mathlib.Core.Path.{◌≡◌, refl, sym, ap, ◌∙◌}
use mathlib.Core.Bool.{Bool, true, false, cond}
use mathlib.Core.List.{List, [], ◌∷◌, ◌++◌}
use lib.ListN.{length}
use lib.Ieee.{Float}
use Rattle.blocks.proofs.Counts.{at_most_one}
use Rattle.helmert.specs.declared.State.{State}
use Rattle.lists.specs.Flat.{four_of, numbers_of}
use Rattle.lists.specs.Run.{Turns, ran_of, count_of, state_after_of}
use Rattle.lists.proofs.Laws.{ran_short, count_short, ran_length}
use Rattle.reach.proofs.Laws.{meeting-state}
use Rattle.tally.specs.Tallies.{no_tally, plus_of}
use Rattle.tally.proofs.Laws.{plus_assoc, plus_none}
use Rattle.plans.specs.Passes.{Pass, meets, tally_of}
use Rattle.plans.specs.declared.Standing.{Standing}
use Rattle.plans.specs.Windows.{moved_on, Gone, gone_of}

-- ---- one step

pub ran_append : {S : Type 0} (f : Turns S) (k : ℕ) (state : S) (n : ℕ) (l more : List Float) → length l ≡ 4 * n
    → ran_of f k state (l ++ more) ≡ ran_of f k state l ++ ran_of f (k + n) (state_after_of f k state l) more
ran_append f k state zero [] more h = rw (add-zero k)
ran_append f k state (suc n) [] more h = absurd (omega (arith, h))
ran_append f k state zero (x ∷ y ∷ z ∷ t ∷ rest) more h = absurd (omega (arith, h))
ran_append f k state (suc n) (x ∷ y ∷ z ∷ t ∷ rest) more h =
    let turn = f k state (four_of x y z t) in
    let index : k + suc n ≡ suc k + n = omega arith in
    rw index (ap (λ (l : List Float). numbers_of turn.tuple ++ l) (ran_append f (suc k) turn.state n rest more (omega (arith, h))))
ran_append f k state n (x ∷ y ∷ z ∷ []) more h = absurd (omega (arith, h))
ran_append f k state n (x ∷ y ∷ []) more h = absurd (omega (arith, h))
ran_append f k state n (x ∷ []) more h = absurd (omega (arith, h))

pub count_append : {S : Type 0} (f : Turns S) (k : ℕ) (state : S) (n : ℕ) (l more : List Float) → length l ≡ 4 * n
    → count_of f k state (l ++ more) ≡ count_of f k state l + count_of f (k + n) (state_after_of f k state l) more
count_append f k state zero [] more h = rw (add-zero k) (omega arith)
count_append f k state (suc n) [] more h = absurd (omega (arith, h))
count_append f k state zero (x ∷ y ∷ z ∷ t ∷ rest) more h = absurd (omega (arith, h))
count_append f k state (suc n) (x ∷ y ∷ z ∷ t ∷ rest) more h =
    let turn = f k state (four_of x y z t) in
    let index : k + suc n ≡ suc k + n = omega arith in
    rw index (ap (λ (m : ℕ). cond turn.counted 1 0 + m) (count_append f (suc k) turn.state n rest more (omega (arith, h))) ∙ sym (add_assoc (cond turn.counted 1 0) _ _))
count_append f k state n (x ∷ y ∷ z ∷ []) more h = absurd (omega (arith, h))
count_append f k state n (x ∷ y ∷ []) more h = absurd (omega (arith, h))
count_append f k state n (x ∷ []) more h = absurd (omega (arith, h))

pub state_append : {S : Type 0} (f : Turns S) (k : ℕ) (state : S) (n : ℕ) (l more : List Float) → length l ≡ 4 * n
    → state_after_of f k state (l ++ more) ≡ state_after_of f (k + n) (state_after_of f k state l) more
state_append f k state zero [] more h = rw (add-zero k)
state_append f k state (suc n) [] more h = absurd (omega (arith, h))
state_append f k state zero (x ∷ y ∷ z ∷ t ∷ rest) more h = absurd (omega (arith, h))
state_append f k state (suc n) (x ∷ y ∷ z ∷ t ∷ rest) more h =
    let turn = f k state (four_of x y z t) in
    let index : k + suc n ≡ suc k + n = omega arith in
    rw index (state_append f (suc k) turn.state n rest more (omega (arith, h)))
state_append f k state n (x ∷ y ∷ z ∷ []) more h = absurd (omega (arith, h))
state_append f k state n (x ∷ y ∷ []) more h = absurd (omega (arith, h))
state_append f k state n (x ∷ []) more h = absurd (omega (arith, h))

pub tally_append : (p : Pass) (k : ℕ) (state : State) (n : ℕ) (l more : List Float) → length l ≡ 4 * n
    → tally_of p k state (l ++ more) ≡ plus_of (tally_of p k state l) (tally_of p (k + n) (state_after_of p.turns k state l) more)
tally_append p k state n l more h =
    rw (count_append p.turns k state n l more h, count_append (meets p) k state n l more h, meeting-state p.met p.turns k state l)

-- where a step stands after both parts
moved-append : (p : Pass) (k : ℕ) (standing : Standing) (n : ℕ) (l more : List Float) → length l ≡ 4 * n
    → moved_on p k standing (l ++ more) ≡ moved_on p (k + n) (moved_on p k standing l) more
moved-append p k standing n l more h =
    let first = tally_of p k standing.state l in
    let second = tally_of p (k + n) (state_after_of p.turns k standing.state l) more in
    let es = state_append p.turns k standing.state n l more h in
    let et = ap (plus_of standing.tally) (tally_append p k standing.state n l more h) ∙ sym (plus_assoc standing.tally first second) in
    λ j. record { state = es j; tally = et j }

-- ---- steps one after another

-- the part keeps its length
pub gone_length : (inverse : Bool) (k : ℕ) (ps : List Pass) (standings : List Standing) (l : List Float) → length (gone_of inverse k ps standings l).list ≡ length l
unfolding gone_of
gone_length inverse k [] standings l = refl
gone_length inverse k (p ∷ ps) [] l = refl
gone_length false k (p ∷ ps) (standing ∷ standings) l = gone_length false k ps standings (ran_of p.turns k standing.state l) ∙ ran_length p.turns k standing.state l
gone_length true k (p ∷ ps) (standing ∷ standings) l =
    ran_length p.turns k standing.state (gone_of true k ps standings l).list ∙ gone_length true k ps standings l

-- both parts, the second from where the first leaves each step
abbrev pub joined : Bool → ℕ → List Pass → List Standing → ℕ → List Float → List Float → Gone
joined inverse k ps standings n l more =
    let first = gone_of inverse k ps standings l in
    let second = gone_of inverse (k + n) ps first.standings more in
    record { list = first.list ++ second.list; standings = second.standings }

pub in_parts : (inverse : Bool) (k : ℕ) (ps : List Pass) (standings : List Standing) (n : ℕ) (l more : List Float) → length l ≡ 4 * n
    → gone_of inverse k ps standings (l ++ more) ≡ joined inverse k ps standings n l more
unfolding gone_of
in_parts inverse k [] standings n l more h = refl
in_parts inverse k (p ∷ ps) [] n l more h = refl
in_parts false k (p ∷ ps) (standing ∷ standings) n l more h =
    rw (
      ran_append p.turns k standing.state n l more h,
      moved-append p k standing n l more h,
      in_parts false k ps standings n (ran_of p.turns k standing.state l) (ran_of p.turns (k + n) (state_after_of p.turns k standing.state l) more) (ran_length p.turns k standing.state l ∙ h),
    )
in_parts true k (p ∷ ps) (standing ∷ standings) n l more h =
    let a = (gone_of true k ps standings l).list in
    let b = (gone_of true (k + n) ps (gone_of true k ps standings l).standings more).list in
    let long : length a ≡ 4 * n = gone_length true k ps standings l ∙ h in
    rw (in_parts true k ps standings n l more h, ran_append p.turns k standing.state n a b long, moved-append p k standing n a b long)

-- standings stay as many
pub gone_standings : (inverse : Bool) (k : ℕ) (ps : List Pass) (standings : List Standing) (l : List Float) → length ps ≤ length standings
    → length (gone_of inverse k ps standings l).standings ≡ length standings
unfolding gone_of
gone_standings inverse k [] standings l h = refl
gone_standings inverse k (p ∷ ps) [] l h = absurd (omega (arith, h))
gone_standings false k (p ∷ ps) (standing ∷ standings) l h = ap suc (gone_standings false k ps standings (ran_of p.turns k standing.state l) (omega (arith, h)))
gone_standings true k (p ∷ ps) (standing ∷ standings) l h = ap suc (gone_standings true k ps standings l (omega (arith, h)))

-- a step counts no more tuples than there are
pub count_few : {S : Type 0} (f : Turns S) (k : ℕ) (state : S) (l : List Float) → 4 * count_of f k state l ≤ length l
count_few f k state (x ∷ y ∷ z ∷ t ∷ rest) =
    let turn = f k state (four_of x y z t) in
    omega (arith, at_most_one turn.counted, count_few f (suc k) turn.state rest)
count_few f k state (x ∷ y ∷ z ∷ []) = omega arith
count_few f k state (x ∷ y ∷ []) = omega arith
count_few f k state (x ∷ []) = omega arith
count_few f k state [] = omega arith

-- neither number of a step's tally is over the number of tuples
pub tally_few : (p : Pass) (k : ℕ) (state : State) (l : List Float) → (4 * (tally_of p k state l).count ≤ length l) × (4 * (tally_of p k state l).met ≤ length l)
tally_few p k state l = (count_few p.turns k state l, count_few (meets p) k state l)

-- over less than a tuple all stays
state_short : {S : Type 0} (f : Turns S) (k : ℕ) (state : S) (l : List Float) → length l < 4 → state_after_of f k state l ≡ state
state_short f k state (x ∷ y ∷ z ∷ t ∷ rest) h = absurd (omega (arith, h))
state_short f k state (x ∷ y ∷ z ∷ []) h = refl
state_short f k state (x ∷ y ∷ []) h = refl
state_short f k state (x ∷ []) h = refl
state_short f k state [] h = refl

tally_short : (p : Pass) (k : ℕ) (state : State) (l : List Float) → length l < 4 → tally_of p k state l ≡ no_tally
tally_short p k state l h = rw (count_short p.turns k state l h, count_short (meets p) k state l h)

moved-short : (p : Pass) (k : ℕ) (standing : Standing) (l : List Float) → length l < 4 → moved_on p k standing l ≡ standing
moved-short p k standing l h =
    let es = state_short p.turns k standing.state l h in
    let et = ap (plus_of standing.tally) (tally_short p k standing.state l h) ∙ plus_none standing.tally in
    λ j. record { state = es j; tally = et j }

pub in_no_part : (inverse : Bool) (k : ℕ) (ps : List Pass) (standings : List Standing) (l : List Float) → length l < 4
    → gone_of inverse k ps standings l ≡ record { list = l; standings = standings }
unfolding gone_of
in_no_part inverse k [] standings l h = refl
in_no_part inverse k (p ∷ ps) [] l h = refl
in_no_part false k (p ∷ ps) (standing ∷ standings) l h =
    rw (ran_short p.turns k standing.state l h, in_no_part false k ps standings l h, moved-short p k standing l h)
in_no_part true k (p ∷ ps) (standing ∷ standings) l h =
    rw (in_no_part true k ps standings l h, ran_short p.turns k standing.state l h, moved-short p k standing l h)
