-- Blocks of the same values are the same list. So a contract that says `Each (now y.exit) f`
-- fixes every number of the block y, and leaves nothing beside them. Assumes nothing.
use Prim.Native.Nat.{ℕ, ◌<◌}
use mathlib.Core.Path.{◌≡◌, sym, ◌∙◌, subst}
use mathlib.Core.List.{List}
use lib.Seq.{ext_get_or}
use lib.Ieee.{Float}
use Rattle.blocks.specs.Each.{Filled, Each, EachWhole}

-- of elements of any type
filled_is_one : {A : Type 0} {d : A} {l m : List A} {f : ℕ → A} → Filled d 16 l f → Filled d 16 m f → l ≡ m
filled_is_one {A} {d} {l} {m} u w =
    ext_get_or d l m (u.block ∙ sym w.block) (λ j h. let k : j < 16 = subst (λ (n : ℕ). j < n) u.block h in u.held j k ∙ sym (w.held j k))

pub each_is_one : {l m : List Float} {f : ℕ → Float} → Each l f → Each m f → l ≡ m
each_is_one u w = filled_is_one u w

pub each_whole_is_one : {l m : List ℕ} {f : ℕ → ℕ} → EachWhole l f → EachWhole m f → l ≡ m
each_whole_is_one u w = filled_is_one u w
