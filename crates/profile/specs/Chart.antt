-- The chart profile's rules in words: what its laws speak of.
use Rattle.std.specs.Prelude.{◌≡◌, ℕ, ◌+◌, ◌<◌, true, false}
use Rattle.helmert.specs.declared.Helmert.{Helmert as HelmertRecord}
use Rattle.helmert.specs.Record.{exact_of, own_epoch_of}
use Rattle.helmert.specs.Units.{parameters_of}
use Rattle.helmert.specs.Rules.{dynamic_of}
use Rattle.cart.specs.declared.Cart.{Cart as CartRecord}
use Rattle.bodies.specs.declared.Step.{Step}
use Rattle.bodies.specs.declared.Step.TheVariants.{Cart, Helmert}
use Rattle.profile.specs.Profile.{refusal25}

-- "Helmert and cart only, no exact flag, own-epoch or not dynamic"
pub data LetsThrough : Step → Type 0 where
  a-cart : {r : CartRecord} → LetsThrough (Cart r)
  own_epoch : {h : HelmertRecord} → exact_of h ≡ false → own_epoch_of h ≡ true → LetsThrough (Helmert h)
  not_dynamic : {h : HelmertRecord} → exact_of h ≡ false → dynamic_of (parameters_of h) ≡ false → LetsThrough (Helmert h)

-- of k steps from step i on, step i + j is the first that offends
pub record FirstOffence (step : ℕ → Step) (k i j : ℕ) : Type 0 where
  pub there : j < k
  pub offends : refusal25 (step (i + j)) ≡ true
  pub none_before : (m : ℕ) → m < j → refusal25 (step (i + m)) ≡ false
