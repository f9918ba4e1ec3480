-- The definition, and a remainder is below its divisor. Assumes nothing.
use native.Mathlib.Omega.{arith}
use mathlib.Core.Path.{refl}
use Rattle.closure_page.specs.Page.{heard_of}
use Rattle.closure_page.proofs.heard.Goals as goal

pub returns : goal.returns
unfolding heard_of
returns c = (refl, omega arith)
