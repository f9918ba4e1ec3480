-- One case for each profile: none, the chart's, another. Assumes nothing.
use native.Mathlib.Omega.{arith}
use borrow.Author.Tests.{ne_eqb}
use Rattle.sheet.specs.Rules.{first_broken, unless}
use Rattle.profile.specs.Profile.{profile_rules}
use Rattle.profile.proofs.judge.Goals as goal

pub returns-in-0 : goal.returns-in-0
unfolding profile_rules first_broken unless
returns-in-0 c = rw c.in-0.is

pub returns-in-1 : goal.returns-in-1
unfolding profile_rules
returns-in-1 c = rw (c.first_offence.ensures, c.in-1.is, c.requires.1)

pub returns-in_default : goal.returns-in_default
unfolding profile_rules first_broken unless
returns-in_default c = let p = c.args.profile in
    rw (c.of_call.ensures, ne_eqb p 0 (λ e. omega (arith, e)), ne_eqb p 1 (λ e. omega (arith, e)))
