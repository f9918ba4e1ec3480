-- One case for each return. Each by `beyond`. Assumes nothing.
use native.Mathlib.Nat.{le_trans, le-suc}
use lib.ListN.{get_or-eq_default}
use lib.Ieee.{of_bits, neg}
use Rattle.arctan.proofs.Match.{beyond}
use Rattle.arctan.specs.Table.{cell_at, cells}
use Rattle.arctan.proofs.cell_at.Goals as goal

pub returns-in-0 : goal.returns-in-0
unfolding cell_at cells of_bits neg
returns-in-0 c = rw c.in-0.is

pub returns-in-1 : goal.returns-in-1
unfolding cell_at cells of_bits neg
returns-in-1 c = rw c.in-1.is

pub returns-in-2 : goal.returns-in-2
unfolding cell_at cells of_bits neg
returns-in-2 c = rw c.in-2.is

pub returns-in-3 : goal.returns-in-3
unfolding cell_at cells of_bits neg
returns-in-3 c = rw c.in-3.is

pub returns-in-4 : goal.returns-in-4
unfolding cell_at cells of_bits neg
returns-in-4 c = rw c.in-4.is

pub returns-in-5 : goal.returns-in-5
unfolding cell_at cells of_bits neg
returns-in-5 c = rw c.in-5.is

pub returns-in-6 : goal.returns-in-6
unfolding cell_at cells of_bits neg
returns-in-6 c = rw c.in-6.is

pub returns-in-7 : goal.returns-in-7
unfolding cell_at cells of_bits neg
returns-in-7 c = rw c.in-7.is

pub returns-in-8 : goal.returns-in-8
unfolding cell_at cells of_bits neg
returns-in-8 c = rw c.in-8.is

pub returns-in-9 : goal.returns-in-9
unfolding cell_at cells of_bits neg
returns-in-9 c = rw c.in-9.is

pub returns-in-10 : goal.returns-in-10
unfolding cell_at cells of_bits neg
returns-in-10 c = rw c.in-10.is

pub returns-in-11 : goal.returns-in-11
unfolding cell_at cells of_bits neg
returns-in-11 c = rw c.in-11.is

pub returns-in-12 : goal.returns-in-12
unfolding cell_at cells of_bits neg
returns-in-12 c = rw c.in-12.is

pub returns-in-13 : goal.returns-in-13
unfolding cell_at cells of_bits neg
returns-in-13 c = rw c.in-13.is

pub returns-in-14 : goal.returns-in-14
unfolding cell_at cells of_bits neg
returns-in-14 c = rw c.in-14.is

pub returns-in-15 : goal.returns-in-15
unfolding cell_at cells of_bits neg
returns-in-15 c = rw c.in-15.is

pub returns-in-16 : goal.returns-in-16
unfolding cell_at cells of_bits neg
returns-in-16 c = rw c.in-16.is

pub returns-in_default : goal.returns-in_default
unfolding cell_at cells of_bits neg
returns-in_default c =
    rw (get_or-eq_default cells _ (le_trans (le-suc 16) (beyond 17 c.args.i c.in_default.in_default-own.rest)))
