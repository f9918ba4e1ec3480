-- One case for each mode: in own-epoch mode the definition asks of each row, whatever state reaches
-- it, what the pass asks (`own_met`); in static and fixed mode one matrix serves every row
-- (`fixed_met`), and all rows count, or none. Assumes nothing.
use borrow.Author.Rules.{rules}
use mathlib.Core.Path.{refl, sym, ◌∙◌}
use Rattle.tuple.specs.declared.Tuple.{Tuple}
use Rattle.helmert.specs.Turns.{helmert_turns}
use Rattle.helmert.proofs.Counts.{count_by_tuple}
use Rattle.helmert.proofs.Laws.{runs_told, owns_told}
use Rattle.columns.specs.Columns.{flat_of}
use Rattle.reach.specs.Met.{meeting_of, helmert_met, own_out}
use Rattle.reach.proofs.Modes.{own_met, fixed_met}
use Rattle.reach_columns.proofs.Along.{count_none, count_rows}
use Rattle.reach_columns.proofs.helmert_rows.Goals as goal

pub running_rows-requires : goal.running_rows-requires
running_rows-requires c = let p = c.requires in (p.0, runs_told c.args.shift (sym c.mode.ensures ∙ c.in-Running.is), p.1, p.2)

pub returns-in-Running : goal.returns-in-Running
returns-in-Running c = c.running_rows.ensures

pub returns-in-OwnEpoch : goal.returns-in-OwnEpoch
returns-in-OwnEpoch c =
    let a = c.args in
    let p = c.requires in
    let f = meeting_of (helmert_met a.shift) (helmert_turns a.inverse a.shift) in
    let own = owns_told a.shift (sym c.mode.ensures ∙ c.in-OwnEpoch.is) refl in
    c.rows_where.ensures (λ (v : Tuple). own_out a.shift v.t) (λ v r post. search (rules, post))
    ∙ sym (count_by_tuple f (λ (v : Tuple). own_out a.shift v.t) (λ k state v. sym (own_met a.shift state v own p.1 p.2)) 0 a.from (flat_of a.x.now a.y.now a.z.now a.t.now))

pub returns-then-rotation_out : goal.returns-then-rotation_out
returns-then-rotation_out c =
    let a = c.args in
    let p = c.requires in
    let f = meeting_of (helmert_met a.shift) (helmert_turns a.inverse a.shift) in
    let still = sym c.mode.ensures ∙ c.in-Still.is in
    let out = sym c.rotation_out.ensures ∙ c.if-rotation_out.true in
    count_rows f (λ k state v. fixed_met a.shift state v (runs_told a.shift still) (owns_told a.shift still refl) p.1 p.2 ∙ out) 0 a.from a.x.now a.y.now a.z.now a.t.now p.0

pub returns-else-rotation_out : goal.returns-else-rotation_out
returns-else-rotation_out c =
    let a = c.args in
    let p = c.requires in
    let f = meeting_of (helmert_met a.shift) (helmert_turns a.inverse a.shift) in
    let still = sym c.mode.ensures ∙ c.in-Still.is in
    let none = sym c.rotation_out.ensures ∙ c.if-rotation_out.false in
    sym (count_none f (λ k state v. fixed_met a.shift state v (runs_told a.shift still) (owns_told a.shift still refl) p.1 p.2 ∙ none) 0 a.from (flat_of a.x.now a.y.now a.z.now a.t.now))
