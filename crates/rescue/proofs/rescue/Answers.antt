-- Rule 19 first (`gives-19`). Where it is kept the sheet has at most 4,240 bytes (`can_be_rebuilt`), so
-- the rebuilt sheet is the array's first bytes (`put_stands`), and `give` answers. Assumes nothing.
use native.Mathlib.Omega.{arith}
use mathlib.Core.Path.{◌≡◌, refl, sym, ap, ◌∙◌}
use mathlib.Core.Bool.{true, false}
use Prim.Native.Nat.{ℕ, ◌+◌, ◌≤◌}
use mathlib.Core.List.{List}
use lib.ListN.{length, take, replicate, length-replicate}
use Rattle.words.proofs.Laws.{length-put}
use lib.Seq.{length-take-le}
use Rattle.sheet.specs.Rules.{unless}
use Rattle.rescue.specs.Rebuilt.{rebuilt_of}
use Rattle.rescue.specs.Rules.{refusal19}
use Rattle.rescue.proofs.Rebuildable.{can_be_rebuilt}
use Rattle.rescue.proofs.Rebuilding.{rebuilt-length, put_stands}
use Rattle.rescue.proofs.Giving.{gives-19}
use Rattle.rescue.proofs.rescue.Goals as goal

pub returns-then-is_lost : goal.returns-then-is_lost
unfolding unless
returns-then-is_lost c =
    let a = c.args in
    let lost : refusal19 a.s.now ≡ true = sym c.is_lost.ensures ∙ c.if-is_lost.true in
    rw (gives-19 a.s.now a.room.now a.list.now lost, c.of_call.ensures) (refl, (refl, refl))

pub rebuild-requires : goal.rebuild-requires
rebuild-requires c =
    let a = c.args in
    let kept : refusal19 a.s.now ≡ false = sym c.is_lost.ensures ∙ c.if-is_lost.false in
    let ok = can_be_rebuilt a.s.now kept in
    (kept, rw length-replicate ok.at-most-long)

pub slice_bounds-rebuilt-end : goal.slice_bounds-rebuilt-end
slice_bounds-rebuilt-end c =
    let a = c.args in
    let kept : refusal19 a.s.now ≡ false = sym c.is_lost.ensures ∙ c.if-is_lost.false in
    let ok = can_be_rebuilt a.s.now kept in
    let room : List ℕ = replicate 4240 0 in
    let long : length (rebuilt_of a.s.now) ≡ length a.s.now = rebuilt-length a.s.now ok.inside in
    let fits : 0 + length (rebuilt_of a.s.now) ≤ length room = rw length-replicate (omega (arith, long, ok.at-most-long)) in
    let wide : length c.rebuild.new.r ≡ 4240 = ap length c.rebuild.ensures ∙ length-put room 0 (rebuilt_of a.s.now) fits ∙ length-replicate {A = ℕ} 4240 0 in
    rw wide ok.at-most-long

pub slice_bounds-give-end : goal.slice_bounds-give-end
slice_bounds-give-end c =
    let a = c.args in
    let kept : refusal19 a.s.now ≡ false = sym c.is_lost.ensures ∙ c.if-is_lost.false in
    let ok = can_be_rebuilt a.s.now kept in
    let room : List ℕ = replicate 4240 0 in
    let long : length (rebuilt_of a.s.now) ≡ length a.s.now = rebuilt-length a.s.now ok.inside in
    let fits : 0 + length (rebuilt_of a.s.now) ≤ length room = rw length-replicate (omega (arith, long, ok.at-most-long)) in
    let wide : length c.rebuild.new.r ≡ 4240 = ap length c.rebuild.ensures ∙ length-put room 0 (rebuilt_of a.s.now) fits ∙ length-replicate {A = ℕ} 4240 0 in
    sym (length-take-le _ _ (rw wide ok.at-most-long))

pub give-requires : goal.give-requires
give-requires c =
    let a = c.args in
    let kept : refusal19 a.s.now ≡ false = sym c.is_lost.ensures ∙ c.if-is_lost.false in
    let ok = can_be_rebuilt a.s.now kept in
    let room : List ℕ = replicate 4240 0 in
    let long : length (rebuilt_of a.s.now) ≡ length a.s.now = rebuilt-length a.s.now ok.inside in
    let fits : 0 + length (rebuilt_of a.s.now) ≤ length room = rw length-replicate (omega (arith, long, ok.at-most-long)) in
    let wide : length c.rebuild.new.r ≡ 4240 = ap length c.rebuild.ensures ∙ length-put room 0 (rebuilt_of a.s.now) fits ∙ length-replicate {A = ℕ} 4240 0 in
    (kept, ap (take (length a.s.now)) c.rebuild.ensures ∙ put_stands room (rebuilt_of a.s.now) (length a.s.now) long)
