-- A number is read in a part as in the whole (`number_in_part`). Assumes nothing.
use Rattle.grid.specs.Lookup.{pair_at}
use Rattle.words.proofs.Laws.{number_in_part}
use Rattle.std.proofs.Common.{◌≡◌, ◌+◌, ◌-◌, add-zero, add_assoc, arith}
use Rattle.grid.proofs.pair_at.Goals as goal

pub returns-then-g-at-ge48 : goal.returns-then-g-at-ge48
unfolding pair_at
returns-then-g-at-ge48 c =
    let s = c.args.g.now in
    let at = c.args.at in
    let n : c.args.at + 48 - c.args.at ≡ 48 = omega arith in
    rw (
      c.whole_pair.ensures,
      n,
      number_in_part s at 0 48 (omega arith),
      number_in_part s at 8 48 (omega arith),
      number_in_part s at 16 48 (omega arith),
      number_in_part s at 24 48 (omega arith),
      number_in_part s at 32 48 (omega arith),
      number_in_part s at 40 48 (omega arith),
      add-zero at,
      add_assoc at 24 8,
      add_assoc at 24 16,
    )
