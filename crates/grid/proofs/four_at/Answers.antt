-- A number is read in a part as in the whole (`number_in_part`). The southern part ends no later than
-- the northern one, so it lies within the bytes too. Assumes nothing.
use Rattle.grid.specs.Lookup.{pair_at, four_at}
use Rattle.words.proofs.Laws.{number_in_part}
use Rattle.std.proofs.Common.{◌≡◌, ◌+◌, ◌-◌, add-zero, add_assoc, arith}
use Rattle.grid.proofs.four_at.Goals as goal

pub returns-then-g-north-ge48 : goal.returns-then-g-north-ge48
unfolding pair_at four_at
returns-then-g-north-ge48 c =
    let s = c.args.g.now in
    let south = c.args.south in
    let north = c.args.north in
    let p = c.requires in
    let n : c.args.south + 48 - c.args.south ≡ 48 = omega arith in
    let m : c.args.north + 48 - c.args.north ≡ 48 = omega arith in
    rw (
      c.whole_four.ensures,
      n,
      m,
      number_in_part s south 0 48 (omega arith),
      number_in_part s south 8 48 (omega arith),
      number_in_part s south 16 48 (omega arith),
      number_in_part s south 24 48 (omega arith),
      number_in_part s south 32 48 (omega arith),
      number_in_part s south 40 48 (omega arith),
      number_in_part s north 0 48 (omega arith),
      number_in_part s north 8 48 (omega arith),
      number_in_part s north 16 48 (omega arith),
      number_in_part s north 24 48 (omega arith),
      number_in_part s north 32 48 (omega arith),
      number_in_part s north 40 48 (omega arith),
      add-zero south,
      add-zero north,
      add_assoc south 24 8,
      add_assoc south 24 16,
      add_assoc north 24 8,
      add_assoc north 24 16,
    )

pub returns : goal.returns
unfolding four_at
returns c = rw (c.cut_pair-2.ensures, c.cut_pair.ensures)
