-- By `root_range` and `put-rounded`, from what the calls ensure. Assumes nothing.
use Rattle.std.proofs.Common.{◌*◌, ◌^◌, sym, subst}
use Rattle.root.specs.Sqrt.{RoundedRoot}
use Rattle.root.proofs.Rounded.{root_range, put-rounded}
use Rattle.root.proofs.slow.Goals as goal

pub put-requires : goal.put-requires
put-requires c =
    let r = root_range c.args.a c.by_digits.result c.requires.0 c.requires.1 c.by_digits.ensures in
    (r.0, r.1, c.requires.2)

pub returns : goal.returns
returns c =
    let a = c.args.a in
    let k = c.args.k in
    subst (RoundedRoot (a * 2 ^ 52 * (2 ^ k * 2 ^ k))) (sym c.put.ensures) (put-rounded a k c.by_digits.result c.requires.0 c.requires.1 c.requires.2 c.by_digits.ensures)
