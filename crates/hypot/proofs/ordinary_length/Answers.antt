-- An ordinary sum of squares has neither an infinite part nor a NaN. Assumes nothing.
use Rattle.hypot.proofs.Squares.{ordinary-pair}
use Rattle.hypot.proofs.Signless.{no-nan-sum, no-nan-first, no-nan-second}
use Rattle.hypot.proofs.ordinary_length.Goals as goal

pub magnitude-p-requires : goal.magnitude-p-requires
magnitude-p-requires c = no-nan-first c.args.squares c.args.x c.args.y c.requires.0 c.requires.1

pub magnitude-q-requires : goal.magnitude-q-requires
magnitude-q-requires c = no-nan-second c.args.squares c.args.x c.args.y c.requires.0 c.requires.1

pub guess_of_number-requires : goal.guess_of_number-requires
guess_of_number-requires c = no-nan-sum c.args.squares c.args.x c.args.y c.requires.0 c.requires.1

pub returns : goal.returns
returns c =
    rw (c.bounded.ensures, c.root.ensures, c.smaller_of-b.ensures, c.larger_of-a.ensures, c.magnitude-q.ensures, c.magnitude-p.ensures)
    (ordinary-pair c.args.x c.args.y c.args.squares c.requires.0 c.requires.1)
