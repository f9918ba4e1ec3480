-- What is put back, and what is left, are the window's track (`put_back_is`). Assumes nothing.
use native.Mathlib.Omega.{arith}
use Rattle.tuple.specs.declared.Tuple.{Tuple}
use Rattle.stretch_flat_track.proofs.Windows.{column_length, times_of}
use Rattle.stretch_flat_track.proofs.Again.{retrack_few, put_back_is}
use Rattle.stretch_flat_track.proofs.retrack_window.Goals as goal

pub put_back-requires : goal.put_back-requires
put_back-requires c =
    let few = retrack_few _ _ c.args.list.now _ (omega (arith, c.requires.2)) c.requires.3 c.retrack_room-again.ensures in (
      (omega (arith, c.requires.0.0), omega (arith, c.requires.0.1), omega (arith, c.requires.0.2)),
      omega (arith, few, c.requires.1, c.requires.2),
      omega (arith, c.requires.1, c.requires.2, c.requires.3),
    )

pub returns : goal.returns
returns c =
    let k = column_length (λ (v : Tuple). v.t) c.args.list.now in
    rw c.put_back.ensures (put_back_is c.args.shift c.args.from (times_of c.args.list.now) c.args.track.now (omega (arith, k, c.requires.2, c.requires.3)) c.retrack_room-again.ensures)
