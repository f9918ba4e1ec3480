-- Invariant: the room is the one at the start with the first i bodies put where the directory ends
-- (`bodies_bytes`), and as long as that; `start` is where body i starts (`body_start`), at most 248
-- bytes a body past the directory. A turn puts body i there, which ends within the room
-- (`ends-within`) and is one body more (`bodies-next`), and moves `start` past it (`start-next`).
-- At i = n all bodies are put. Assumes nothing.
use mathlib.Core.Path.{◌≡◌}
use Prim.Native.Nat.{◌+◌, ◌*◌, ◌≤◌}
use Rattle.sheet_writer.specs.Bytes.{body_start, bodies_bytes}
use lib.ListN.{length}
use Rattle.words.specs.Words.{put}
use Rattle.sheet_writer.proofs.put_bodies.Given as goal

abbrev pub invariant-loop-i : goal.invariant-loop-i
invariant-loop-i l = (l.i ≤ l.n) × ((l.start ≡ body_start l.sheet l.i) × ((l.start ≤ 16 + 16 * l.n + 248 * l.i) × ((length l.room ≡ length l.initial.room) × (l.room ≡ put l.initial.room (16 + 16 * l.n) (bodies_bytes l.sheet l.i)))))
