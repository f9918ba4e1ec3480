-- Text in a lent room: a room of bytes, and the place where the next byte goes.
use Rattle.std.specs.Prelude.{ℕ, ◌+◌, ◌-◌, min, List, ◌++◌, length, take, drop}

pub record Text : Type 0 where
  pub room : List ℕ
  pub place : ℕ

abbrev pub text : List ℕ → ℕ → Text
text room place = record { room = room; place = place }

-- The room afterwards is what stood before the place, the bytes, and what stood after them; the new
-- place is past them. Where they do not all fit, those that fit are written and the new place is
-- the room's end.
unfoldable pub appended : Text → List ℕ → Text
appended t bs =
    let l = t.room in
    let at = t.place in
    text (take at l ++ take (length l - at) bs ++ drop (at + length bs) l) (min (at + length bs) (length l))
