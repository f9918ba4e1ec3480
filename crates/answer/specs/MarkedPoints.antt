-- P1, complete: document 01's marked point of the program, from a job's bytes to the text.
use Rattle.std.specs.Prelude.{◌≡◌, List, [], ◌∷◌, ◌++◌, ℕ, replicate}
use Rattle.chain.specs.MarkedPoints.{bytes, p1}
use Rattle.text.specs.Ascii.{ascii}
use Rattle.answer.specs.Answer.{answer_of}

-- forward, a sheet of 40 bytes, one tuple, no velocities; P1's sheet; the tuple (0, 0, 0, 0)
unfoldable pub p1_job : List ℕ
p1_job = bytes (0 ∷ 40 ∷ 1 ∷ 0 ∷ []) ++ p1 ++ replicate 32 0

-- the three lines that document 01 prints
abbrev pub P1Printed : Type 0
P1Printed =
    answer_of p1_job
    ≡ ascii "steps 1 tuples 1\nstep 1 counted 1\n415854a640000000 0000000000000000 0000000000000000 0000000000000000\n"
