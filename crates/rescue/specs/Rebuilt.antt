-- The sheet that is rebuilt of damaged bytes. Its places are form 1's and stand here by themselves:
-- a form word of 2 is a damaged word like any other. Steps are counted from 0 here.
use Rattle.std.specs.Prelude.{ℕ, zero, suc, ◌+◌, ◌*◌, List, [], ◌++◌, length, drop}
use Rattle.words.specs.Words.{word32, le32}
use Rattle.bodies.specs.Kinds.{length_of}

-- ---- what is taken as it stands: the step count, each step's kind and its inverted word

abbrev pub count_word : List ℕ → ℕ
count_word s = word32 s 8

abbrev pub kind_word : List ℕ → ℕ → ℕ
kind_word s i = word32 s (16 + 16 * i)

abbrev pub inverted_word : List ℕ → ℕ → ℕ
inverted_word s i = word32 s (16 + 16 * i + 4)

-- ---- what follows from these

-- the length of header and directory together; the first body starts there
abbrev pub head_length : List ℕ → ℕ
head_length s = 16 + 16 * count_word s

-- where the body of step i starts: the first where the directory ends, each other where the body
-- before it ends, which is as long as its kind says
unfoldable pub start_of : List ℕ → ℕ → ℕ
start_of s zero = head_length s
start_of s (suc i) = start_of s i + length_of (kind_word s i)

-- ---- the bytes

-- form; total length; step count; directory offset
unfoldable pub header_bytes : List ℕ → List ℕ
header_bytes s = le32 1 ++ le32 (length s) ++ le32 (count_word s) ++ le32 16

-- kind; inverted; body offset; body length
unfoldable pub entry_bytes : List ℕ → ℕ → List ℕ
entry_bytes s i = le32 (kind_word s i) ++ le32 (inverted_word s i) ++ le32 (start_of s i) ++ le32 (length_of (kind_word s i))

-- the directory's first n entries
unfoldable pub directory_bytes : List ℕ → ℕ → List ℕ
directory_bytes s zero = []
directory_bytes s (suc n) = directory_bytes s n ++ entry_bytes s n

-- header and directory anew, and after them the bodies' bytes as they stand
unfoldable pub rebuilt_of : List ℕ → List ℕ
rebuilt_of s = header_bytes s ++ directory_bytes s (count_word s) ++ drop (head_length s) s
