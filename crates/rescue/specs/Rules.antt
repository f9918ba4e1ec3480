-- When a rescue is refused, by document 02's numbers, and what it leaves. The order stands in
-- `rescue_order`; an answer is the first rule that is broken.
use Rattle.std.specs.Prelude.{ℕ, ◌*◌, Bool, not, cond, ◌||◌, List, ◌∷◌, eqb, ltb, length}
use Rattle.words.specs.Words.{put}
use Rattle.bodies.specs.Kinds.{length_of}
use Rattle.sheet.specs.declared.Refusal.{Refusal}
use Rattle.sheet.specs.Rules.{Rule, rule, of_call, some_from, reader_order, first_broken}
use Rattle.rescue.specs.Rebuilt.{count_word, kind_word, inverted_word, head_length, start_of, rebuilt_of}
use Rattle.rescue.specs.Changes.{changes_of, list_of}

-- ---- 19, cannot be rebuilt

-- a kind without a length, or an inverted word over 1
unfoldable pub entry_broken : List ℕ → ℕ → Bool
entry_broken s i = eqb (length_of (kind_word s i)) 0 || ltb 1 (inverted_word s i)

-- fewer than 16 bytes; a step count of 0 or over 16; a directory past the end; an entry that
-- nothing can be rebuilt of; or bodies that do not fill the remaining bytes exactly
unfoldable pub refusal19 : List ℕ → Bool
refusal19 s =
    ltb (length s) 16
    || (eqb (count_word s) 0 || ltb 16 (count_word s))
    || ltb (length s) (head_length s)
    || some_from (entry_broken s) (count_word s) 0
    || not (eqb (start_of s (count_word s)) (length s))

-- ---- 15, room or list too short

-- the room is shorter than the sheet, or the list shorter than three words a change
unfoldable pub refusal15 : List ℕ → ℕ → ℕ → Bool
refusal15 s room list = ltb room (length s) || ltb list (3 * length (changes_of s))

-- ---- the order

-- 19; then 15; then the reader's own, of the sheet that is rebuilt
unfoldable pub rescue_order : List ℕ → ℕ → ℕ → List Rule
rescue_order s room list =
    rule (of_call 19) (refusal19 s)
    ∷ rule (of_call 15) (refusal15 s room list)
    ∷ reader_order (rebuilt_of s)

-- ---- the answers

-- the refusal, of damaged bytes and the lengths of room and list
unfoldable pub rescue_refusal_of : List ℕ → ℕ → ℕ → Refusal
rescue_refusal_of s room list = first_broken (rescue_order s room list)

-- no refusal and how many words were changed, or a refusal and 0
pub record Rescued : Type 0 where
  pub refusal : Refusal
  pub changed : ℕ

abbrev pub rescued_as : Refusal → ℕ → Rescued
rescued_as refusal changed = record { refusal = refusal; changed = changed }

-- what a call answers, and the room and the list afterwards
pub record RescueOutcome : Type 0 where
  pub answer : Rescued
  pub room : List ℕ
  pub list : List ℕ

abbrev pub outcome : Rescued → List ℕ → List ℕ → RescueOutcome
outcome answer room list = record { answer = answer; room = room; list = list }

-- Accepted: the rebuilt sheet stands at the room's start and its changes at the list's, and nothing
-- after them is touched. Refused: no change, and room and list hold what they held.
unfoldable pub rescue_of : List ℕ → List ℕ → List ℕ → RescueOutcome
rescue_of s room list =
    let refusal = rescue_refusal_of s (length room) (length list) in
    cond (eqb refusal.number 0)
    (outcome (rescued_as refusal (length (changes_of s))) (put room 0 (rebuilt_of s)) (put list 0 (list_of (changes_of s))))
    (outcome (rescued_as refusal 0) room list)
