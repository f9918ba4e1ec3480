-- What holds of every rescue, for callers to cite: which refusal is given when; that what is
-- accepted passes the reader and has the bodies as they were; that the list has exactly the words
-- that differ; that a whole sheet comes out as it is, and a damaged one as it was. Assumes nothing.
use mathlib.Core.Path.{◌≡◌, refl, sym, ap, ◌∙◌}
use mathlib.Core.Logic.{◌↔◌}
use Prim.Native.Nat.{ℕ, zero, suc, ◌*◌, ◌<◌, ◌≤◌}
use mathlib.Core.Bool.{Bool, true, false}
use mathlib.Core.List.{List}
use native.Mathlib.Omega.{arith}
use borrow.Author.Tests.{le-ltb, ne_eqb}
use lib.ListN.{length, take, drop}
use Rattle.words.specs.Words.{Bytes, put}
use Rattle.words.proofs.Laws.{put_none}
use Rattle.sheet.specs.declared.Refusal.{Refusal}
use Rattle.sheet.specs.Rules.{accepted, refusal_of}
use Rattle.sheet.proofs.Order.{reader_never_gives}
use Rattle.sheet.proofs.Accepted.{accepted-keeps, keeps-accepted}
use Rattle.rescue.specs.Rebuilt.{count_word, kind_word, inverted_word, head_length, start_of, header_bytes, entry_bytes, directory_bytes, rebuilt_of}
use Rattle.rescue.specs.Changes.{Change, head_words, changes_of, list_of}
use Rattle.rescue.specs.Rules.{refusal19, refusal15, rescue_refusal_of, rescued_as, outcome, rescue_of}
use Rattle.rescue.specs.Listed.{Has, Ascending, Differs}
use Rattle.rescue.proofs.Rebuildable.{Rebuildable, can_be_rebuilt}
use Rattle.rescue.proofs.Rebuilding.{rebuilt-length, bodies_kept, put_stands, behind}
use Rattle.rescue.proofs.Reading.{reader-leaves}
use Rattle.rescue.proofs.Listing.{list_length, listed-differs, differs-listed, in_ascending_place}
use Rattle.rescue.proofs.Giving.{refused-19, refused-15, left-to-reader, gives-sheet}
use Rattle.rescue.proofs.Whole.{whole-kept, rebuilt-same, whole-unchanged}

-- ---- which refusal is given when

either : {A : Type 0} (b : Bool) → (b ≡ true → A) → (b ≡ false → A) → A
either true p q = p refl
either false p q = q refl

module _ (s : List ℕ) (room list : ℕ) where
  abbrev given : ℕ
  given = (rescue_refusal_of s room list).number

  three_ways : {A : Type 0} → (refusal19 s ≡ true → given ≡ 19 → A)
      → (refusal19 s ≡ false → refusal15 s room list ≡ true → given ≡ 15 → A)
      → (refusal19 s ≡ false → refusal15 s room list ≡ false → given ≡ (refusal_of (rebuilt_of s)).number → A) → A
  three_ways p q r =
      either (refusal19 s) (λ a. p a (ap (λ (x : Refusal). x.number) (refused-19 s room list a)))
      (λ a. either (refusal15 s room list) (λ b. q a b (ap (λ (x : Refusal). x.number) (refused-15 s room list a b)))
      (λ b. r a b (ap (λ (x : Refusal). x.number) (left-to-reader s room list a b))))

  pub nineteen-exactly-when : (given ≡ 19) ↔ (refusal19 s ≡ true)
  nineteen-exactly-when = (
    λ e. three_ways (λ a g. a) (λ a b g. absurd (omega (arith, g, e)))
        (λ a b g. absurd (reader_never_gives 19 (λ z. omega (arith, z)) (λ l m. omega (arith, m)) (λ z. omega (arith, z)) (rebuilt_of s) (sym g ∙ e))),
    λ a. ap (λ (x : Refusal). x.number) (refused-19 s room list a),
  )

  pub fifteen-exactly-when : (given ≡ 15) ↔ ((refusal19 s ≡ false) × (refusal15 s room list ≡ true))
  fifteen-exactly-when = (
    λ e. three_ways (λ a g. absurd (omega (arith, g, e))) (λ a b g. (a, b))
        (λ a b g. absurd (reader_never_gives 15 (λ z. omega (arith, z)) (λ l m. omega (arith, m)) (λ z. omega (arith, z)) (rebuilt_of s) (sym g ∙ e))),
    λ p. ap (λ (x : Refusal). x.number) (refused-15 s room list p.0 p.1),
  )

  -- another number exactly when the reader gives it; 0 is no refusal
  pub reader-exactly-when : (k : ℕ) → (k ≡ 19 → ⊥) → (k ≡ 15 → ⊥)
      → (given ≡ k) ↔ ((refusal19 s ≡ false) × ((refusal15 s room list ≡ false) × ((refusal_of (rebuilt_of s)).number ≡ k)))
  reader-exactly-when k not19 not15 = (
    λ e. three_ways (λ a g. absurd (not19 (sym e ∙ g))) (λ a b g. absurd (not15 (sym e ∙ g))) (λ a b g. (a, (b, sym g ∙ e))),
    λ p. ap (λ (x : Refusal). x.number) (left-to-reader s room list p.0 p.1.0) ∙ p.1.1,
  )

  -- no other numbers than 19, 15 and of the reader's 5 to 8 and 11
  pub no-other-number : (k : ℕ) → (k ≡ 0 → ⊥) → (k ≡ 19 → ⊥) → (k ≡ 15 → ⊥) → (4 < k → k < 9 → ⊥) → (k ≡ 11 → ⊥) → given ≡ k → ⊥
  no-other-number k some not19 not15 other not11 e =
      let p = (reader-exactly-when k not19 not15).0 e in
      reader-leaves s (can_be_rebuilt s p.0) k some other not11 p.1.1

-- ---- what a rescue leaves

module _ (s room list : List ℕ) where
  abbrev number : ℕ
  number = (rescue_refusal_of s (length room) (length list)).number

  -- on refusal room and list stay untouched, and no change is counted
  pub refused-untouched : (number ≡ 0 → ⊥) → rescue_of s room list ≡ outcome (rescued_as (rescue_refusal_of s (length room) (length list)) 0) room list
  unfolding rescue_of
  refused-untouched d = rw (ne_eqb number 0 d)

  module _ (done : number ≡ 0) where
    kept : (refusal19 s ≡ false) × ((refusal15 s (length room) (length list) ≡ false) × ((refusal_of (rebuilt_of s)).number ≡ 0))
    kept = (reader-exactly-when s (length room) (length list) 0 (λ z. omega (arith, z)) (λ z. omega (arith, z))).0 done

    ok : Rebuildable s
    ok = can_be_rebuilt s kept.0

    long : length (rebuilt_of s) ≡ length s
    long = rebuilt-length s ok.inside

    left : rescue_of s room list
        ≡ outcome (rescued_as (refusal_of (rebuilt_of s)) (length (changes_of s))) (put room 0 (rebuilt_of s)) (put list 0 (list_of (changes_of s)))
    left = gives-sheet s room list kept.0 kept.1.0 kept.1.1

    -- the rebuilt sheet stands at the room's start, and nothing after it is touched
    pub sheet-stands : take (length s) (rescue_of s room list).room ≡ rebuilt_of s
    sheet-stands = rw left (put_stands room (rebuilt_of s) (length s) long)

    pub behind-the-sheet : drop (length s) (rescue_of s room list).room ≡ drop (length s) room
    behind-the-sheet = rw left (behind room (rebuilt_of s) (length s) long)

    -- it passes the reader
    pub passes-the-reader : refusal_of (take (length s) (rescue_of s room list).room) ≡ accepted
    passes-the-reader = ap refusal_of sheet-stands ∙ keeps-accepted (rebuilt_of s) (accepted-keeps (rebuilt_of s) kept.1.1)

    -- and its bodies are the damaged sheet's, byte by byte
    pub bodies-same : drop (head_length s) (take (length s) (rescue_of s room list).room) ≡ drop (head_length s) s
    bodies-same = ap (drop (head_length s)) sheet-stands ∙ bodies_kept s

    -- the changes stand at the list's start, and nothing after them is touched
    pub changes-stand : take (3 * length (changes_of s)) (rescue_of s room list).list ≡ list_of (changes_of s)
    changes-stand = rw left (put_stands list (list_of (changes_of s)) (3 * length (changes_of s)) (list_length (changes_of s)))

    pub behind-the-changes : drop (3 * length (changes_of s)) (rescue_of s room list).list ≡ drop (3 * length (changes_of s)) list
    behind-the-changes = rw left (behind list (list_of (changes_of s)) (3 * length (changes_of s)) (list_length (changes_of s)))

    pub changes-counted : (rescue_of s room list).answer.changed ≡ length (changes_of s)
    changes-counted = rw left

-- ---- the list

-- a change is listed exactly when it is of a word of header or directory that differs
pub listed_exactly : (s : List ℕ) (c : Change) → Has c (changes_of s) ↔ Differs s (rebuilt_of s) (head_words s) c
unfolding changes_of
listed_exactly s c = (listed-differs s (rebuilt_of s) (head_words s) c, differs-listed s (rebuilt_of s) (head_words s) c)

-- and each once, in ascending place
pub listed_ascending : (s : List ℕ) → Ascending 0 (head_length s) (changes_of s)
unfolding changes_of
listed_ascending s =
    let e : 4 * head_words s ≡ head_length s = omega arith in
    rw e at (in_ascending_place s (rebuilt_of s) (head_words s))

-- ---- whole sheets

module _ (s : List ℕ) (bytes : Bytes s) (whole : (refusal_of s).number ≡ 0) where
  -- a sheet that the reader accepts is rebuilt as it is
  pub whole-as-it-is : rebuilt_of s ≡ s
  whole-as-it-is = rebuilt-same s (accepted-keeps s whole) bytes

  -- nothing is changed, and where the room holds it, it is accepted and copied, with any list
  pub whole-copied : (room list : List ℕ) → length s ≤ length room → rescue_of s room list ≡ outcome (rescued_as accepted 0) (put room 0 s) list
  unfolding refusal15 list_of
  whole-copied room list h =
      let a = accepted-keeps s whole in
      let same = rebuilt-same s a bytes in
      let none = whole-unchanged s a bytes in
      let fits : refusal15 s (length room) (length list) ≡ false = rw (none, le-ltb (length room) (length s) h) (le-ltb (length list) 0 (omega arith)) in
      let reads : refusal_of (rebuilt_of s) ≡ accepted = ap refusal_of same ∙ keeps-accepted s a in
      gives-sheet s room list (whole-kept s a) fits (ap (λ (x : Refusal). x.number) reads)
      ∙ rw (reads, none, same) (rw (put_none list 0) refl)

-- ---- damaged sheets

module _ (s d : List ℕ) (as_long : length d ≡ length s) (count : count_word d ≡ count_word s)
    (kinds : (i : ℕ) → i < count_word s → kind_word d i ≡ kind_word s i)
    (turned : (i : ℕ) → i < count_word s → inverted_word d i ≡ inverted_word s i)
    (bodies : drop (head_length s) d ≡ drop (head_length s) s) where
  start-alike : (i : ℕ) → i ≤ count_word s → start_of d i ≡ start_of s i
  unfolding start_of
  start-alike zero h = rw count
  start-alike (suc i) h = rw (start-alike i (omega arith), kinds i (omega arith))

  directory-alike : (i : ℕ) → i ≤ count_word s → directory_bytes d i ≡ directory_bytes s i
  unfolding directory_bytes entry_bytes
  directory-alike zero h = refl
  directory-alike (suc i) h =
      rw (directory-alike i (omega arith), kinds i (omega arith), turned i (omega arith), start-alike i (omega arith))

  -- What is rebuilt hangs on the length, the step count, the kinds, the inverted words and the
  -- bodies alone: whatever stood in the other words, two sheets that agree in these are rebuilt
  -- alike.
  pub rebuilt-alike : rebuilt_of d ≡ rebuilt_of s
  unfolding rebuilt_of header_bytes
  rebuilt-alike = rw (as_long, count, bodies, directory-alike (count_word s) (omega arith))

  -- So a sheet that was accepted before its other words were damaged comes out as it was.
  pub mended-as-it-was : Bytes s → (refusal_of s).number ≡ 0 → rebuilt_of d ≡ s
  mended-as-it-was b whole = rebuilt-alike ∙ whole-as-it-is s b whole
