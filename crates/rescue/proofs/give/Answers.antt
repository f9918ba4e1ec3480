-- One case for each way through the tests: `gives-15`, `gives-reader` and `gives-sheet`, from what the
-- calls ensure. Room and list hold what is put there because the second test was kept. Assumes
-- nothing.
use native.Mathlib.Omega.{arith}
use mathlib.Core.Path.{◌≡◌, refl, sym, ap, ◌∙◌}
use mathlib.Core.Bool.{true, false, ◌||◌}
use Prim.Native.Nat.{ℕ, ◌+◌, ◌*◌, ◌≤◌}
use borrow.Author.Tests.{ltb-false}
use lib.Dec.{ltb}
use lib.ListN.{length}
use Rattle.words.specs.Words.{put}
use Rattle.sheet.specs.Rules.{unless}
use Rattle.sheet.proofs.Order.{neither}
use Rattle.sheet.proofs.Unless.{accepts, refuses, passed, failed, hands_on}
use Rattle.rescue.specs.Rebuilt.{count_word, rebuilt_of}
use Rattle.rescue.specs.Changes.{changes_in, changes_of, list_of}
use Rattle.rescue.specs.Rules.{refusal15}
use Rattle.rescue.proofs.Rebuildable.{can_be_rebuilt}
use Rattle.rescue.proofs.Rebuilding.{rebuilt-length}
use Rattle.rescue.proofs.Listing.{list_length}
use Rattle.rescue.proofs.Giving.{changes_are, gives-15, gives-reader, gives-sheet}
use Rattle.rescue.proofs.give.Goals as goal

pub count_changes-changed-requires : goal.count_changes-changed-requires
count_changes-changed-requires c =
    let ok = can_be_rebuilt c.args.s.now c.requires.0 in
    omega (arith, c.wide.ensures.0 ∙ c.read32.ensures, ok.few-steps)

pub returns-then-room-s : goal.returns-then-room-s
unfolding refusal15 unless
returns-then-room-s c =
    let a = c.args in
    let s = a.s.now in
    let room = a.room.now in
    let list = a.list.now in
    let count : c.wide.result ≡ count_word s = c.wide.ensures.0 ∙ c.read32.ensures in
    let all : changes_in s a.r.now (4 + 4 * c.wide.result) ≡ changes_of s = changes_are s a.r.now (4 + 4 * c.wide.result) c.requires.1 (ap (λ (c : ℕ). 4 + 4 * c) count) in
    let same : c.count_changes-changed.result ≡ length (changes_of s) = c.count_changes-changed.ensures.0 ∙ ap length all in
    let short : refusal15 s (length room) (length list) ≡ true = ap (λ (c : ℕ). ltb (length room) (length s) || ltb (length list) (3 * c)) (sym same) ∙ c.if-room-s.true in
    rw (gives-15 s room list c.requires.0 short, c.of_call.ensures) (refl, (refl, refl))

pub returns-in_err-check : goal.returns-in_err-check
unfolding refusal15
returns-in_err-check c =
    let a = c.args in
    let s = a.s.now in
    let room = a.room.now in
    let list = a.list.now in
    let count : c.wide.result ≡ count_word s = c.wide.ensures.0 ∙ c.read32.ensures in
    let all : changes_in s a.r.now (4 + 4 * c.wide.result) ≡ changes_of s = changes_are s a.r.now (4 + 4 * c.wide.result) c.requires.1 (ap (λ (c : ℕ). 4 + 4 * c) count) in
    let same : c.count_changes-changed.result ≡ length (changes_of s) = c.count_changes-changed.ensures.0 ∙ ap length all in
    let fits : refusal15 s (length room) (length list) ≡ false = ap (λ (c : ℕ). ltb (length room) (length s) || ltb (length list) (3 * c)) (sym same) ∙ c.if-room-s.false in
    let o = rw c.requires.1 at c.check.ensures in
    let err = c.in_err-check.was in
    let some = failed _ _ o err in
    rw (gives-reader s room list c.requires.0 fits some) (hands_on _ _ o err c.from_residual.ensures.1 ∙ sym (refuses _ _ some), (refl, refl))

pub copy-requires : goal.copy-requires
copy-requires c =
    let ok = can_be_rebuilt c.args.s.now c.requires.0 in
    let long : length c.args.r.now ≡ length c.args.s.now = ap length c.requires.1 ∙ rebuilt-length c.args.s.now ok.inside in
    let a = c.args in
    let room : length a.s.now ≤ length a.room.now =
    ltb-false (length a.room.now) (length a.s.now)
    (neither (ltb (length a.room.now) (length a.s.now)) (ltb (length a.list.now) (3 * c.count_changes-changed.result)) c.if-room-s.false).0 in
    omega (arith, long, room)

pub list_changes-requires : goal.list_changes-requires
list_changes-requires c =
    let s = c.args.s.now in
    let ok = can_be_rebuilt s c.requires.0 in
    let a = c.args in
    let room : 3 * c.count_changes-changed.result ≤ length a.list.now =
    ltb-false (length a.list.now) (3 * c.count_changes-changed.result)
    (neither (ltb (length a.room.now) (length a.s.now)) (ltb (length a.list.now) (3 * c.count_changes-changed.result)) c.if-room-s.false).1 in
    (omega (arith, c.wide.ensures.0 ∙ c.read32.ensures, ok.few-steps), rw list_length (omega (arith, c.count_changes-changed.ensures.0, room)))

pub returns : goal.returns
unfolding refusal15
returns c =
    let a = c.args in
    let s = a.s.now in
    let room = a.room.now in
    let list = a.list.now in
    let count : c.wide.result ≡ count_word s = c.wide.ensures.0 ∙ c.read32.ensures in
    let all : changes_in s a.r.now (4 + 4 * c.wide.result) ≡ changes_of s = changes_are s a.r.now (4 + 4 * c.wide.result) c.requires.1 (ap (λ (c : ℕ). 4 + 4 * c) count) in
    let same : c.count_changes-changed.result ≡ length (changes_of s) = c.count_changes-changed.ensures.0 ∙ ap length all in
    let fits : refusal15 s (length room) (length list) ≡ false = ap (λ (c : ℕ). ltb (length room) (length s) || ltb (length list) (3 * c)) (sym same) ∙ c.if-room-s.false in
    let none = passed _ _ (rw c.requires.1 at c.check.ensures) c.in_ok-check.was in
    let sheet : c.copy.new.room ≡ put room 0 (rebuilt_of s) = c.copy.ensures ∙ ap (put room 0) c.requires.1 in
    let changes : c.list_changes.new.list ≡ put list 0 (list_of (changes_of s)) = c.list_changes.ensures ∙ ap (λ l. put list 0 (list_of l)) all in
    rw (gives-sheet s room list c.requires.0 fits none) (rw same (sym (accepts _ _ none)), (sheet, changes))
