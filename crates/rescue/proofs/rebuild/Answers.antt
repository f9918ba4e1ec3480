-- Header, directory and bodies are put one after another (`three-puts`); that each fits follows from
-- what rule 19 keeps (`can_be_rebuilt`). Assumes nothing.
use native.Mathlib.Omega.{arith}
use mathlib.Core.Path.{◌≡◌, ap, ◌∙◌}
use mathlib.Core.List.{List}
use Prim.Native.Nat.{ℕ, ◌+◌, ◌*◌, ◌-◌}
use lib.ListN.{length, take, drop, length-take, length-drop}
use lib.Seq.{take_all}
use Rattle.words.specs.Words.{put}
use Rattle.rescue.specs.Rebuilt.{count_word, head_length, header_bytes, directory_bytes}
use Rattle.rescue.proofs.Rebuildable.{can_be_rebuilt}
use Rattle.rescue.proofs.Rebuilding.{three-puts}
use Rattle.rescue.proofs.rebuild.Goals as goal

pub overflow_cast-s : goal.overflow_cast-s
overflow_cast-s c = let ok = can_be_rebuilt c.args.s.now c.requires.0 in omega (arith, ok.at-most-long)

pub put_words-requires : goal.put_words-requires
put_words-requires c = let ok = can_be_rebuilt c.args.s.now c.requires.0 in omega (arith, ok.at_least, c.requires.1)

pub put_directory-requires : goal.put_directory-requires
put_directory-requires c =
    let ok = can_be_rebuilt c.args.s.now c.requires.0 in
    let count = c.wide-n.ensures.0 ∙ c.read32-count.ensures in
    (omega (arith, count, ok.few-steps), (count, omega (arith, count, ok.inside, c.requires.1)))

pub slice_bounds-copy-start : goal.slice_bounds-copy-start
slice_bounds-copy-start c =
    let ok = can_be_rebuilt c.args.s.now c.requires.0 in
    let count = c.wide-n.ensures.0 ∙ c.read32-count.ensures in
    omega (arith, count, ok.inside)

pub slice_bounds-copy-count : goal.slice_bounds-copy-count
slice_bounds-copy-count c =
    let ok = can_be_rebuilt c.args.s.now c.requires.0 in
    let count = c.wide-n.ensures.0 ∙ c.read32-count.ensures in
    omega (arith, count, ok.inside)

pub copy-requires : goal.copy-requires
copy-requires c =
    let ok = can_be_rebuilt c.args.s.now c.requires.0 in
    let count = c.wide-n.ensures.0 ∙ c.read32-count.ensures in
    simp (length-take, length-drop) (omega (arith, count, ok.inside, c.requires.1))

pub returns : goal.returns
unfolding header_bytes
returns c =
    let a = c.args in
    let s = a.s.now in
    let ok = can_be_rebuilt s c.requires.0 in
    let word = c.read32-count.ensures in
    let count : c.wide-n.result ≡ count_word s = c.wide-n.ensures.0 ∙ word in
    let n = c.wide-n.result in
    let rest : take (length s - (16 + 16 * n)) (drop (16 + 16 * n) s) ≡ drop (16 + 16 * n) s =
    take_all (length s - (16 + 16 * n)) (drop (16 + 16 * n) s) (simp length-drop (omega arith)) in
    let put1 : c.put_words.new.r ≡ put a.r.now 0 (header_bytes s) = rw (← word) c.put_words.ensures in
    let put2 : c.put_directory.new.r ≡ put c.put_words.new.r 16 (directory_bytes s (count_word s)) =
    c.put_directory.ensures ∙ ap (λ (k : ℕ). put c.put_words.new.r 16 (directory_bytes s k)) count in
    let put3 : c.copy.new.room ≡ put c.put_directory.new.r (head_length s) (drop (head_length s) s) =
    c.copy.ensures ∙ ap (put c.put_directory.new.r (16 + 16 * n)) rest ∙ ap (λ (k : ℕ). put c.put_directory.new.r (16 + 16 * k) (drop (16 + 16 * k) s)) count in
    put3
    ∙ ap (λ (l : List ℕ). put l (head_length s) (drop (head_length s) s))
    (put2 ∙ ap (λ (l : List ℕ). put l 16 (directory_bytes s (count_word s))) put1)
    ∙ three-puts s a.r.now (omega (arith, ok.inside, c.requires.1))
