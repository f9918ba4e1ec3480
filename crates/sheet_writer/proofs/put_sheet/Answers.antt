-- By `bodies-length` and `three-puts`, from what the calls ensure. Assumes nothing.
use native.Mathlib.Omega.{arith}
use Prim.Native.Nat.{ℕ, ◌+◌, ◌*◌}
use mathlib.Core.Path.{◌≡◌, ap, ◌∙◌}
use mathlib.Core.List.{List}
use Rattle.words.specs.Words.{put}
use Rattle.sheet_writer.specs.Bytes.{header_bytes, directory_bytes, bodies_bytes}
use Rattle.sheet_writer.proofs.Writing.{bodies-length, three-puts}
use Rattle.sheet_writer.proofs.put_sheet.Goals as goal

pub put_words-requires : goal.put_words-requires
put_words-requires c = omega (arith, bodies-length c.args.sheet c.args.sheet.count)

pub put_directory-requires : goal.put_directory-requires
put_directory-requires c =
    let a = c.args in
    (omega arith, (c.wide-n.ensures.0, omega (arith, bodies-length a.sheet a.sheet.count)))

pub returns : goal.returns
unfolding header_bytes
returns c =
    let a = c.args in
    let put1 : c.put_words.new.room ≡ put a.room.now 0 (header_bytes a.sheet) = rw (← c.sheet_length-total.ensures.0) c.put_words.ensures in
    let put2 : c.put_directory.new.room ≡ put c.put_words.new.room 16 (directory_bytes a.sheet a.sheet.count) =
    c.put_directory.ensures ∙ ap (λ (k : ℕ). put c.put_words.new.room 16 (directory_bytes a.sheet k)) c.wide-n.ensures.0 in
    let put3 : c.put_bodies.new.room ≡ put c.put_directory.new.room (16 + 16 * a.sheet.count) (bodies_bytes a.sheet a.sheet.count) =
    c.put_bodies.ensures ∙ ap (λ (k : ℕ). put c.put_directory.new.room (16 + 16 * k) (bodies_bytes a.sheet k)) c.wide-n.ensures.0 in
    put3
    ∙ ap (λ (l : List ℕ). put l (16 + 16 * a.sheet.count) (bodies_bytes a.sheet a.sheet.count))
    (put2 ∙ ap (λ (l : List ℕ). put l 16 (directory_bytes a.sheet a.sheet.count)) put1)
    ∙ three-puts a.sheet a.room.now c.requires.1
