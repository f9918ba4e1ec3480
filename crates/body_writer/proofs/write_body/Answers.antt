-- A body that does not fit is left out (`put_too_long`). The part lent is as long as the kind's body,
-- and filled it is a put (`put-part`), one case for each kind. Assumes nothing.
use native.Mathlib.Omega.{arith}
use mathlib.Core.Path.{◌≡◌, sym, ap, ◌∙◌}
use lib.ListN.{length, length-take, length-drop}
use Rattle.bodies.specs.Kinds.{kind_of, length_of}
use Rattle.words.proofs.Laws.{put-part, put_too_long}
use Rattle.body_writer.specs.Write.{bytes_of}
use Rattle.body_writer.proofs.Laws.{bytes-length}
use Rattle.body_writer.proofs.Lengths.{length_helmert, length-cart, length_molodensky, length_permtide, length_deformation, length_badekas}
use Rattle.body_writer.proofs.write_body.Goals as goal

pub returns-then-room-at : goal.returns-then-room-at
returns-then-room-at c = sym (put_too_long c.args.room.now c.args.at (bytes_of c.args.step) (omega arith))

pub returns-then-room-at-2 : goal.returns-then-room-at-2
returns-then-room-at-2 c =
    let long : c.wide-length.result ≡ length (bytes_of c.args.step) =
    c.wide-length.ensures.0 ∙ c.length_of.ensures ∙ ap length_of c.kind_of.ensures ∙ sym (bytes-length c.args.step) in
    sym (put_too_long c.args.room.now c.args.at (bytes_of c.args.step) (omega (arith, long)))

pub put_helmert-requires : goal.put_helmert-requires
unfolding kind_of length_of
put_helmert-requires c =
    let long : c.wide-length.result ≡ 248 = c.wide-length.ensures.0 ∙ c.length_of.ensures ∙ ap length_of (c.kind_of.ensures ∙ ap kind_of c.in-Helmert.is) in
    simp (length-take, length-drop) (omega (arith, long))

pub returns-in-Helmert : goal.returns-in-Helmert
unfolding kind_of length_of bytes_of
returns-in-Helmert c =
    let long : c.wide-length.result ≡ 248 = c.wide-length.ensures.0 ∙ c.length_of.ensures ∙ ap length_of (c.kind_of.ensures ∙ ap kind_of c.in-Helmert.is) in
    rw c.in-Helmert.is (put-part c.args.room.now c.args.at c.wide-length.result _ c.put_helmert.ensures (length_helmert _ ∙ sym long) (omega arith))

pub put_cart-requires : goal.put_cart-requires
unfolding kind_of length_of
put_cart-requires c =
    let long : c.wide-length.result ≡ 8 = c.wide-length.ensures.0 ∙ c.length_of.ensures ∙ ap length_of (c.kind_of.ensures ∙ ap kind_of c.in-Cart.is) in
    simp (length-take, length-drop) (omega (arith, long))

pub returns-in-Cart : goal.returns-in-Cart
unfolding kind_of length_of bytes_of
returns-in-Cart c =
    let long : c.wide-length.result ≡ 8 = c.wide-length.ensures.0 ∙ c.length_of.ensures ∙ ap length_of (c.kind_of.ensures ∙ ap kind_of c.in-Cart.is) in
    rw c.in-Cart.is (put-part c.args.room.now c.args.at c.wide-length.result _ c.put_cart.ensures (length-cart _ ∙ sym long) (omega arith))

pub put_molodensky-requires : goal.put_molodensky-requires
unfolding kind_of length_of
put_molodensky-requires c =
    let long : c.wide-length.result ≡ 56 = c.wide-length.ensures.0 ∙ c.length_of.ensures ∙ ap length_of (c.kind_of.ensures ∙ ap kind_of c.in-Molodensky.is) in
    simp (length-take, length-drop) (omega (arith, long))

pub returns-in-Molodensky : goal.returns-in-Molodensky
unfolding kind_of length_of bytes_of
returns-in-Molodensky c =
    let long : c.wide-length.result ≡ 56 = c.wide-length.ensures.0 ∙ c.length_of.ensures ∙ ap length_of (c.kind_of.ensures ∙ ap kind_of c.in-Molodensky.is) in
    rw c.in-Molodensky.is (put-part c.args.room.now c.args.at c.wide-length.result _ c.put_molodensky.ensures (length_molodensky _ ∙ sym long) (omega arith))

pub put_permtide-requires : goal.put_permtide-requires
unfolding kind_of length_of
put_permtide-requires c =
    let long : c.wide-length.result ≡ 24 = c.wide-length.ensures.0 ∙ c.length_of.ensures ∙ ap length_of (c.kind_of.ensures ∙ ap kind_of c.in-Permtide.is) in
    simp (length-take, length-drop) (omega (arith, long))

pub returns-in-Permtide : goal.returns-in-Permtide
unfolding kind_of length_of bytes_of
returns-in-Permtide c =
    let long : c.wide-length.result ≡ 24 = c.wide-length.ensures.0 ∙ c.length_of.ensures ∙ ap length_of (c.kind_of.ensures ∙ ap kind_of c.in-Permtide.is) in
    rw c.in-Permtide.is (put-part c.args.room.now c.args.at c.wide-length.result _ c.put_permtide.ensures (length_permtide _ ∙ sym long) (omega arith))

pub put_deformation-requires : goal.put_deformation-requires
unfolding kind_of length_of
put_deformation-requires c =
    let long : c.wide-length.result ≡ 24 = c.wide-length.ensures.0 ∙ c.length_of.ensures ∙ ap length_of (c.kind_of.ensures ∙ ap kind_of c.in-Deformation.is) in
    simp (length-take, length-drop) (omega (arith, long))

pub returns-in-Deformation : goal.returns-in-Deformation
unfolding kind_of length_of bytes_of
returns-in-Deformation c =
    let long : c.wide-length.result ≡ 24 = c.wide-length.ensures.0 ∙ c.length_of.ensures ∙ ap length_of (c.kind_of.ensures ∙ ap kind_of c.in-Deformation.is) in
    rw c.in-Deformation.is (put-part c.args.room.now c.args.at c.wide-length.result _ c.put_deformation.ensures (length_deformation _ ∙ sym long) (omega arith))

pub put_badekas-requires : goal.put_badekas-requires
unfolding kind_of length_of
put_badekas-requires c =
    let long : c.wide-length.result ≡ 88 = c.wide-length.ensures.0 ∙ c.length_of.ensures ∙ ap length_of (c.kind_of.ensures ∙ ap kind_of c.in-Badekas.is) in
    simp (length-take, length-drop) (omega (arith, long))

pub returns-in-Badekas : goal.returns-in-Badekas
unfolding kind_of length_of bytes_of
returns-in-Badekas c =
    let long : c.wide-length.result ≡ 88 = c.wide-length.ensures.0 ∙ c.length_of.ensures ∙ ap length_of (c.kind_of.ensures ∙ ap kind_of c.in-Badekas.is) in
    rw c.in-Badekas.is (put-part c.args.room.now c.args.at c.wide-length.result _ c.put_badekas.ensures (length_badekas _ ∙ sym long) (omega arith))
