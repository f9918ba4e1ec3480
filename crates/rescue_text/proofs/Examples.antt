-- Known lines, evaluated. Assumes nothing.
use mathlib.Core.Path.{◌≡◌, refl}
use Rattle.text.specs.Ascii.{ascii}
use Rattle.text.specs.Digits.{digits_of, places_of, decimal_of}
use Rattle.rescue.specs.Changes.{change_of}
use Rattle.rescue_text.specs.RescueText.{header_name, entry_name, word_name, change_line}

offset_line : change_line (change_of 40 311 288) ≡ ascii "step 2, body offset: 311 is 288\n"
unfolding digits_of places_of decimal_of header_name entry_name word_name change_line
offset_line = refl

length-line : change_line (change_of 268 0 4294967295) ≡ ascii "step 16, body length: 0 is 4294967295\n"
unfolding digits_of places_of decimal_of header_name entry_name word_name change_line
length-line = refl

form_line : change_line (change_of 0 2 1) ≡ ascii "form: 2 is 1\n"
unfolding digits_of places_of decimal_of header_name entry_name word_name change_line
form_line = refl
