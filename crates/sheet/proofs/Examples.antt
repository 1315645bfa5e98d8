-- Sheets as printed, from the bytes of a file: W's; W with a third offer, which is set aside and has the figure M.
use mathlib.Core.Path.{◌≡◌, refl}
use lib.Ieee.{lt, le, to_signed}
use Rattle.words.specs.Words.{bytes_of, signed}
use Rattle.trialfile.specs.Examples.{words_w, words_aside}
use Rattle.text.specs.Ascii.{ascii}
use Rattle.text.specs.Text.{printed, decimal_up_to}
use Rattle.sheet.specs.Sheets.{sheet_of}

pub w-sheet : sheet_of (bytes_of words_w) ≡ ascii "0042 1\n7 3\nend 8\n"
unfolding sheet_of bytes_of words_w signed lt le to_signed printed decimal_up_to
w-sheet = refl

pub aside-sheet : sheet_of (bytes_of words_aside) ≡ ascii "0042 1\n7 3\n04711 8\nend 8\n"
unfolding sheet_of bytes_of words_aside signed lt le to_signed printed decimal_up_to
aside-sheet = refl
