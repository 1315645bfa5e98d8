-- `words::word_here` meets its contract: four bytes of the file, the lowest first.
use Prim.Native.Nat.{ℕ, ◌+◌, ◌-◌, ◌*◌, ◌<◌}
use mathlib.Core.Path.{◌≡◌, ap, ◌∙◌}
use native.Mathlib.Omega.{arith}
use lib.ListN.{get_or, take, drop}
use lib.Seq.{get_or-take, get_or-drop}
use Rattle.words.proofs.Words.{words_of-at}
use Rattle.words.proofs.word_here.Goals as goal

pub returns : goal.returns
returns c =
    let a = c.args in
    let from : (j : ℕ) → j < 4 → get_or (take (4 * a.i + 4 - 4 * a.i) (drop (4 * a.i) a.file.now)) j 0 ≡ get_or a.file.now (4 * a.i + j) 0 = λ j h. get_or-take (4 * a.i + 4 - 4 * a.i) (drop (4 * a.i) a.file.now) j 0 (omega arith) ∙ get_or-drop (4 * a.i) a.file.now j 0 in
    let first : get_or a.file.now (4 * a.i + 0) 0 ≡ get_or a.file.now (4 * a.i) 0 = let e : 4 * a.i + 0 ≡ 4 * a.i = omega arith in ap (λ (p : ℕ). get_or a.file.now p 0) e in
    omega (arith, c.from_le_bytes.ensures, words_of-at a.file.now a.i c.requires, from 0 (omega arith), from 1 (omega arith), from 2 (omega arith), from 3 (omega arith), first)
