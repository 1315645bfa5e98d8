-- The words of a trial file: 32 bits, little-endian; bits 31 to 28 are the kind. Definitions only.
--   Bytes bs                          every member is a byte
--   words_of bytes                     the words that bytes hold
--   word_bytes w, bytes_of ws           the bytes of a word, of words
--   word ws i                         the word at place i; a missing word reads as 0, whose kind no place needs
--   kind_of w                          bits 31-28
--   level_kind .. end_kind            the kinds 1, 2 and 5 (the shapes of pairs and of shops), 3, 4 and 15
--   code kind                         the number of a kind, by its name
--   a_of, b_of                        level: bits 27-14, 13-0
--   unused_of, k_of, offers_of, pairs_of  shape of pairs: bits 27-24, 23-16, 15-8, 7-0
--   shops_k, shops_offers, shop_count, treated_of  shape of shops without partners: bits 27-24, 23-16, 15-8, 7-0
--   no_shape w                         the word is of neither kind of shape
--   spare_of w                         bits of a shape that have to be 0: those of shops have none
--   digits_of, code_of                 offer: bits 27-24, 23-0
--   level_in, shape_in              the level and the shape that a word holds; paired_in, unpaired_in by its kind
--   signed, difference_of             difference of a pair, or figure of a shop: bits 27-0, two's complement
--   count_of                           end: bits 27-0
--   bits_of d                         the same bits of a number
--   level_word .. end_word             the word of each kind that holds the given values
--   shape_word_of k offers d          the shape word, by how the trial was laid out
use Rattle.std.specs.Prelude.{ℕ, ◌+◌, ◌-◌, ◌*◌, ◌/◌, ◌%◌, Bool, not, cond, ◌&&◌, List, [], ◌∷◌, ◌++◌, get_or, T, ltb, eqb, ℤ, pos, negsuc}
use Rattle.order.specs.Counting.{all}
use Rattle.trial.specs.declared.Design.{Design}
use Rattle.trial.specs.declared.Design.TheVariants.{Paired, Unpaired}
use Rattle.trial.specs.declared.Level.{Level}
use Rattle.trial.specs.declared.Shape.{Shape}
use Rattle.words.specs.declared.kind.Kind.{Kind}
use Rattle.words.specs.declared.kind.Kind.TheVariants.{Level as OfLevel, Pairs, Offer, Figure, Shops, End}

-- ---- words and bytes

abbrev pub Bytes : List ℕ → Type 0
Bytes bs = T (all (λ b. ltb b 256) bs)

unfoldable pub words_of : List ℕ → List ℕ
words_of [] = []
words_of (b0 ∷ []) = []
words_of (b0 ∷ b1 ∷ []) = []
words_of (b0 ∷ b1 ∷ b2 ∷ []) = []
words_of (b0 ∷ b1 ∷ b2 ∷ b3 ∷ bs) = (b0 + 256 * b1 + 65536 * b2 + 16777216 * b3) ∷ words_of bs

abbrev pub word_bytes : ℕ → List ℕ
word_bytes w = w % 256 ∷ w / 256 % 256 ∷ w / 65536 % 256 ∷ w / 16777216 ∷ []

unfoldable pub bytes_of : List ℕ → List ℕ
bytes_of [] = []
bytes_of (w ∷ ws) = word_bytes w ++ bytes_of ws

abbrev pub word : List ℕ → ℕ → ℕ
word ws i = get_or ws i 0

-- ---- what a word holds

abbrev pub kind_of : ℕ → ℕ
kind_of w = w / 268435456

abbrev pub level_kind : ℕ
level_kind = 1

abbrev pub paired_kind : ℕ
paired_kind = 2

abbrev pub unpaired_kind : ℕ
unpaired_kind = 5

abbrev pub offer_kind : ℕ
offer_kind = 3

abbrev pub difference_kind : ℕ
difference_kind = 4

abbrev pub end_kind : ℕ
end_kind = 15

abbrev pub code : Kind → ℕ
code OfLevel = level_kind
code Pairs = paired_kind
code Offer = offer_kind
code Figure = difference_kind
code Shops = unpaired_kind
code End = end_kind

abbrev pub a_of : ℕ → ℕ
a_of w = w / 16384 % 16384

abbrev pub b_of : ℕ → ℕ
b_of w = w % 16384

abbrev pub unused_of : ℕ → ℕ
unused_of w = w / 16777216 % 16

abbrev pub k_of : ℕ → ℕ
k_of w = w / 65536 % 256

abbrev pub offers_of : ℕ → ℕ
offers_of w = w / 256 % 256

abbrev pub pairs_of : ℕ → ℕ
pairs_of w = w % 256

abbrev pub shops_k : ℕ → ℕ
shops_k w = w / 16777216 % 16

abbrev pub shops_offers : ℕ → ℕ
shops_offers w = w / 65536 % 256

abbrev pub shop_count : ℕ → ℕ
shop_count w = w / 256 % 256

abbrev pub treated_of : ℕ → ℕ
treated_of w = w % 256

abbrev pub digits_of : ℕ → ℕ
digits_of w = w / 16777216 % 16

abbrev pub code_of : ℕ → ℕ
code_of w = w % 16777216

abbrev pub level_in : ℕ → Level
level_in w = record { a = a_of w; b = b_of w }

abbrev pub paired_in : ℕ → Shape
paired_in w = record { k = k_of w; offers = offers_of w; design = Paired (pairs_of w) }

abbrev pub unpaired_in : ℕ → Shape
unpaired_in w = record { k = shops_k w; offers = shops_offers w; design = Unpaired (shop_count w) (treated_of w) }

unfoldable pub no_shape : ℕ → Bool
no_shape w = not (eqb (kind_of w) paired_kind) && not (eqb (kind_of w) unpaired_kind)

unfoldable pub spare_of : ℕ → ℕ
spare_of w = cond (eqb (kind_of w) unpaired_kind) 0 (unused_of w)

unfoldable pub shape_in : ℕ → Shape
shape_in w = cond (eqb (kind_of w) unpaired_kind) (unpaired_in w) (paired_in w)

-- a number below 2^28 as two's complement
unfoldable pub signed : ℕ → ℤ
signed v = cond (ltb v 134217728) (pos v) (negsuc (268435455 - v))

abbrev pub difference_of : ℕ → ℤ
difference_of w = signed (w % 268435456)

abbrev pub count_of : ℕ → ℕ
count_of w = w % 268435456

-- ---- the word that holds given values

abbrev pub level_word : ℕ → ℕ → ℕ
level_word a b = level_kind * 268435456 + a * 16384 + b

abbrev pub paired_word : ℕ → ℕ → ℕ → ℕ
paired_word k offers pairs = paired_kind * 268435456 + k * 65536 + offers * 256 + pairs

abbrev pub unpaired_word : ℕ → ℕ → ℕ → ℕ → ℕ
unpaired_word k offers shops treated = unpaired_kind * 268435456 + k * 16777216 + offers * 65536 + shops * 256 + treated

unfoldable pub shape_word_of : ℕ → ℕ → Design → ℕ
shape_word_of k offers (Paired pairs) = paired_word k offers pairs
shape_word_of k offers (Unpaired shops treated) = unpaired_word k offers shops treated

abbrev pub offer_word : ℕ → ℕ → ℕ
offer_word code digits = offer_kind * 268435456 + digits * 16777216 + code

-- bits 27-0 of a figure
unfoldable pub bits_of : ℤ → ℕ
bits_of (pos n) = n
bits_of (negsuc n) = 268435455 - n

abbrev pub difference_word : ℤ → ℕ
difference_word d = difference_kind * 268435456 + bits_of d

abbrev pub end_word : ℕ → ℕ
end_word n = end_kind * 268435456 + n
