-- Examples of files, as words. Definitions only.
--   words_w        the file of the trial W, as it is printed
--   words_twice    two offers of one pair, printed 0042 and 42: the same number twice
--   words_surplus  W's file with a difference too many before the end
--   words_after    W's file with a word after the end
--   words_saffron  the file of the trial milk and saffron, samples/saffron.trial
--   words_aside    the file of W with a third offer, 04711, whose differences are all 0: samples/aside.trial
--   words_front    the same with that offer in front of W's
--   words_cancelled that of two offers with k 2: the differences of 0042 cancel, and those of 7 are 0
--   words_zeros    that of two offers whose differences are all 0
--   words_shops    the file of two offers in 4 shops, 2 of them treated
--   words_two_shops  that of two offers in 2 shops, 1 of them treated
--   words_ten_shops  that of one offer in 10 shops, 9 of them treated
--   words_shaped w  a file that goes no further than its shape word w
use Rattle.std.specs.Prelude.{List, [], ◌∷◌, ◌++◌, ℕ, take, replicate}

-- 0x10004004, 0x20010203, 0x3400002A, 0x31000007, 0x40000005, 0x40000003, 0x40000004, 0x40000002, 0x4FFFFFFF, 0x40000001, 0xF000000A
unfoldable pub words_w : List ℕ
words_w = 268451844 ∷ 536936963 ∷ 872415274 ∷ 822083591 ∷ 1073741829 ∷ 1073741827 ∷ 1073741828 ∷ 1073741826 ∷ 1342177279 ∷ 1073741825 ∷ 4026531850 ∷ []

-- 0x10004004, 0x20010201, 0x3400002A, 0x3200002A, 0x40000005, 0x40000003, 0xF0000006
unfoldable pub words_twice : List ℕ
words_twice = 268451844 ∷ 536936961 ∷ 872415274 ∷ 838860842 ∷ 1073741829 ∷ 1073741827 ∷ 4026531846 ∷ []

unfoldable pub words_surplus : List ℕ
unfolding words_w
words_surplus = take 10 words_w ++ (1073741825 ∷ 4026531851 ∷ [])

unfoldable pub words_after : List ℕ
unfolding words_w
words_after = words_w ++ (4026531850 ∷ [])

-- 0x10004004, 0x20010203, 0x34000FAB, 0x3400038B, 0x400001F4, 0x4FFFFED4, 0x400000C8, 0x40000003, 0x40000002, 0x40000001, 0xF000000A
unfoldable pub words_saffron : List ℕ
words_saffron = 268451844 ∷ 536936963 ∷ 872419243 ∷ 872416139 ∷ 1073742324 ∷ 1342176980 ∷ 1073742024 ∷ 1073741827 ∷ 1073741826 ∷ 1073741825 ∷ 4026531850 ∷ []

-- 0x10004004, 0x20010303, 0x3400002A, 0x31000007, 0x35001267, 0x40000005, 0x40000003, 0x40000004, 0x40000002, 0x4FFFFFFF, 0x40000001, 0x40000000, 0x40000000, 0x40000000, 0xF000000E
unfoldable pub words_aside : List ℕ
words_aside = 268451844 ∷ 536937219 ∷ 872415274 ∷ 822083591 ∷ 889197159 ∷ 1073741829 ∷ 1073741827 ∷ 1073741828 ∷ 1073741826 ∷ 1342177279 ∷ 1073741825 ∷ 1073741824 ∷ 1073741824 ∷ 1073741824 ∷ 4026531854 ∷ []

-- 0x10004004, 0x20010303, 0x35001267, 0x3400002A, 0x31000007, 0x40000000, 0x40000000, 0x40000000, 0x40000005, 0x40000003, 0x40000004, 0x40000002, 0x4FFFFFFF, 0x40000001, 0xF000000E
unfoldable pub words_front : List ℕ
words_front = 268451844 ∷ 536937219 ∷ 889197159 ∷ 872415274 ∷ 822083591 ∷ 1073741824 ∷ 1073741824 ∷ 1073741824 ∷ 1073741829 ∷ 1073741827 ∷ 1073741828 ∷ 1073741826 ∷ 1342177279 ∷ 1073741825 ∷ 4026531854 ∷ []

-- 0x10004004, 0x20020202, 0x3400002A, 0x31000007, 0x40000005, 0x4FFFFFFB, 0x40000000, 0x40000000, 0xF0000008
unfoldable pub words_cancelled : List ℕ
words_cancelled = 268451844 ∷ 537002498 ∷ 872415274 ∷ 822083591 ∷ 1073741829 ∷ 1342177275 ∷ 1073741824 ∷ 1073741824 ∷ 4026531848 ∷ []

-- 0x10004004, 0x20010201, 0x3400002A, 0x31000007, 0x40000000, 0x40000000, 0xF0000006
unfoldable pub words_zeros : List ℕ
words_zeros = 268451844 ∷ 536936961 ∷ 872415274 ∷ 822083591 ∷ 1073741824 ∷ 1073741824 ∷ 4026531846 ∷ []

-- 0x10004006, 0x51020402, 0x3400002A, 0x31000007, 0x40000009, 0x40000007, 0x40000002, 0x40000004, 0x40000003, 0x4FFFFFFF, 0x40000005, 0x40000001, 0xF000000C
unfoldable pub words_shops : List ℕ
words_shops = 268451846 ∷ 1359086594 ∷ 872415274 ∷ 822083591 ∷ 1073741833 ∷ 1073741831 ∷ 1073741826 ∷ 1073741828 ∷ 1073741827 ∷ 1342177279 ∷ 1073741829 ∷ 1073741825 ∷ 4026531852 ∷ []

-- 0x10004002, 0x51020201, 0x3400002A, 0x31000007, 0x40000003, 0x40000001, 0x40000005, 0x40000005, 0xF0000008
unfoldable pub words_two_shops : List ℕ
words_two_shops = 268451842 ∷ 1359086081 ∷ 872415274 ∷ 822083591 ∷ 1073741827 ∷ 1073741825 ∷ 1073741829 ∷ 1073741829 ∷ 4026531848 ∷ []

-- 0x1000400A, 0x51010A09, 0x31000007, 0x40000002 nine times, 0x40000001, 0xF000000D
unfoldable pub words_ten_shops : List ℕ
words_ten_shops = 268451850 ∷ 1359022601 ∷ 822083591 ∷ (replicate 9 1073741826 ++ (1073741825 ∷ 4026531853 ∷ []))

abbrev pub words_shaped : ℕ → List ℕ
words_shaped w = 268451844 ∷ w ∷ []
