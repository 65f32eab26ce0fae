-- What forming literal bytes makes of a character, and of the bytes of two parts of a `Cat`.
use Rattle.std.specs.Prelude.{if◌then◌else◌, encode_utf8, ℕ, List, [], ◌++◌}
use lib.Utf8.{scalar}
use Rattle.regress_tree.specs.Reading.{Direction, forwards, backwards}
use Rattle.regress_tree.specs.Tree.{Leaf, char, byte_sequence, Tree, leaf, cat, alt, wrapped}

-- the UTF-8 of a character, or the code point itself if it is no character
abbrev pub formed_character : ℕ → Leaf
formed_character c = if scalar c then byte_sequence (encode_utf8 c) else char c

-- the bytes of an earlier part and of a later one in the order of the text; the parts of a lookbehind are reversed
abbrev pub joined : Direction → (earlier later : List ℕ) → List ℕ
joined forwards earlier later = earlier ++ later
joined backwards earlier later = later ++ earlier

-- the bytes of a leaf that is a `ByteSequence`, and no bytes for any other
abbrev pub bytes_of_leaf : Leaf → List ℕ
bytes_of_leaf (byte_sequence bytes) = bytes
bytes_of_leaf l = []

-- the bytes of a `ByteSequence`
abbrev pub bytes_of : Tree → List ℕ
bytes_of (leaf l) = bytes_of_leaf l
bytes_of (cat parts) = []
bytes_of (alt left right) = []
bytes_of (wrapped w body) = []
