-- The first bytes of strings as numbers.
use Rattle.std.specs.Prelude.{◌≡◌, ℕ, zero, suc, ◌+◌, ◌*◌, ◌<◌, List, drop, length, slice_index}
use Rattle.std.proofs.Props.{props}

-- Each element is a byte.
abbrev pub AreBytes : List ℕ → Type 0
AreBytes string = (i : ℕ) → slice_index string i < 256

-- in base 256, the digits of `key` and then the first n bytes, with zeros after the end
unfoldable pub key_from : (key n : ℕ) → List ℕ → ℕ
key_from key zero string = key
key_from key (suc n) string = key_from (key * 256 + slice_index string 0) n (drop 1 string)

-- the first 8 bytes as a number
unfoldable pub key_of : List ℕ → ℕ
key_of string = key_from 0 8 string

-- The keys are those of the strings.
pub record AreKeys (string : ℕ → List ℕ) (keys : List ℕ) : Type 0 where
  pub bytes : (i : ℕ) → i < length keys → AreBytes (string i)
  pub keys_are : (i : ℕ) → i < length keys → slice_index keys i ≡ key_of (string i)

-- The property has at most one proof.
pub AreKeys-prop : (string : ℕ → List ℕ) (keys : List ℕ) → IsProp (AreKeys string keys)
AreKeys-prop string keys = hlevel props
