-- A test of sets of identifier characters.
use Rattle.std.proofs.Common.{◌≡◌, ℕ, ◌<◌, Bool, true, false, ◌&&◌, ◌||◌, nat_le, IsTrue, List, [], ◌∷◌, refl, arith}
use Rattle.std.specs.List.{list_any, list_all}
use Rattle.std.proofs.lemmas.Bool.{and_parts}
use Rattle.std.proofs.lemmas.Bool.Decides.{nat_tests}
use Rattle.regress_base.specs.Intervals.{Bounds, is_member, is_within}
use Rattle.regress_base.specs.Classes.{word_characters}
use Rattle.regress_base.specs.Table.{HasWordAscii}

-- the interval is above ASCII, or it is in one of the ranges of letters, digits and the low line
abbrev pub has_word_ends : Bounds → Bool
has_word_ends iv = nat_le 0x80 iv.first || list_any (λ w. nat_le w.first iv.first && nat_le iv.last w.last) word_characters

word_in : (iv : Bounds) (c : ℕ) → has_word_ends iv ≡ true → c < 0x80 → is_within iv c ≡ true → is_member word_characters c ≡ true
unfolding is_member is_within
word_in iv c ends lt within = grind (arith, nat_tests, ends, lt, within)

pub word_ascii : (set : List Bounds) → IsTrue (list_all has_word_ends set) → HasWordAscii set
unfolding is_member
word_ascii [] h c lt member = let no : false ≡ true = member in cc
word_ascii (iv ∷ set) h c lt member =
    let parts = and_parts (has_word_ends iv) (list_all has_word_ends set) h in
    by_test (is_within iv c) refl member parts.0 (λ t. word_ascii set parts.1 c lt t)
  where
    by_test : (b : Bool) → is_within iv c ≡ b → (b || is_member set c) ≡ true → has_word_ends iv ≡ true →
        (is_member set c ≡ true → is_member word_characters c ≡ true) → is_member word_characters c ≡ true
    by_test true e t ends rest = word_in iv c ends lt e
    by_test false e t ends rest = rest t
