-- The strings with a name in lists that are equal to the constants.
use Rattle.std.proofs.Common.{◌≡◌, ℕ, List, map, ap₂}
use Rattle.regress_base.specs.Table.{named}
use Rattle.regress_properties.specs.declared.data.strings.TheConstants.{STRING_NAMES, STRINGS, POINTS}
use Rattle.regress_properties.specs.Listed.{named_strings}
use Rattle.regress_properties.specs.Properties.{unicode_strings}

pub strings_named : (name : List ℕ) (listed : List (ℕ × ℕ)) (points : List ℕ) → listed ≡ STRINGS.now → points ≡ POINTS.now →
    named name (map (λ n. named_strings listed points n.0.now n.1 n.2) STRING_NAMES.now) ≡ named name unicode_strings
unfolding unicode_strings
strings_named name listed points same points_same =
    ap₂ (λ (xs : List (ℕ × ℕ)) (ys : List ℕ). named name (map (λ n. named_strings xs ys n.0.now n.1 n.2) STRING_NAMES.now)) same points_same
