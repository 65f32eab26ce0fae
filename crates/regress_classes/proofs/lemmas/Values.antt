-- The meaning of the code's sets.
use Rattle.std.proofs.Common.{◌≡◌, ℕ, List, not, ap, ◌∙◌}
use Rattle.regress_base.specs.Intervals.{Bounds, is_member, IsCanonical, IsComplement}
use Rattle.regress_base.proofs.lemmas.Sets.{canonical_is}
use Rattle.regress_classes.specs.ClassProductions.{complement}

-- The complement of a set with these members is the complement of the members.
pub complement_is : (members set others : List Bounds) → ((c : ℕ) → is_member set c ≡ is_member members c) → IsComplement set others →
    IsCanonical others → others ≡ complement members
complement_is members set others has is_complement canonical =
    canonical_is others (λ c. not (is_member members c)) canonical (λ c h. is_complement c h ∙ ap not (has c))
