-- Membership in a list of intervals, as a search.
use Rattle.std.proofs.Common.{◌≡◌, ℕ, ◌||◌, List, [], ◌∷◌, ap, refl}
use Rattle.std.specs.List.{list_any}
use Rattle.regress_base.specs.Intervals.{Bounds, is_member, is_within}

pub is_member_any : (ivs : List Bounds) (c : ℕ) → is_member ivs c ≡ list_any (λ iv. is_within iv c) ivs
unfolding is_member
is_member_any [] c = refl
is_member_any (iv ∷ ivs) c = ap (λ b. is_within iv c || b) (is_member_any ivs c)
