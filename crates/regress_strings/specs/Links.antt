-- Links of an order of strings.
use Rattle.std.specs.Prelude.{◌≡◌, ℕ, true, false, nat_eq, ◌-◌, ◌<◌, ◌≤◌, List, Some, slice_get}
use Rattle.std.specs.List.{starts_with}
use Rattle.std.proofs.Props.{props}
use Rattle.regress_strings.specs.declared.link.Link.{Link}

-- From `first` up to the place the strings are equal. `prefix` is one more than the last place below `first` of a string that the one at the place begins
-- with, or 0 if there is none.
pub record IsLink (string : ℕ → List ℕ) (place : ℕ) (link : Link) : Type 0 where
  pub first : link.first ≤ place
  pub prefix : link.prefix ≤ link.first
  pub equal : (i : ℕ) → link.first ≤ i → i ≤ place → string i ≡ string place
  pub begins : 0 < link.prefix → starts_with nat_eq (string place) (string (link.prefix - 1)) ≡ true
  pub last : (i : ℕ) → link.prefix ≤ i → i < link.first → starts_with nat_eq (string place) (string i) ≡ false

-- The links are those of the places from 0 on.
abbrev pub AreLinks : (string : ℕ → List ℕ) → List Link → Type 0
AreLinks string links = (place : ℕ) (link : Link) → slice_get links place ≡ Some link → IsLink string place link

-- Each property has at most one proof.
pub IsLink-prop : (string : ℕ → List ℕ) (place : ℕ) (link : Link) → IsProp (IsLink string place link)
IsLink-prop string place link = hlevel props

pub AreLinks-prop : (string : ℕ → List ℕ) (links : List Link) → IsProp (AreLinks string links)
AreLinks-prop string links = hlevel (props, IsLink-prop)
