-- Sets that are closed under case folding, and folded strings.
use Rattle.std.proofs.Common.{◌≡◌, ℕ, ◌+◌, ◌<◌, Vec, Bool, true, List, [], ◌∷◌, ◌++◌, length, map, take, get_or, if◌then◌else◌, sym, ap, ap₂, subst, ◌∙◌}
use Rattle.std.proofs.lemmas.List.{map-append, take_more}
use Rattle.std.specs.declared.alloc.Global.{Global}
use Rattle.regress_base.specs.Intervals.{Bounds, is_member, IsCanonical, IsComplement, intervals_of}
use Rattle.regress_base.specs.Table.{Table, is_in_closure}
use Rattle.regress_base.proofs.lemmas.Sets.{canonical_is, intervals_of-member}
use Rattle.regress_unicode.proofs.lemmas.Closures.{closure_same}
use Rattle.regress_classes.specs.declared.parameters.Parameters.{Parameters}
use Rattle.regress_classes.specs.ClassProductions.{complement, closes, closed_members}
use Rattle.regress_classes.specs.ClassViews.{HasMembers, strings_of}
use Rattle.regress_classes.proofs.ClassSetLemmas.{members_where}
use Rattle.regress_classes.proofs.lemmas.Values.{complement_is}

module _ (table : Table) (parameters : Parameters) (members : List Bounds) (on : closes parameters ≡ true) where
  closed_if : Bool → List Bounds
  closed_if b = if b then intervals_of (is_in_closure table members) else members

  -- The closure of a set is the closure of the members that it was written with.
  pub closed_has : (set closed : List Bounds) → ((c : ℕ) → is_member closed c ≡ is_in_closure table set c) → IsCanonical closed →
      HasMembers members set → HasMembers (closed_members table parameters members) closed
  unfolding closed_if
  closed_has set closed each canonical has =
      subst (λ b. HasMembers (closed_if b) closed) (sym on)
      (members_where (is_in_closure table members) closed canonical (λ c. each c ∙ closure_same table set members has.each c))

  -- The intervals of the closure are determined.
  pub closed_is : (closed : List Bounds) → HasMembers (closed_members table parameters members) closed →
      closed ≡ closed_members table parameters members
  unfolding closed_if
  closed_is closed =
      subst (λ b. HasMembers (closed_if b) closed → closed ≡ closed_if b) (sym on)
      (λ has. canonical_is closed (is_in_closure table members) has.canonical
      (λ c le. has.each c ∙ intervals_of-member (is_in_closure table members) c le))

pub complement_has : (members set others : List Bounds) → IsComplement set others → IsCanonical others → HasMembers members set →
    HasMembers (complement members) others
complement_has members set others opposite canonical has = record {
  canonical = canonical;
  each = λ c. ap (λ (l : List Bounds). is_member l c) (complement_is members set others has.each opposite canonical);
}

-- One more string is folded.
pub one_more_folded : (f : List ℕ → List ℕ) (strings folded : List (Vec ℕ Global)) (i : ℕ) (string new : Vec ℕ Global) → i < length strings →
    string ≡ get_or strings i string → new.items ≡ f string.items → strings_of folded ≡ map f (strings_of (take i strings)) →
    strings_of (folded ++ new ∷ []) ≡ map f (strings_of (take (i + 1) strings))
one_more_folded f strings folded i string new lt is same before =
    let items : Vec ℕ Global → List ℕ = λ s. s.items in
    map-append items folded (new ∷ [])
    ∙ ap₂ (λ (ss : List (List ℕ)) (s : List ℕ). ss ++ s ∷ []) before (same ∙ ap (λ (s : Vec ℕ Global). f s.items) is)
    ∙ sym (ap (λ (ss : List (Vec ℕ Global)). map f (strings_of ss)) (take_more strings i string lt)
    ∙ ap (map f) (map-append items (take i strings) _)
    ∙ map-append f (strings_of (take i strings)) _)
