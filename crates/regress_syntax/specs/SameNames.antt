-- Which capture groups may share a name (ECMA-262, MightBothParticipate).
use Rattle.std.specs.Prelude.{Bool, true, false, not, ◌&&◌, List, Option, Some, None, IsTrue}
use Rattle.std.specs.List.{list_any}
use Rattle.regress_syntax.specs.Syntax.{Name, is_named, Pattern, Terms, Item, one, either, no_terms, more_terms, atom, group, names, names_of_group, names_of_terms, names_of_item}

abbrev pub same_name : Option Name → Option Name → Bool
same_name None other = false
same_name (Some name) other = is_named name other

-- some name is in both lists
abbrev pub share_name : List (Option Name) → List (Option Name) → Bool
share_name here there = list_any (λ name. list_any (same_name name) there) here

-- Alternatives may share names. Terms of one alternative may not, and neither may a group and its body.
abbrev mutual
  pub are_names_apart : Pattern → Bool
  are_names_apart (one ts) = are_names_apart_in_terms ts
  are_names_apart (either ts p) = are_names_apart_in_terms ts && are_names_apart p

  pub are_names_apart_in_terms : Terms → Bool
  are_names_apart_in_terms no_terms = true
  are_names_apart_in_terms (more_terms x q xs) =
      are_names_apart_in_item x && (not (share_name (names_of_item x) (names_of_terms xs)) && are_names_apart_in_terms xs)

  pub are_names_apart_in_item : Item → Bool
  are_names_apart_in_item (atom a) = true
  are_names_apart_in_item (group kind p) = not (share_name (names_of_group kind) (names p)) && are_names_apart p

abbrev pub NoneConflict : Pattern → Type 0
NoneConflict p = IsTrue (are_names_apart p)
