-- The marks of a syntax tree: its parentheses, bars and classes, which a scan without the grammar can find.
use Rattle.std.specs.Prelude.{ℕ, List, [], ◌∷◌, ◌++◌, Option}
use Rattle.regress_syntax.specs.Syntax.{Name, Atom, class_set, Group, capture, Pattern, Terms, Item, one, either, no_terms, more_terms, atom, group}

-- what determines the groups of a pattern and its nesting depth
pub data GroupToken : Type 0 where
  -- a parenthesis that opens no capture group
  opens : GroupToken
  -- a parenthesis that opens a capture group, with its name
  captures : (name : Option Name) → GroupToken
  closes : GroupToken
  -- `|`
  next : GroupToken
  -- a class, with the nesting depth of the classes inside it
  nests : (nesting : ℕ) → GroupToken

abbrev pub token_of_group : Group → GroupToken
token_of_group (capture name) = captures name
token_of_group kind = opens

-- Only a class under the flag v has a mark, with its nesting depth.
abbrev pub tokens_of_atom : Atom → List GroupToken
tokens_of_atom (class_set flags negated value) = nests value.nesting ∷ []
tokens_of_atom a = []

abbrev mutual
  pub tokens_of : Pattern → List GroupToken
  tokens_of (one ts) = tokens_of_terms ts
  tokens_of (either ts p) = tokens_of_terms ts ++ next ∷ tokens_of p

  pub tokens_of_terms : Terms → List GroupToken
  tokens_of_terms no_terms = []
  tokens_of_terms (more_terms x q xs) = tokens_of_item x ++ tokens_of_terms xs

  pub tokens_of_item : Item → List GroupToken
  tokens_of_item (atom a) = tokens_of_atom a
  tokens_of_item (group kind p) = token_of_group kind ∷ tokens_of p ++ closes ∷ []
