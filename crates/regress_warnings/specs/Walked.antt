-- What a list of nodes adds to the warnings.
use Rattle.std.specs.Prelude.{◌≡◌, ◌||◌, ℕ, Bool, false, List, ◌++◌, get_or, Option, Some, None}
use Rattle.regress_tree.specs.Tree.{Tree}
use Rattle.regress_parse.specs.declared.span.Span.{Span}
use Rattle.regress_warnings.specs.declared.finder.Finder.{Finder}
use Rattle.regress_warnings.specs.declared.kind.Warning.{Warning}
use Rattle.regress_warnings.specs.Warned.{closes, is_same_span}

-- The group with number n is recorded as closed.
abbrev pub is_recorded : List Bool → ℕ → Bool
is_recorded closed n = get_or closed n false

-- There is such a span, and it is this one.
abbrev pub is_span : Option Span → Span → Bool
is_span None span = false
is_span (Some other) span = is_same_span span other

-- Between the two states these warnings were listed, and nothing else was changed.
pub record Adds (old new : Finder) (added : List Warning) : Type 0 where
  pub sets : new.sets ≡ old.sets
  pub pattern : new.pattern.now ≡ old.pattern.now
  pub closed : new.closed.items ≡ old.closed.items
  pub listed : new.found.items ≡ old.found.items ++ added

-- Between the two states the groups that the node closes were recorded, and nothing else was changed.
pub record Closes (old new : Finder) (t : Tree) : Type 0 where
  pub sets : new.sets ≡ old.sets
  pub pattern : new.pattern.now ≡ old.pattern.now
  pub found : new.found.items ≡ old.found.items
  pub closed : (n : ℕ) → is_recorded new.closed.items n ≡ (is_recorded old.closed.items n || closes n t)
