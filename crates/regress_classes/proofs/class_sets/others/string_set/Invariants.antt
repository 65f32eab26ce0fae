-- The set has the strings of the iterations so far.
use Rattle.std.proofs.Common.{◌≡◌, ℕ, List, take}
use Rattle.std.specs.BTreeSet.{contains_by}
use Rattle.std.specs.Cmp.Lexicographic.{slice_cmp}
use Rattle.std.specs.List.{list_any}
use Rattle.std.specs.Ordering.{nat_cmp}
use Rattle.std.specs.Str.{bytes_eq}
use Rattle.regress_classes.proofs.class_sets.others.string_set.Given as goal

abbrev pub invariant-loop-string : goal.invariant-loop-string
invariant-loop-string l =
    (s : List ℕ) → contains_by (λ other. slice_cmp nat_cmp s other.now) l.set
    ≡ list_any (λ other. bytes_eq other.items s) (take l.string-index l.strings)
