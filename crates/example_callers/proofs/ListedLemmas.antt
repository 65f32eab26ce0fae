-- The groups that a linter lists in several calls.
use Rattle.std.proofs.Common.{◌≡◌, List, [], ◌++◌, sym, ap, ◌∙◌, append-nil, append_assoc}
use Rattle.regress_front.specs.WellFormed.{Capture}
use Rattle.example_callers.specs.declared.linter.Group.{Group}
use Rattle.example_callers.specs.declared.linter.Linter.{Linter}
use Rattle.example_callers.specs.Listed.{groups_of, Lists}

pub Lists-none : (a : Linter) → Lists a a []
Lists-none a = record { before = λ enough. enough; listed = λ enough. sym (append-nil _) }

pub Lists-then : (a b c : Linter) (xs ys : List Capture) → Lists a b xs → Lists b c ys → Lists a c (xs ++ ys)
Lists-then a b c xs ys first second = record {
  before = λ enough. first.before (second.before enough);
  listed = λ enough.
      second.listed enough ∙ ap (λ zs. zs ++ ys) (first.listed (second.before enough))
      ∙ append_assoc (groups_of a.report.groups.items) xs ys;
}

-- after the walk, the list is the one that the last call left
pub ended : (gs hs : List Group) → gs ≡ hs → (cs : List Capture) → groups_of hs ≡ cs → groups_of gs ≡ cs
ended gs hs same cs listed = ap groups_of same ∙ listed
