-- What a linter remarks on.
use Rattle.std.specs.Prelude.{◌≡◌, ℕ, List, map}
use Rattle.regress_front.specs.Accepted.{IsAccepted}
use Rattle.regress_front.specs.Steps.{Setting}
use Rattle.regress_front.specs.Syntax.{Pattern}
use Rattle.regress_differences.specs.Kinds.{AreDifferences, name_of, text_of}
use Rattle.regress_differences.specs.Paired.{spanned_of}
use Rattle.regress_differences.specs.TreeOf.{tree_of}
use Rattle.regress_differences.specs.declared.kind.Difference.{Difference}
use Rattle.example_callers.specs.declared.remarks.Remark.{Remark}

-- what a remark shows: the ends of its span, its name and its text
abbrev pub shown : Remark → ℕ × ℕ × List ℕ × List ℕ
shown remark = (remark.span.start, remark.span.end, remark.name.now, remark.text.now)

-- the ends of the span of a difference, and the name and the text of its kind
abbrev pub explained : Difference → ℕ × ℕ × List ℕ × List ℕ
explained difference = (difference.span.start, difference.span.end, name_of difference.kind, text_of difference.kind)

-- The remarks explain the differences that are reported of the pattern, which is accepted.
abbrev pub AreRemarksOn : Setting → (source : List ℕ) → List Remark → Type 0
AreRemarksOn setting source remarks = (p : Pattern) × (accepted : IsAccepted setting source p) × (found : List Difference)
    × AreDifferences setting source (tree_of setting.table p) (spanned_of setting source p accepted.derived) found
    × (map shown remarks ≡ map explained found)
