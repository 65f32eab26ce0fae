-- Sets of one string.
use Rattle.std.proofs.Common.{◌≡◌, ℕ, ◌<◌, Bool, List, [], ◌∷◌, ◌++◌, map, length, get_or, Option, None, refl, sym, ap, ◌∙◌, append-nil, arith}
use Rattle.std.specs.Box.{boxed_slice_items}
use Rattle.std.specs.Global.{Global}
use Rattle.std.specs.declared.boxed.BoxedSlice.{BoxedSlice}
use Rattle.regress_base.specs.Table.{denotes}
use Rattle.regress_tree.specs.Matching.{steps}
use Rattle.regress_tree.specs.Reading.{of_bytes}
use Rattle.regress_tree.specs.References.{all_of, back_reference, in_order, match_again}
use Rattle.regress_tree.specs.Steps.{CaptureSpan, MatchState}
use Rattle.regress_tree.specs.Tree.{leaf, string_set}
use Rattle.regress_leaves.specs.Leaves.{put}
use Rattle.regress_leaves.specs.Subject.{Subject}
use Rattle.regress_leaves.proofs.lemmas.Leaves.{any-nil, any-cons}
use Rattle.regress_program.specs.Shape.{IsPart}

pub sole_of : (strings : List (BoxedSlice ℕ Global)) (icase : Bool) → IsPart (leaf (string_set (map boxed_slice_items strings) icase)) →
    (0 < length strings) × ((d : BoxedSlice ℕ Global) → map boxed_slice_items strings ≡ boxed_slice_items (get_or strings 0 d) ∷ [])
sole_of [] icase is = absurd is
sole_of (string ∷ []) icase is = (omega arith, λ d. refl)
sole_of (string ∷ another ∷ strings) icase is = absurd is

-- a set of one string
pub one_string : (u : Subject) (icase : Bool) (string : List ℕ) (to : Option ℕ) (position : ℕ) →
    ((s : MatchState) → s.position ≡ position → put s to
    ≡ all_of u.direction (of_bytes u.bytes) (denotes u.setting.table icase u.setting.flags.unicode) (in_order u.direction string) s) →
    (s : MatchState) → s.position ≡ position → steps u.setting u.bytes u.direction (leaf (string_set (string ∷ []) icase)) s ≡ put s to
one_string u icase string to position goes s at =
    let same = denotes u.setting.table icase u.setting.flags.unicode in
    any-cons u.direction (of_bytes u.bytes) same string [] s
    ∙ ap (λ xs. all_of u.direction (of_bytes u.bytes) same (in_order u.direction string) s ++ xs) (any-nil u.direction (of_bytes u.bytes) same s)
    ∙ append-nil _ ∙ sym (goes s at)

-- a back reference matches what its group has captured
pub back_again : (u : Subject) (same : ℕ → ℕ → Bool) (id : ℕ) (span : Option CaptureSpan) (s : MatchState) (to : Option ℕ) → span ≡ get_or s.captures id None →
    put s to ≡ match_again u.direction (of_bytes u.bytes) same span s → back_reference u.direction (of_bytes u.bytes) same id s ≡ put s to
unfolding back_reference
back_again u same id span s to is ends = sym (ends ∙ ap (λ x. match_again u.direction (of_bytes u.bytes) same x s) is)
