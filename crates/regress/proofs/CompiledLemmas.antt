-- The tree of an accepted pattern, and the errors of a rejected one.
use Rattle.std.proofs.Common.{◌≡◌, ◌∙◌, ℕ, ◌<◌, inr, List, [], ◌∷◌, length, map, sym, ap, subst, not-suc-le-zero, arith}
use Rattle.std.proofs.lemmas.List.{get_or-map, length-map}
use Rattle.std.proofs.lemmas.List.Sorted.{IsPermutation-trans, length_permutation}
use Rattle.std.specs.List.Sorted.{IsNonDecreasingBy, IsPermutation}
use Rattle.std.specs.Prelude.{Result, Ok, Err, IfErr, IfOk, IsErr, IsErrAnd, chars}
use Rattle.std.specs.Str.{IsUtf8}
use Rattle.regress_ecma.specs.CodeUnits.{is_exact}
use Rattle.regress_ecma.specs.SurrogatePairs.{matches_outside_pairs}
use Rattle.regress_front.specs.Accepted.{OfAcceptedIn}
use Rattle.regress_front.specs.Source.{Source}
use Rattle.regress_front.specs.Steps.{Setting}
use Rattle.regress_front.specs.Tree.{Tree}
use Rattle.regress_front.specs.WellFormed.{captures}
use Rattle.regress_front.specs.declared.parse.Dialect.{Dialect}
use Rattle.regress_front.specs.declared.unicode.Tables.{Tables}
use Rattle.regress_match.specs.Pattern.{capture_of}
use Rattle.regress_match.specs.declared.names.Group.{Group}
use Rattle.regress.specs.Compiled.{IsCompiledFromIn, IsCompiledIn, IsTreeOfIn, groups_of, has_exact_source, is_outside_pairs, source_of, tree_of}
use Rattle.regress.specs.Unicode.{unicode_setting}
use Rattle.regress.specs.Source.{text_of}
use Rattle.regress.specs.Compiled as regex
use Rattle.regress.specs.Failures.{IsDue, IsDueWithLetters, compile_error_of}
use Rattle.regress.specs.Letters.{AreFlags, flags_of}
use Rattle.regress.specs.Limits.{default_options}
use Rattle.regress.specs.declared.failure.Error.{Error}
use Rattle.regress.specs.declared.failure.Error.TheVariants.{Flags as BadFlags, Memory, Syntax, TooLarge}
use Rattle.regress.specs.declared.limits.Options.{Options}
use Rattle.regress.specs.declared.pattern.Regex.{Regex}
use Rattle.regress.proofs.SourceLemmas.{text_of-chars}
use Rattle.regress_parse.proofs.lemmas.{length-pattern_groups}
use Rattle.regress_program.specs.Size.{IsTooLong}
use Rattle.regress_program.specs.declared.fault.CompileFault.{CompileFault}
use Rattle.regress_program.specs.declared.fault.CompileFault.TheVariants as compile_fault

-- An error that is passed on has the property that it had.
pub passed_on : (P : Error → Type 0) {X Y : Type 0} (r : Result X Error) (e : Error) (out : Result Y Error) →
    IsErr out × IsErrAnd out (λ x. x ≡ e) → r ≡ Err e → IfErr r P → IfErr out P
passed_on P r e (Ok y) given is known = tt
passed_on P r e (Err x) given is known = subst P (sym given.1) (subst (λ o. IfErr o P) is known)

-- what holds of the tables holds of the value that shares them
pub with_tables : (P : Tables → Type 0) (tables shared : Tables) → tables ≡ shared → P tables → P shared
with_tables P tables shared is known = subst P is known

-- the ids of the listed groups ascend
sorted-map : (groups : List Group) → IsNonDecreasingBy (λ group. group.id) groups →
    IsNonDecreasingBy (λ group. group.id) (map capture_of groups)
sorted-map [] sorted = λ i j d up within. absurd (not-suc-le-zero within)
sorted-map (first ∷ groups) sorted = λ i j d up within.
    let all = first ∷ groups in
    let in_all : j < length all = omega (arith, within, length-map all capture_of) in
    let one = ap (λ c. c.id) (get_or-map capture_of all i first d (omega (arith, in_all, up))) in
    let two = ap (λ c. c.id) (get_or-map capture_of all j first d in_all) in
    omega (arith, one, two, sorted i j first up in_all)

-- A regular expression with the tree and the groups of an accepted pattern is compiled from it.
pub compiled : (dialect : Dialect) (setting : Setting) (points : Source) (t : Tree) (r : Regex) → IsTreeOfIn dialect setting points t →
    tree_of r ≡ t → regex.setting_of r ≡ setting → has_exact_source r ≡ is_exact setting.flags.unicode points →
    OfAcceptedIn dialect setting points (λ p. is_outside_pairs r ≡ matches_outside_pairs setting.table p) →
    IsPermutation (captures t) (groups_of r) → IsNonDecreasingBy (λ group. group.id) r.groups.items →
    IsCompiledFromIn dialect setting points r
compiled dialect setting points t r is same_tree same_setting same_exact outside groups sorted =
    let own = subst (IsTreeOfIn dialect setting points) (sym same_tree) is in
    record {
      tree = own;
      groups = IsPermutation-trans _ _ _ own.captures (subst (λ u. IsPermutation (captures u) (groups_of r)) (sym same_tree) groups);
      sorted = sorted-map r.groups.items sorted;
      setting = same_setting;
      exact = same_exact;
      outside = outside own.pattern own.accepted;
    }

-- What is compiled from the characters of a text is compiled from the text.
pub from_characters : (dialect : Dialect) (setting : Setting) (text : List ℕ) (points : Source) → points ≡ chars text → IsUtf8 text →
    {E : Type 0} (r : Result Regex E) → IfOk r (IsCompiledFromIn dialect setting points) → IfOk r (λ regex. source_of regex ≡ text_of points) →
    IfOk r (IsCompiledIn dialect setting text)
from_characters dialect setting text points same utf8 (Err e) compiled source = tt
from_characters dialect setting text points same utf8 (Ok regex) compiled source = record {
  from = subst (λ ps. IsCompiledFromIn dialect setting ps regex) same compiled;
  source = source ∙ ap text_of same ∙ text_of-chars text utf8;
}

-- The tree of an accepted pattern has few groups.
few_groups : (dialect : Dialect) (setting : Setting) (source : Source) (t : Tree) → IsTreeOfIn dialect setting source t → length (captures t) < 18446744073709551615
few_groups dialect setting source t is =
    let groups = is.accepted.limits.groups in
    omega (arith, groups, length_permutation _ _ is.captures, length-pattern_groups is.pattern)

-- An error of compiling that is converted is due.
pub too_long_is_due : (setting : Setting) (source : Source) (options : Options) (t : Tree) → IsTreeOfIn options.dialect setting source t →
    {X Y : Type 0} (r : Result X CompileFault) (f : CompileFault) (out : Result Y Error) →
    IsErr out × IsErrAnd out (λ error. error ≡ compile_error_of f) → r ≡ Err f →
    (r ≡ Err compile_fault.TooLong → length (captures t) < 18446744073709551615 → IsTooLong options.instructions t) →
    IfErr out (IsDue setting source options)
too_long_is_due setting source options t is r f (Ok y) given same too_long = tt
too_long_is_due setting source options t is r (compile_fault.Memory e) (Err error) given same too_long =
    subst (IsDue setting source options) (sym given.1) tt
too_long_is_due setting source options t is r compile_fault.TooLong (Err error) given same too_long =
    subst (IsDue setting source options) (sym given.1)
    (inr (record { tree = t; is_tree = is; long = too_long same (few_groups options.dialect setting source t is) }))

-- An error under the flags of letters is due with the letters.
pub due_with_letters : (letters : List ℕ) (source : Source) → AreFlags letters → (error : Error) →
    IsDue (unicode_setting (flags_of letters)) source default_options error → IsDueWithLetters letters source error
due_with_letters letters source are (BadFlags e) due = absurd due
due_with_letters letters source are (Syntax kind text position message) due = (are, due)
due_with_letters letters source are TooLarge due = (are, due)
due_with_letters letters source are Memory due = (are, due)
