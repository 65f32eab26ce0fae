-- What a report is.
use Rattle.std.proofs.Common.{◌≡◌, ◌==◌, ◌∙◌, ◌+◌, ◌<◌, ◌≤◌, ℕ, Bool, List, [], ◌∷◌, ◌++◌, map, Option, Some, None, length, take, get_or, refl, ap, ap₂, subst, sym, append-nil, append_assoc}
use Rattle.std.specs.Prelude.{Result, Ok, Err, IfOk, chars, codes}
use Rattle.std.specs.Fmt.{decimal}
use Rattle.std.specs.Io.KnownBytes.{Appends}
use Rattle.std.specs.List.{FoldsTo, zip}
use Rattle.std.proofs.lemmas.Fn.{FoldsTo-push}
use Rattle.std.proofs.lemmas.List.{map-append, take_all, take_more}
use Rattle.regress_arguments.specs.Output.{Took}
use Rattle.regress_base.specs.declared.types.Flags.{Flags}
use Rattle.regress_base.specs.Table.{Table}
use Rattle.regress_front.specs.declared.parse.Dialect.{Dialect}
use Rattle.regress_parse.specs.Accepted.{IsAcceptedIn, OneIsDerivedIn}
use Rattle.regress_parse.specs.Spans.{spans_in}
use Rattle.regress_parse.specs.TreeOf.{tree_of}
use Rattle.regress_parse.specs.declared.span.Span.{Span}
use Rattle.regress_ucd.specs.UnicodeTable.{unicode_table}
use Rattle.regress_spans.specs.Paired.{postorder, spanned_in}
use Rattle.regress_spans.specs.Remarks.{Said, said, said_by}
use Rattle.regress_spans.specs.declared.remark.Remark.{Remark}
use Rattle.regress_syntax.specs.Syntax.{Pattern}
use Rattle.regress_tree.specs.Steps.{Setting}
use Rattle.regress_tree.specs.Tree.{Tree}
use Rattle.regress_warnings.specs.Warned as warnings
use Rattle.regex_command.specs.Remarks.{AreRemarks}
use Rattle.regex_command.specs.Patterns.{AreDifferencesIn, HasDifferences, HasWarnings, IsListed, IsListedNext, IsReport, MayFailToLint, line_of}
use Rattle.regex_command.specs.Size.{IsSizeWarning, said_of_size}
use Rattle.regex_command.specs.declared.size.SizeWarning.{SizeWarning}
use Rattle.regress.specs.Unicode.{unicode_setting}
use Rattle.regex_lines.specs.declared.failure.Failure.{Failure}
use Rattle.regex_command.proofs.SettingLemmas.{under_unicode}

pub appends_nothing : (known : Option (List ℕ)) → Appends known known []
appends_nothing None = tt
appends_nothing (Some bytes) = sym (append-nil bytes)

-- eight lists, joined from the right and from the left
joined : (a b c d e f g h : List ℕ) → a ++ (b ++ (c ++ (d ++ (e ++ (f ++ (g ++ h)))))) ≡ a ++ b ++ c ++ d ++ e ++ f ++ g ++ h
joined a b c d e f g h =
    sym (append_assoc a b (c ++ (d ++ (e ++ (f ++ (g ++ h))))))
    ∙ sym (append_assoc (a ++ b) c (d ++ (e ++ (f ++ (g ++ h)))))
    ∙ sym (append_assoc (a ++ b ++ c) d (e ++ (f ++ (g ++ h))))
    ∙ sym (append_assoc (a ++ b ++ c ++ d) e (f ++ (g ++ h)))
    ∙ sym (append_assoc (a ++ b ++ c ++ d ++ e) f (g ++ h))
    ∙ sym (append_assoc (a ++ b ++ c ++ d ++ e ++ f) g h)

-- the line of a remark
pub line_of_texts : (span : Span) (name text : List ℕ) →
    decimal span.start ++ (codes ".." ++ (decimal span.end ++ (codes ": " ++ (name ++ (codes ": " ++ (text ++ codes "\n")))))) ≡ line_of (span, name, text)
line_of_texts span name text = joined (decimal span.start) (codes "..") (decimal span.end) (codes ": ") name (codes ": ") text (codes "\n")

-- the line of a remark, and what is shown below it
pub line_and_shown : (before line shown mid after is : List ℕ) → mid ≡ before ++ line → after ≡ mid ++ shown → line ≡ is → IsListedNext before is after
line_and_shown before line shown mid after is first second same =
    (shown, second ∙ ap (λ x. x ++ shown) (first ∙ ap (λ x. before ++ x) same) ∙ append_assoc before is shown)

-- one remark further
pub one_more : (remarks : List Remark) (i : ℕ) (e : Remark) (first before after : List ℕ) → i < length remarks → e ≡ get_or remarks i e →
    FoldsTo IsListedNext first (map line_of (said_by (take i remarks))) before → IsListedNext before (line_of (said e)) after →
    FoldsTo IsListedNext first (map line_of (said_by (take (i + 1) remarks))) after
one_more remarks i e first before after within is steps next =
    subst (λ (lines : List (List ℕ)). FoldsTo IsListedNext first lines after) (sym more)
    (FoldsTo-push IsListedNext first (map line_of (said_by (take i remarks))) before (line_of (said e)) after steps next)
  where
    more : map line_of (said_by (take (i + 1) remarks)) ≡ map line_of (said_by (take i remarks)) ++ line_of (said e) ∷ []
    more =
        ap (λ (rs : List Remark). map line_of (said_by rs)) (take_more remarks i e within ∙ ap (λ (r : Remark). take i remarks ++ r ∷ []) (sym is))
        ∙ ap (map line_of) (map-append said (take i remarks) (e ∷ [])) ∙ map-append line_of (said_by (take i remarks)) (said e ∷ [])

pub all_listed : (remarks : List Remark) (i : ℕ) (first bytes : List ℕ) → length remarks ≤ i →
    FoldsTo IsListedNext first (map line_of (said_by (take i remarks))) bytes → FoldsTo IsListedNext first (map line_of (said_by remarks)) bytes
all_listed remarks i first bytes all steps =
    subst (λ (some : List Remark). FoldsTo IsListedNext first (map line_of (said_by some)) bytes) (take_all i remarks all) steps

module _ (dialect : Dialect) (flags : Flags) (points text : List ℕ) (table : Table) (characters : points ≡ chars text) (same : table ≡ unicode_table) where
  abbrev under_table : Flags → Setting
  under_table f = record { flags = f; table = table }

  -- the remarks on the pattern, and that on its size
  pub reports : (before remarks : List Said) (parsed : Flags) (t : Tree) (spans : List Span) (r : Result Bool Failure) (old new : Option (List ℕ)) →
      AreRemarks dialect (under_table parsed) points t spans before → parsed ≡ flags → OneIsDerivedIn dialect (under_table flags) points →
      (p : Pattern) × (accepted : IsAcceptedIn dialect (under_table flags) points p) × (t ≡ tree_of table p)
      × (spans ≡ spans_in dialect (under_table flags) points p accepted.derived) →
      (p : Pattern) × (accepted : IsAcceptedIn dialect (under_table flags) points p)
      × (zip (postorder t) spans ≡ spanned_in dialect (under_table flags) points p accepted.derived) →
      (n : ℕ) → n ≡ length points →
      (size : Option SizeWarning) × IsSizeWarning dialect (unicode_setting flags) text size × (remarks ≡ before ++ said_of_size n size) →
      IfOk r (λ _. Took old new (IsListed remarks)) → IfOk r (λ clean. clean ≡ (length remarks == 0)) →
      IfOk r (λ clean. Took old new (IsReport dialect clean (unicode_setting flags) text))
  reports before remarks parsed t spans (Ok clean) old new (found, differ, are) same_flags only (q, derived, is_tree, placed) (p, accepted, paired) n count (size, sized, is)
      (bytes, listed, appends) is_clean =
      let nodes = spanned_in dialect (under_table flags) points p accepted.derived in
      let warned = warnings.all_said flags.unicode_sets points nodes in
      let of_pattern : t ≡ tree_of table p = is_tree ∙ ap (tree_of table) (only q p derived.derived accepted.derived) in
      let differs : AreDifferencesIn dialect (under_table flags) points (tree_of table p) nodes found =
      subst (λ (u : Tree). AreDifferencesIn dialect (under_table flags) points u nodes found) of_pattern
      (subst (λ (xs : List (Tree × Span)). AreDifferencesIn dialect (under_table flags) points t xs found) paired
      (subst (λ (f : Flags). AreDifferencesIn dialect (under_table f) points t (zip (postorder t) spans) found) same_flags differ)) in
      let first : before ≡ found ++ warned =
      are ∙ ap₂ (λ (f : Flags) (xs : List (Tree × Span)). found ++ warnings.all_said f.unicode_sets points xs) same_flags paired in
      let all : remarks ≡ found ++ warned ++ said_of_size (length (chars text)) size =
      is ∙ ap₂ (λ (xs : List Said) (n : ℕ). xs ++ said_of_size n size) first (count ∙ ap length characters) in (
        bytes,
        record {
          found = found;
          warned = warned;
          size = size;
          differ = under_unicode flags points (chars text) table characters same
              (λ setting source. HasDifferences dialect setting source found) (p, accepted, differs);
          warns = under_unicode flags points (chars text) table characters same
              (λ setting source. HasWarnings dialect setting source warned) (p, accepted, refl);
          sized = sized;
          listed = subst (λ (some : List Said). IsListed some bytes) all listed;
          is_clean = is_clean ∙ ap (λ (some : List Said). length some == 0) all;
        },
        appends,
      )
  reports before remarks parsed t spans (Err failure) old new are same_flags only spanned accepted n count sized took is_clean = tt

-- A failure that may occur for a pattern under the setting may do so over all of Unicode.
pub lint_under_unicode : (dialect : Dialect) (flags : Flags) (points source : List ℕ) (table : Table) → points ≡ source → table ≡ unicode_table →
    (failure : Failure) →
    MayFailToLint dialect (record { flags = flags; table = table }) points failure → MayFailToLint dialect (unicode_setting flags) source failure
lint_under_unicode dialect flags points source table characters same failure h =
    under_unicode flags points source table characters same (λ setting source. MayFailToLint dialect setting source failure) h
