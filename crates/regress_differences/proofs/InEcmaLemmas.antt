-- Trees of patterns that are the same in both dialects.
use Rattle.std.proofs.Common.{◌≡◌, ◌≢◌, ℕ, ◌≤◌, Bool, true, false, not, ◌&&◌, ◌||◌, List, length, slice_get, Option, Some, None, option_map, encode_utf8_all, refl, sym, ap, subst, ◌∙◌}
use Rattle.std.specs.Cmp.Lexicographic.{other_text, same_text}
use Rattle.std.proofs.lemmas.Bool.{and_parts, false≢true}
use Rattle.std.proofs.lemmas.List.Elements.{All-replicate}
use Rattle.std.proofs.lemmas.Option.{slice_get-map}
use Rattle.regress_base.specs.Table.{Table}
use Rattle.regress_base.specs.declared.types.Flags.{Flags}
use Rattle.regress_tree.specs.Matching.{matches}
use Rattle.regress_tree.specs.Reading.{IsText, forwards}
use Rattle.regress_tree.specs.Steps as Steps
use Rattle.regress_tree.specs.Steps.{IsStateOf, IsCaptureOf, byte_state, Setting}
use Rattle.regress_tree.specs.Tree.{Tree}
use Rattle.regress_encoding.specs.Decoded.{decode}
use Rattle.regress_encoding.specs.Encoding.{encode}
use Rattle.regress_lexer.specs.Dialects.{flags_in_force}
use Rattle.regress_lexer.specs.Source.{Source}
use Rattle.regress_lexer.specs.declared.dialect.Dialect.TheVariants.{Ecma}
use Rattle.regress_syntax.specs.Meaning.{meaning}
use Rattle.regress_syntax.specs.Syntax.{Pattern, names}
use Rattle.regress_parse.specs.Accepted.{IsAcceptedIn, OneIsDerivedIn, OfAcceptedIn, Means}
use Rattle.regress_parse.specs.Rejected.{NoneIsAcceptedIn}
use Rattle.regress_parse.specs.TreeOf.{tree_of}
use Rattle.regress_parse.specs.declared.span.Span.{Span}
use Rattle.regress_spans.specs.Paired.{spanned_in}
use Rattle.regress_ecma.specs.Compared.{state_on}
use Rattle.regress_ecma.specs.Exec.{match_at, in_bytes}
use Rattle.regress_differences.specs.InEcma.{IsTreeInEcma, start_at}
use Rattle.regress_differences.specs.Reported.{is_same}

-- ---- flags

-- In the dialect `Ecma` the flag v comes with u.
pub with_u : (flags : Flags) → flags_in_force Ecma flags ≡ flags → flags.unicode_sets ≡ true → flags.unicode ≡ true
with_u flags same sets = sym (ap (λ (f : Flags). f.unicode) same) ∙ by flags.unicode flags.unicode_sets sets
  where
    by : (u v : Bool) → v ≡ true → (u || v) ≡ true
    by true v e = refl
    by false v e = e

pub same_force : (flags : Flags) → (flags.unicode_sets && not flags.unicode) ≡ false → flags_in_force Ecma flags ≡ flags
same_force flags none = ap (λ (u : Bool). record flags { unicode = u }) (by flags.unicode flags.unicode_sets none)
  where
    by : (u v : Bool) → (v && not u) ≡ false → (u || v) ≡ u
    by true v e = refl
    by false true e = absurd (false≢true (sym e))
    by false false e = refl

-- Without u the flag v is none of the dialect `Ecma`.
pub other_force : (flags : Flags) → (flags.unicode_sets && not flags.unicode) ≡ true → flags_in_force Ecma flags ≢ flags
other_force flags lacks = λ (same : flags_in_force Ecma flags ≡ flags).
    let parts = and_parts flags.unicode_sets (not flags.unicode) lacks in
    false≢true (sym (ap not (with_u flags same parts.0)) ∙ parts.1)

-- ---- equal trees

pub same_tree : ((t : Tree) → decode (encode t) ≡ t) → (t u : Tree) → is_same t u ≡ true → t ≡ u
same_tree law t u e = sym (law t) ∙ ap decode (same_text (encode t) (encode u) (sym e)) ∙ law u

pub other_tree : (t u : Tree) → is_same t u ≡ false → t ≢ u
other_tree t u e = λ (same : t ≡ u). other_text (encode t) (encode u) (sym e) (ap encode same)

module _ (table : Table) (source : Source) where
  abbrev under : Flags → Setting
  under flags = record { flags = flags; table = table }

  -- The tree of the pattern that is accepted in the dialect `Ecma`.
  pub is_tree : (flags force : Flags) → flags_in_force Ecma flags ≡ force → force ≡ flags → (t u : Tree) →
      ((p : Pattern) × IsAcceptedIn Ecma (under force) source p × (u ≡ tree_of table p)) → t ≡ u → IsTreeInEcma (under flags) source t
  is_tree flags force in_force same t u (p, accepted, is) e = record {
    flags = in_force ∙ same;
    pattern = p;
    accepted = subst (λ (f : Flags). IsAcceptedIn Ecma (under f) source p) same accepted;
    same = sym is ∙ sym e;
  }

  -- Another tree is not.
  pub is_no_tree : (flags force : Flags) → force ≡ flags → (t u : Tree) → OneIsDerivedIn Ecma (under force) source →
      ((p : Pattern) × IsAcceptedIn Ecma (under force) source p × (u ≡ tree_of table p)) → t ≢ u → IsTreeInEcma (under flags) source t → ⊥
  is_no_tree flags force same t u only (p, accepted, is) other h =
      let accepted' : IsAcceptedIn Ecma (under force) source h.pattern =
      subst (λ (f : Flags). IsAcceptedIn Ecma (under f) source h.pattern) (sym same) h.accepted in
      other (sym h.same ∙ ap (tree_of table) (sym (only p h.pattern accepted.derived accepted'.derived)) ∙ sym is)

  pub none_accepted : (flags force : Flags) → force ≡ flags → NoneIsAcceptedIn Ecma (under force) source → NoneIsAcceptedIn Ecma (under flags) source
  none_accepted flags force same = subst (λ (f : Flags). NoneIsAcceptedIn Ecma (under f) source) same

  pub means_of : (flags force : Flags) → force ≡ flags → (t u : Tree) → t ≡ u → OfAcceptedIn Ecma (under force) source (Means (under force) u) →
      OfAcceptedIn Ecma (under flags) source (Means (under flags) t)
  means_of flags force same t u e means =
      subst (λ (f : Flags). OfAcceptedIn Ecma (under f) source (Means (under f) t)) same
      (subst (λ (v : Tree). OfAcceptedIn Ecma (under force) source (Means (under force) v)) (sym e) means)

  -- The nodes of the pattern with their spans.
  pub paired_under : (flags force : Flags) → force ≡ flags → (nodes : List (Tree × Span)) →
      (p : Pattern) × (accepted : IsAcceptedIn Ecma (under force) source p) × (nodes ≡ spanned_in Ecma (under force) source p accepted.derived) →
      (p : Pattern) × (accepted : IsAcceptedIn Ecma (under flags) source p) × (nodes ≡ spanned_in Ecma (under flags) source p accepted.derived)
  paired_under flags force same nodes =
      subst (λ (f : Flags). (p : Pattern) × (accepted : IsAcceptedIn Ecma (under f) source p) × (nodes ≡ spanned_in Ecma (under f) source p accepted.derived)) same

-- ---- matches

-- The first outcome of a tree with the meaning of a pattern, if ECMA-262 has that of the pattern.
pub first_outcome : (setting : Setting) (p q : Pattern) (t : Tree) → Means setting t p → (text : List ℕ) → IsText text →
    (index : ℕ) → index ≤ length text →
    match_at setting q text index ≡ option_map (state_on text) (slice_get (meaning setting text forwards p (start_at p index)) 0) →
    slice_get (matches setting (encode_utf8_all text) forwards t (byte_state text (start_at p index))) 0
    ≡ option_map in_bytes (match_at setting q text index)
first_outcome setting p q t means text is_text index within returns =
    let state : IsStateOf text (start_at p index) = record {
      position = within;
      captures = All-replicate (IsCaptureOf text) (length (names p)) None tt;
    } in
    let outcomes = meaning setting text forwards p (start_at p index) in
    ap (λ xs. slice_get xs 0) (means text (start_at p index) is_text state)
    ∙ slice_get-map (byte_state text) outcomes 0
    ∙ sym (both_ways (slice_get outcomes 0))
    ∙ ap (option_map in_bytes) (sym returns)
  where
    both_ways : (r : Option Steps.MatchState) → option_map in_bytes (option_map (state_on text) r) ≡ option_map (byte_state text) r
    both_ways None = refl
    both_ways (Some s) = refl
