-- What the dialect gives, and what ECMA-262's matchers return.
use Rattle.std.proofs.Common.{arith, ◌-◌, ◌≡◌, ℕ, zero, suc, ◌+◌, ◌<◌, ◌≤◌, ◌==◌, Bool, true, false, not, ◌&&◌, ◌||◌, List, [], ◌∷◌, ◌++◌, length, slice_get, Option, Some, None, option_map, All, if◌then◌else◌, refl, sym, ap, ap₂, subst, ◌∙◌}
use Rattle.std.proofs.Math.ListN.{replicate}
use Rattle.std.proofs.lemmas.Bool.{false≢true, ne_eqb}
use Rattle.std.proofs.lemmas.List.Elements.{All-nil, All-cons}
use Rattle.regress_base.specs.Classes.{line_terminators}
use Rattle.regress_base.specs.Intervals.{is_member}
use Rattle.regress_base.specs.Table.{Table, denotes}
use Rattle.regress_base.specs.declared.charclasses.CharacterClassType.{CharacterClassType}
use Rattle.regress_base.specs.declared.types.AnchorType.{AnchorType}
use Rattle.regress_base.specs.declared.types.AnchorType.TheVariants.{StartOfLine, EndOfLine}
use Rattle.regress_base.specs.declared.types.Flags.{Flags}
use Rattle.regress_base.specs.declared.types.Quantifier.{Quantifier}
use Rattle.regress_tree.specs.Assertions.{differ, is_line_terminator, at_anchor, at_boundary}
use Rattle.regress_tree.specs.Reading.{Direction, forwards, backwards, of_characters}
use Rattle.regress_tree.specs.References.{back_reference as back_reference_steps}
use Rattle.regress_tree.specs.Steps as Steps
use Rattle.regress_tree.specs.Steps.{IsStateOf, IsCaptureOf, hold_at, dedup, ◌then_◌, Setting}
use Rattle.regress_lexer.specs.Source.{IsCodePoint}
use Rattle.regress_classes.specs.ClassProductions.{members_of}
use Rattle.regress_classes.specs.ClassSets.{Value, has_strings}
use Rattle.regress_syntax.specs.Meaning.{is_in_class, along, any_reference, is_literal, is_any, is_in_word, atom_steps, pattern_steps, terms_steps, item_steps, quantified_steps, meaning}
use Rattle.regress_syntax.specs.Syntax.{Name, names, Atom, literal, dot, anchor, boundary, class_escape, class, class_set, string_property, back_reference, by_number, by_name, by_name_if_set, Group, grouping, modified, capture, look, Pattern, Terms, Item, one, either, no_terms, more_terms, atom, group, Counts, counts, counts_of_group, counts_of_quantifier, counts_of_item, counts_of_term, counts_of_terms, added, names_of_group, names_of_terms, names_of_item, groups_named}
use Rattle.regress_ecma.specs.Notation.{CharSet, failure, Matcher}
use Rattle.regress_ecma.specs.Characters.{character_class_escape, character_complement, word_characters}
use Rattle.regress_ecma.specs.Repetition.{match_two_alternatives, match_sequence}
use Rattle.regress_ecma.specs.CharacterMatchers.{is_same, backreference_matcher}
use Rattle.regress_ecma.specs.Assertions.{is_in_at, index_before, is_word_char, accept, compile_anchor, compile_boundary}
use Rattle.regress_ecma.specs.Atoms.{compile_atom}
use Rattle.regress_ecma.specs.Compile.{compile_pattern, quantified, flags_inside, compile_disjunction, compile_alternative, compile_term}
use Rattle.regress_ecma.specs.Differences.{HasCaseDataOfUnicode, flags_of, IsInOrder, IsProper, AreProper, IsProperItem, is_words, differs_in_case, differs_at_atom, differs, differs_in_terms, differs_in_item}
use Rattle.regress_ecma.specs.Compared.{state_on, IsComparable}
use Rattle.regress_ecma.proofs.Bridge.{first_result, Agrees, Agrees-empty, Agrees-or, Agrees-then, Agrees-repeat}
use Rattle.regress_ecma.proofs.Groups.{Agrees-capture, Agrees-look, Agrees-hold}
use Rattle.regress_ecma.proofs.BackReferences.{Agrees-back_reference}
use Rattle.regress_ecma.proofs.Strings.{Agrees-strings, Agrees-no_strings}
use Rattle.regress_ecma.proofs.IgnoredCase.{class_in_case, escape_in_case}
use Rattle.regress_ecma.proofs.CharacterSets.{IsSetOf, Agrees-character, passes-after, passes-before}
use Rattle.regress_ecma.proofs.Sets.{same-literal, literal_set, dot_is_set, word_member, class_is_set, complement_is_set, escape_is_set}

or-none : (a b : Bool) → (a || b) ≡ false → (a ≡ false) × (b ≡ false)
or-none true b e = absurd (false≢true (sym e))
or-none false b e = (refl, e)

-- ---- assertions

module _ (text : List ℕ) (is_text : All IsCodePoint text) (d : Direction) where
  pub Agrees-anchor : (rer : Flags) (kind : AnchorType) →
      Agrees text d (hold_at (at_anchor (of_characters text) kind rer.multiline)) (compile_anchor rer kind)
  Agrees-anchor rer StartOfLine =
      Agrees-hold text d _ (λ x. (x.end_index == 0) || (rer.multiline && is_in_at line_terminators x.input (index_before x.end_index)))
      (λ s in'. ap (λ (b : Bool). (s.position == 0) || (rer.multiline && b)) (passes-before text is_text line_terminators is_line_terminator (λ ch h. refl) s.position))
  Agrees-anchor rer EndOfLine =
      Agrees-hold text d _ (λ x. (x.end_index == length x.input) || (rer.multiline && is_in_at line_terminators x.input (Some x.end_index)))
      (λ s in'. ap (λ (b : Bool). (s.position == length text) || (rer.multiline && b)) (passes-after text is_text line_terminators is_line_terminator (λ ch h. refl) s.position))

  boundary_test : (inverted a b : Bool) →
      (if inverted then not ((a && not b) || (not a && b)) else ((a && not b) || (not a && b))) ≡ differ inverted (differ a b)
  boundary_test true true true = refl
  boundary_test true true false = refl
  boundary_test true false true = refl
  boundary_test true false false = refl
  boundary_test false true true = refl
  boundary_test false true false = refl
  boundary_test false false true = refl
  boundary_test false false false = refl

  pub Agrees-boundary : (table : Table) (rer : Flags) (is_word : ℕ → Bool) → ((ch : ℕ) → IsCodePoint ch → is_member (word_characters table rer) ch ≡ is_word ch) →
      (inverted : Bool) → Agrees text d (hold_at (at_boundary (of_characters text) is_word inverted)) (compile_boundary table rer inverted)
  Agrees-boundary table rer is_word same inverted =
      Agrees-hold text d _
      (λ x.
      let a : Bool = is_word_char table rer x.input (index_before x.end_index) in
      let b : Bool = is_word_char table rer x.input (Some x.end_index) in
      let is_boundary : Bool = (a && not b) || (not a && b) in
      if inverted then not is_boundary else is_boundary)
      (λ s in'.
      boundary_test inverted (is_word_char table rer text (index_before s.position)) (is_word_char table rer text (Some s.position))
      ∙ ap₂ (λ (a b : Bool). differ inverted (differ a b)) (passes-before text is_text (word_characters table rer) is_word same s.position)
      (passes-after text is_text (word_characters table rer) is_word same s.position))

module _ (setting : Setting) (maps : HasCaseDataOfUnicode setting.table) (with_u : setting.flags.unicode_sets ≡ true → setting.flags.unicode ≡ true)
    (all : List (Option Name)) (text : List ℕ) (is_text : All IsCodePoint text) (fuel : ℕ) (enough : length text < fuel) where
  -- the flags that no group changes
  pub record HasFlagsOf (rer : Flags) : Type 0 where
    pub unicode : rer.unicode ≡ setting.flags.unicode
    pub unicode_sets : rer.unicode_sets ≡ setting.flags.unicode_sets

  pub with_u_in : (rer : Flags) → HasFlagsOf rer → rer.unicode_sets ≡ true → rer.unicode ≡ true
  with_u_in rer flags v = flags.unicode ∙ with_u (sym flags.unicode_sets ∙ v)

  -- The comparison of the dialect is that of ECMA-262.
  compared : (rer : Flags) → HasFlagsOf rer → (a b : ℕ) → is_same setting.table rer a b ≡ denotes setting.table rer.icase setting.flags.unicode a b
  compared rer flags a b =
      same-literal setting.table maps rer (with_u_in rer flags) a b ∙ ap (λ (u : Bool). denotes setting.table rer.icase u a b) flags.unicode

  reference_agrees : (rer : Flags) → HasFlagsOf rer → (d : Direction) (n : ℕ) →
      Agrees text d (back_reference_steps d (of_characters text) (denotes setting.table rer.icase setting.flags.unicode) (n - 1))
      (backreference_matcher setting.table rer (n ∷ []) d)
  reference_agrees rer flags d n =
      Agrees-back_reference setting.table rer text (denotes setting.table rer.icase setting.flags.unicode) (compared rer flags) d n

  named_agrees : (rer : Flags) → HasFlagsOf rer → (d : Direction) (name : Name) (ns : List ℕ) → groups_named name 1 all ≡ ns → not (length ns == 1) ≡ false →
      Agrees text d
      (any_reference (λ k. back_reference_steps d (of_characters text) (denotes setting.table rer.icase setting.flags.unicode) (k - 1)) (groups_named name 1 all))
      (backreference_matcher setting.table rer (groups_named name 1 all) d)
  named_agrees rer flags d name [] is none = absurd (false≢true (sym none))
  named_agrees rer flags d name (n ∷ []) is none =
      subst
      (λ (ms : List ℕ). Agrees text d
      (any_reference (λ k. back_reference_steps d (of_characters text) (denotes setting.table rer.icase setting.flags.unicode) (k - 1)) ms)
      (backreference_matcher setting.table rer ms d))
      (sym is) (reference_agrees rer flags d n)
  named_agrees rer flags d name (n ∷ k ∷ ns) is none = absurd (several (length ns) none)
    where
      several : (l : ℕ) → not (suc (suc l) == 1) ≡ false → ⊥
      several l e =
          let no : (suc (suc l) == 1) ≡ false = ne_eqb (suc (suc l)) 1 (omega arith) in
          false≢true (sym e ∙ ap not no)

  class_set_agrees : (d : Direction) (rer : Flags) → HasFlagsOf rer → rer.icase ≡ false → (negated : Bool) (value : Value) → (negated && has_strings value) ≡ false →
      Agrees text d (atom_steps setting all text d (class_set rer negated value)) (compile_atom setting.table all rer d (class_set rer negated value))
  class_set_agrees d rer flags plain false value none =
      Agrees-strings setting.table rer text is_text d (denotes setting.table rer.icase setting.flags.unicode)
      (λ c ch h. literal_set setting.table maps rer (with_u_in rer flags) c ch h ∙ ap (λ (u : Bool). denotes setting.table rer.icase u c ch) flags.unicode)
      value.strings value.members (is_in_class setting.table rer false value.members)
      (class_is_set setting.table maps rer (with_u_in rer flags) plain false value.members) value.has_empty
  class_set_agrees d rer flags plain true value none =
      let parts = or-none (not (length value.strings == 0)) value.has_empty none in
      Agrees-no_strings setting.table rer text is_text d (denotes setting.table rer.icase setting.flags.unicode)
      value.strings parts.0 (character_complement setting.table rer value.members) (is_in_class setting.table rer true value.members)
      (complement_is_set setting.table maps rer (with_u_in rer flags) plain value.members) value.has_empty parts.1

  escape_set : (rer : Flags) → HasFlagsOf rer → (kind : CharacterClassType) (negated : Bool) → differs_at_atom all rer (class_escape rer kind negated) ≡ false →
      IsSetOf setting.table rer (character_class_escape setting.table rer kind negated) false (is_in_class setting.table rer negated (members_of kind))
  escape_set rer flags kind negated none = by_test rer.icase refl none
    where
      by_test : (i : Bool) → rer.icase ≡ i → (i && (not rer.unicode && is_words kind)) ≡ false →
          IsSetOf setting.table rer (character_class_escape setting.table rer kind negated) false (is_in_class setting.table rer negated (members_of kind))
      by_test true e same = escape_in_case setting.table maps rer (with_u_in rer flags) e kind negated same
      by_test false e same = escape_is_set setting.table maps rer (with_u_in rer flags) e kind negated

  pub members_set : (rer : Flags) → HasFlagsOf rer → (inverted : Bool) (members : CharSet) → (rer.icase && differs_in_case rer members) ≡ false →
      IsSetOf setting.table rer members inverted (is_in_class setting.table rer inverted members)
  members_set rer flags inverted members none = by_test rer.icase refl none
    where
      by_test : (i : Bool) → rer.icase ≡ i → (i && differs_in_case rer members) ≡ false →
          IsSetOf setting.table rer members inverted (is_in_class setting.table rer inverted members)
      by_test true e same = class_in_case setting.table maps rer (with_u_in rer flags) e inverted members same
      by_test false e same = class_is_set setting.table maps rer (with_u_in rer flags) e inverted members

  -- ECMA-262 matches the second atom as the dialect matches the first.
  abbrev pub AtomAgrees : Direction → (a b : Atom) → Flags → Type 0
  AtomAgrees d a b rer =
      HasFlagsOf rer → differs_at_atom all rer a ≡ false →
      Agrees text d (atom_steps setting all text d a) (compile_atom setting.table all rer d b)

  pub atom_agrees : (d : Direction) (a : Atom) → AtomAgrees d a a (flags_of a)
  atom_agrees d (literal rer c) flags none =
      Agrees-character setting.table rer _ false (is_literal setting.table rer c) text is_text (literal_set setting.table maps rer (with_u_in rer flags) c) d
  atom_agrees d (dot rer) flags none =
      Agrees-character setting.table rer _ false (is_any rer) text is_text (dot_is_set setting.table maps rer (with_u_in rer flags)) d
  atom_agrees d (anchor rer kind) flags none = Agrees-anchor text is_text d rer kind
  atom_agrees d (boundary rer inverted) flags none =
      Agrees-boundary text is_text d setting.table rer (is_in_word setting.table rer)
      (λ ch le. word_member setting.table maps rer (with_u_in rer flags) ch le) inverted
  atom_agrees d (class_escape rer kind negated) flags none =
      Agrees-character setting.table rer _ false _ text is_text (escape_set rer flags kind negated none) d
  atom_agrees d (class rer inverted members) flags none =
      Agrees-character setting.table rer members inverted _ text is_text (members_set rer flags inverted members none) d
  atom_agrees d (class_set rer negated value) flags none =
      let parts = or-none rer.icase (negated && has_strings value) none in
      class_set_agrees d rer flags parts.0 negated value parts.1
  atom_agrees d (string_property rer written) flags none = absurd (false≢true (sym none))
  atom_agrees d (back_reference rer (by_number n)) flags none = reference_agrees rer flags d n
  atom_agrees d (back_reference rer (by_name name)) flags none = named_agrees rer flags d name (groups_named name 1 all) refl none
  atom_agrees d (back_reference rer (by_name_if_set name)) flags none = absurd (false≢true (sym none))

  quantified_agrees : (d : Direction) (q : Option Quantifier) → IsInOrder q → (n count : ℕ) (f : Steps.Matcher) (m : Matcher) → Agrees text d f m →
      Agrees text d (quantified_steps (length text) q n (n + count) f) (quantified fuel n count q m)
  quantified_agrees d None order n count f m agrees = agrees
  quantified_agrees d (Some q) order n count f m agrees = Agrees-repeat text d f m agrees n count q order fuel enough

  flags_inside-same : (kind : Group) (rer : Flags) → HasFlagsOf rer → HasFlagsOf (flags_inside kind rer)
  flags_inside-same grouping rer flags = flags
  flags_inside-same (modified change) rer flags = record { unicode = flags.unicode; unicode_sets = flags.unicode_sets }
  flags_inside-same (capture name) rer flags = flags
  flags_inside-same (look negate direction) rer flags = flags

  sequence_agrees : (d : Direction) (f g : Steps.Matcher) (m k : Matcher) → Agrees text d f m → Agrees text d g k →
      Agrees text d (along d f g) (match_sequence m k d)
  sequence_agrees forwards f g m k first second = Agrees-then text forwards f g m k first second
  sequence_agrees backwards f g m k first second = Agrees-then text backwards g f k m second first

  -- ---- syntax trees with like atoms

  abbrev pub IsLikeAtom : Atom → Atom → Type 0
  IsLikeAtom a b = (d : Direction) → AtomAgrees d a b (flags_of a)

  mutual
    pub data IsLike : Pattern → Pattern → Type 0 where
      like_one : (ts us : Terms) → AreLike ts us → IsLike (one ts) (one us)
      like_either : (ts us : Terms) (p q : Pattern) → AreLike ts us → IsLike p q → IsLike (either ts p) (either us q)

    pub data AreLike : Terms → Terms → Type 0 where
      like_none : AreLike no_terms no_terms
      like_more : (x y : Item) (q : Option Quantifier) (ts us : Terms) → IsLikeItem x y → AreLike ts us →
          AreLike (more_terms x q ts) (more_terms y q us)

    pub data IsLikeItem : Item → Item → Type 0 where
      like_atom : (a b : Atom) → IsLikeAtom a b → IsLikeItem (atom a) (atom b)
      like_group : (kind : Group) (p q : Pattern) → IsLike p q → IsLikeItem (group kind p) (group kind q)

  mutual
    pub like-refl : (p : Pattern) → IsLike p p
    like-refl (one ts) = like_one ts ts (terms-refl ts)
    like-refl (either ts p) = like_either ts ts p p (terms-refl ts) (like-refl p)

    terms-refl : (ts : Terms) → AreLike ts ts
    terms-refl no_terms = like_none
    terms-refl (more_terms x q ts) = like_more x x q ts ts (item-refl x) (terms-refl ts)

    item-refl : (x : Item) → IsLikeItem x x
    item-refl (atom a) = like_atom a a (λ d. atom_agrees d a)
    item-refl (group kind p) = like_group kind p p (like-refl p)

  mutual
    counts_like : (p q : Pattern) → IsLike p q → counts q ≡ counts p
    counts_like _ _ (like_one ts us terms) = counts_like_terms ts us terms
    counts_like _ _ (like_either ts us p q terms others) =
        ap₂ added (counts_like_terms ts us terms) (counts_like p q others)

    counts_like_terms : (ts us : Terms) → AreLike ts us → counts_of_terms us ≡ counts_of_terms ts
    counts_like_terms _ _ like_none = refl
    counts_like_terms _ _ (like_more x y q ts us item others) =
        ap₂ (λ (a b : Counts). added (added a (counts_of_quantifier q)) b) (counts_like_item x y item) (counts_like_terms ts us others)

    counts_like_item : (x y : Item) → IsLikeItem x y → counts_of_item y ≡ counts_of_item x
    counts_like_item _ _ (like_atom a b like) = refl
    counts_like_item _ _ (like_group kind p q like) = ap (added (counts_of_group kind)) (counts_like p q like)

  mutual
    pub names_like : (p q : Pattern) → IsLike p q → names q ≡ names p
    names_like _ _ (like_one ts us terms) = names_like_terms ts us terms
    names_like _ _ (like_either ts us p q terms others) =
        ap₂ (λ (a b : List (Option Name)). a ++ b) (names_like_terms ts us terms) (names_like p q others)

    names_like_terms : (ts us : Terms) → AreLike ts us → names_of_terms us ≡ names_of_terms ts
    names_like_terms _ _ like_none = refl
    names_like_terms _ _ (like_more x y q ts us item others) =
        ap₂ (λ (a b : List (Option Name)). a ++ b) (names_like_item x y item) (names_like_terms ts us others)

    names_like_item : (x y : Item) → IsLikeItem x y → names_of_item y ≡ names_of_item x
    names_like_item _ _ (like_atom a b like) = refl
    names_like_item _ _ (like_group kind p q like) =
        ap (λ (a : List (Option Name)). names_of_group kind ++ a) (names_like p q like)

  -- ---- patterns

  mutual
    pub pattern_agrees : (rer : Flags) → HasFlagsOf rer → (d : Direction) (n : ℕ) (p p' : Pattern) → IsLike p p' → IsProper rer p →
        differs all rer p ≡ false →
        Agrees text d (pattern_steps setting all text d n p) (compile_disjunction setting.table all fuel rer d n p')
    pattern_agrees rer flags d n _ _ (like_one ts us terms) proper none = terms_agree rer flags d n ts us terms proper none
    pattern_agrees rer flags d n _ _ (like_either ts us p p' terms others) proper none =
        let both = or-none (differs_in_terms all rer ts) (differs all rer p) none in
        subst
        (λ (k : Counts). Agrees text d (pattern_steps setting all text d n (either ts p))
        (match_two_alternatives (compile_alternative setting.table all fuel rer d n us)
        (compile_disjunction setting.table all fuel rer d (n + k.groups) p')))
        (sym (counts_like_terms ts us terms))
        (Agrees-or text d _ _ _ _ (terms_agree rer flags d n ts us terms proper.0 both.0)
        (pattern_agrees rer flags d (n + (counts_of_terms ts).groups) p p' others proper.1 both.1))

    terms_agree : (rer : Flags) → HasFlagsOf rer → (d : Direction) (n : ℕ) (ts us : Terms) → AreLike ts us → AreProper rer ts →
        differs_in_terms all rer ts ≡ false →
        Agrees text d (terms_steps setting all text d n ts) (compile_alternative setting.table all fuel rer d n us)
    terms_agree rer flags d n _ _ like_none proper none = Agrees-empty text d
    terms_agree rer flags d n _ _ (like_more x y q ts us item others) proper none =
        let both = or-none (differs_in_item all rer x) (differs_in_terms all rer ts) none in
        subst
        (λ (k : Counts). Agrees text d (terms_steps setting all text d n (more_terms x q ts))
        (match_sequence (quantified fuel n k.groups q (compile_term setting.table all fuel rer d n y))
        (compile_alternative setting.table all fuel rer d (n + (added k (counts_of_quantifier q)).groups) us) d))
        (sym (counts_like_item x y item))
        (sequence_agrees d _ _ _ _
        (quantified_agrees d q proper.1 n (counts_of_item x).groups _ _ (item_agrees rer flags d n x y item proper.0 both.0))
        (terms_agree rer flags d (n + (counts_of_term x q).groups) ts us others proper.2 both.1))

    item_agrees : (rer : Flags) → HasFlagsOf rer → (d : Direction) (n : ℕ) (x y : Item) → IsLikeItem x y → IsProperItem rer x →
        differs_in_item all rer x ≡ false →
        Agrees text d (item_steps setting all text d n x) (compile_term setting.table all fuel rer d n y)
    item_agrees rer flags d n _ _ (like_atom a b like) proper none = subst (AtomAgrees d a b) proper (like d) flags none
    item_agrees rer flags d n _ _ (like_group grouping p p' like) proper none =
        pattern_agrees rer flags d (n + 0) p p' like proper none
    item_agrees rer flags d n _ _ (like_group (modified change) p p' like) proper none =
        pattern_agrees (flags_inside (modified change) rer) (flags_inside-same (modified change) rer flags) d (n + 0) p p' like proper none
    item_agrees rer flags d n _ _ (like_group (capture name) p p' like) proper none =
        Agrees-capture text d _ _ (pattern_agrees rer flags d (n + 1) p p' like proper none) n
    item_agrees rer flags d n _ _ (like_group (look negate direction) p p' like)
        proper none =
        Agrees-look text d direction _ _ (pattern_agrees rer flags direction (n + 0) p p' like proper none) negate

-- The first outcome of the pattern, if there is one.
pub first_accepted : (text : List ℕ) (states : List Steps.MatchState) →
    first_result text accept states ≡ option_map (state_on text) (slice_get (dedup states) 0)
first_accepted text [] = refl
first_accepted text (s ∷ states) = refl

-- The first outcome of the pattern is the match of one with like atoms.
pub like_outcome : (setting : Setting) (p p' : Pattern) (comparable : IsComparable setting p) (text : List ℕ) (is_text : All IsCodePoint text)
    (fuel : ℕ) (enough : length text < fuel) →
    IsLike setting comparable.maps comparable.with_u (names p) text is_text fuel enough p p' → (d : Direction) (s : Steps.MatchState) → IsStateOf text s →
    compile_disjunction setting.table (names p) fuel setting.flags d 0 p' (state_on text s) accept
    ≡ option_map (state_on text) (slice_get (meaning setting text d p s) 0)
like_outcome setting p p' comparable text is_text fuel enough like d s in' =
    let agrees =
    pattern_agrees setting comparable.maps comparable.with_u (names p) text is_text fuel enough setting.flags
    (record { unicode = refl; unicode_sets = refl }) d 0 p p' like comparable.proper comparable.same in
    agrees.same s in' accept ∙ first_accepted text (pattern_steps setting (names p) text d 0 p s)

pub first_outcome : (setting : Setting) (p : Pattern) → IsComparable setting p → (text : List ℕ) → All IsCodePoint text →
    (fuel : ℕ) → length text < fuel → (d : Direction) (s : Steps.MatchState) → IsStateOf text s →
    compile_disjunction setting.table (names p) fuel setting.flags d 0 p (state_on text s) accept
    ≡ option_map (state_on text) (slice_get (meaning setting text d p s) 0)
first_outcome setting p comparable text is_text fuel enough d s in' =
    like_outcome setting p p comparable text is_text fuel enough
    (like-refl setting comparable.maps comparable.with_u (names p) text is_text fuel enough p) d s in'

head_of_none : (outcomes : List Steps.MatchState) (text : List ℕ) → option_map (state_on text) (slice_get outcomes 0) ≡ None → outcomes ≡ []
head_of_none [] text e = refl
head_of_none (s ∷ outcomes) text e = absurd (cc)

pub none_at_all : (setting : Setting) (p : Pattern) → IsComparable setting p → (text : List ℕ) → All IsCodePoint text →
    (fuel : ℕ) → length text < fuel → (d : Direction) (s : Steps.MatchState) → IsStateOf text s →
    compile_disjunction setting.table (names p) fuel setting.flags d 0 p (state_on text s) accept ≡ failure →
    meaning setting text d p s ≡ []
none_at_all setting p comparable text is_text fuel enough d s in' fails =
    head_of_none (meaning setting text d p s) text (sym (first_outcome setting p comparable text is_text fuel enough d s in') ∙ fails)

pub unset_everywhere : (text : List ℕ) (n : ℕ) → All (IsCaptureOf text) (replicate n None)
unset_everywhere text zero = All-nil (IsCaptureOf text)
unset_everywhere text (suc n) = All-cons (IsCaptureOf text) None (replicate n None) tt (unset_everywhere text n)

pub pattern_outcome : (setting : Setting) (p : Pattern) → IsComparable setting p → (text : List ℕ) → All IsCodePoint text →
    (fuel : ℕ) → length text < fuel → (index : ℕ) → index ≤ length text →
    compile_pattern fuel setting.table setting.flags p text index
    ≡ option_map (state_on text) (slice_get (meaning setting text forwards p (record { position = index; captures = replicate (length (names p)) None })) 0)
pattern_outcome setting p comparable text is_text fuel enough index within =
    first_outcome setting p comparable text is_text fuel enough forwards _
    (record { position = within; captures = unset_everywhere text (length (names p)) })
