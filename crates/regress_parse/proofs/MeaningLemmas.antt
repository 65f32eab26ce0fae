-- The tree of a pattern has the meaning of the pattern.
use Rattle.std.proofs.Common.{◌≡◌, ℕ, ◌+◌, ◌-◌, Bool, true, false, cond, not, ◌&&◌, ◌||◌, ◌==◌, List, [], ◌∷◌, ◌++◌, append-nil, append_assoc, length, Option, Some, None, encode_utf8_all, refl, sym, ap, subst, ◌∙◌, arith}
use Rattle.std.proofs.lemmas.Bool.Decides.{nat_tests}
use Rattle.regress_base.specs.Brackets.{is_accepted}
use Rattle.regress_base.specs.Intervals.{Bounds, is_member, intervals_of}
use Rattle.regress_tree.specs.Reading.{Direction, Read, next_character, forwards, backwards, IsText, of_characters, of_bytes}
use Rattle.regress_tree.specs.Steps.{MatchState, Matcher, byte_state, dedup, stay, fail, moved, ◌or_◌, one_character, Setting}
use Rattle.regress_base.specs.Listing.{lists}
use Rattle.regress_tree.specs.References as References
use Rattle.regress_tree.specs.Matching.{steps, steps_of_parts}
use Rattle.regress_tree.specs.References.{any_string}
use Rattle.regress_tree.specs.Assertions.{is_line_terminator, is_word_character, differ}
use Rattle.regress_base.specs.declared.types.Quantifier.{Quantifier}
use Rattle.regress_base.specs.Table.{class_of}
use Rattle.regress_base.specs.Table.{denotes}
use Rattle.regress_tree.specs.Tree.{list, Tree, Trees, leaf, no_trees, more_trees, empty, match_any, match_any_except_line_terminator, char, char_set, bracket, back_ref, string_set}
use Rattle.regress_syntax.specs.Syntax.{Atom, literal, dot, anchor, boundary, class_escape, class, class_set, string_property, back_reference, is_joined, Group, grouping, modified, capture, look, Name, Pattern, Terms, Item, one, either, no_terms, more_terms, atom, group, opened_by, counts_of_item, counts_of_term, counts_of_terms, names, direction_of_group}
use Rattle.regress_syntax.specs.Meaning.{is_in_class, longest_first, along, group_steps, referred, any_reference, each_reference, reference_steps, quantified_steps, atom_steps, pattern_steps, terms_steps, item_steps}
use Rattle.regress_classes.specs.ClassProductions.{members_of}
use Rattle.regress_classes.specs.ClassSets.{Value, has_strings}
use Rattle.regress_parse.specs.ClassParts.{strings_part, bracket_part, empty_part}
use Rattle.regress_parse.proofs.ClassTreeLemmas.{tree_of_class-parts}
use Rattle.regress_parse.specs.TreeOf.{concatenation, tree_of_group, tree_of_quantified, leaf_of_members, references, alternation, tree_of_references, tree_of_class, tree_of_atom, tree_of_pattern, trees_of_terms, tree_of_item, tree_of, in_direction}
use Rattle.regress_parse.specs.Accepted.{Means}
use Rattle.regress_tree.proofs.lemmas.Assertions.{Simulates-anchor, Simulates-boundary}
use Rattle.regress_tree.proofs.lemmas.Classes.{agreeing_simulates, is_accepted-scalar}
use Rattle.regress_tree.proofs.lemmas.Literals.{class_simulates, char_simulates}
use Rattle.regress_tree.proofs.lemmas.References.{Simulates-back_reference}
use Rattle.regress_tree.proofs.lemmas.Repetition.{Simulates-repeat}
use Rattle.regress_tree.proofs.lemmas.ByteStates.{distinct-byte_state}
use Rattle.regress_tree.proofs.lemmas.Outcomes.{flat_map-stay}
use Rattle.regress_tree.proofs.lemmas.Simulation.{Simulates, Simulates-within, Simulates-same_right, Simulates-stay, Simulates-fail, Simulates-then, Simulates-or, Simulates-one_character, Simulates-capture, Simulates-look}
use Rattle.regress_tree.proofs.lemmas.Strings.{Simulates-any_string}
use Rattle.regress_tree.proofs.lemmas.ReversedParts.{steps-reverse_trees}

module _ (setting : Setting) (bytes : List ℕ) (d : Direction) where
  -- Reversing a list of one tree changes nothing.
  steps-reversed_one : (e : Direction) (t : Tree) (s : MatchState) →
      steps_of_parts setting bytes d (in_direction e (more_trees t no_trees)) s ≡ steps setting bytes d t s
  steps-reversed_one forwards t s = flat_map-stay (steps setting bytes d t s)
  steps-reversed_one backwards t s = flat_map-stay (steps setting bytes d t s)

  steps-reversed_none : (e : Direction) (s : MatchState) → steps_of_parts setting bytes d (in_direction e no_trees) s ≡ stay s
  steps-reversed_none forwards s = refl
  steps-reversed_none backwards s = refl

  -- A list joined to one tree matches what the list does, in the order of the direction.
  steps-joined : (e : Direction) (list : Trees) (s : MatchState) →
      steps setting bytes d (concatenation e list) s ≡ steps_of_parts setting bytes d (in_direction e list) s
  steps-joined e no_trees s = sym (steps-reversed_none e s)
  steps-joined e (more_trees t no_trees) s = sym (steps-reversed_one e t s)
  steps-joined e (more_trees t (more_trees u us)) s = refl

  -- The parts of a list match in the order of the direction.
  steps-reversed : (e : Direction) (t : Tree) (ts : Trees) (s : MatchState) →
      steps_of_parts setting bytes d (in_direction e (more_trees t ts)) s
      ≡ along e (steps setting bytes d t) (steps_of_parts setting bytes d (in_direction e ts)) s
  steps-reversed forwards t ts s = refl
  steps-reversed backwards t ts s = steps-reverse_trees setting bytes d t ts s

Simulates-along : (text : List ℕ) (d e : Direction) (f g h k : Matcher) → Simulates text e f g → Simulates text e h k →
    Simulates text e (along d f h) (along d g k)
Simulates-along text forwards e f g h k first second = Simulates-then text e f g h k first second
Simulates-along text backwards e f g h k first second = Simulates-then text e h k f g second first

module _ (setting : Setting) (text : List ℕ) where
  -- Over the bytes of the text, the tree (or the list, in the order of the direction) does what the matcher does over
  -- its characters.
  abbrev pub TreeSimulates : Direction → Matcher → Tree → Type 0
  TreeSimulates d f t = Simulates text d f (steps setting (encode_utf8_all text) d t)

  abbrev ListSimulates : Direction → Matcher → Trees → Type 0
  ListSimulates d f ts = Simulates text d f (steps_of_parts setting (encode_utf8_all text) d (in_direction d ts))

  joined_simulates : (d : Direction) (f : Matcher) (list : Trees) → ListSimulates d f list → TreeSimulates d f (concatenation d list)
  joined_simulates d f list sim = Simulates-same_right text d _ _ _ (steps-joined setting (encode_utf8_all text) d d list) sim

  none_simulate : (d : Direction) → ListSimulates d stay no_trees
  none_simulate d = Simulates-same_right text d _ _ _ (steps-reversed_none setting (encode_utf8_all text) d d) (Simulates-stay text d)

  more_simulate : (d : Direction) (f g : Matcher) (t : Tree) (ts : Trees) → TreeSimulates d f t → ListSimulates d g ts →
      ListSimulates d (along d f g) (more_trees t ts)
  more_simulate d f g t ts first others =
      Simulates-same_right text d _ _ _ (steps-reversed setting (encode_utf8_all text) d d t ts)
      (Simulates-along text d d _ _ _ _ first others)

  group_simulates : (d : Direction) (start end : ℕ) (kind : Group) (f : Matcher) (body : Tree) →
      TreeSimulates (direction_of_group kind d) f body → TreeSimulates d (group_steps start kind f) (tree_of_group start end kind body)
  group_simulates d start end grouping f body sim = sim
  group_simulates d start end (modified change) f body sim = sim
  group_simulates d start end (capture name) f body sim = Simulates-capture text d start _ _ sim
  group_simulates d start end (look negate forwards) f body sim = Simulates-look text d forwards negate _ _ sim
  group_simulates d start end (look negate backwards) f body sim = Simulates-look text d backwards negate _ _ sim

  times_simulate : (d : Direction) (q : Option Quantifier) (start end : ℕ) (f : Matcher) (body : Tree) → TreeSimulates d f body →
      TreeSimulates d (quantified_steps (length text) q start end f) (tree_of_quantified q start end body)
  times_simulate d None start end f body sim = sim
  times_simulate d (Some q) start end f body sim = Simulates-repeat text d q start end _ _ sim

module _ (setting : Setting) (text : List ℕ) (is_text : IsText text) where
  dot_simulates : (d : Direction) (dot_all : Bool) →
      TreeSimulates setting text d (one_character d (of_characters text) (λ x. dot_all || not (is_line_terminator x)))
      (leaf (cond dot_all match_any match_any_except_line_terminator))
  dot_simulates d true = Simulates-one_character text is_text d (λ x. true)
  dot_simulates d false = Simulates-one_character text is_text d (λ x. not (is_line_terminator x))

  -- The set of a literal, whatever its members are.
  module _ (d : Direction) (icase unicode : Bool) (c : ℕ) where
    set_simulates : (members : List ℕ) → class_of setting.table icase unicode c ≡ members →
        TreeSimulates setting text d (one_character d (of_characters text) (denotes setting.table icase unicode c))
        (leaf (char_set members))
    set_simulates members e =
        subst
        (λ xs.
        TreeSimulates setting text d (one_character d (of_characters text) (denotes setting.table icase unicode c)) (leaf (char_set xs)))
        e (class_simulates setting text is_text d setting.table icase unicode c)

    members_simulate : (members : List ℕ) → class_of setting.table icase unicode c ≡ members →
        TreeSimulates setting text d (one_character d (of_characters text) (denotes setting.table icase unicode c))
        (leaf (leaf_of_members members))
    members_simulate [] e = set_simulates [] e
    members_simulate (x ∷ []) e = char_simulates setting text is_text d setting.table icase unicode c x e
    members_simulate (x ∷ y ∷ rest) e = set_simulates (x ∷ y ∷ rest) e

  literal_simulates : (d : Direction) (icase unicode : Bool) (c : ℕ) →
      TreeSimulates setting text d (one_character d (of_characters text) (denotes setting.table icase unicode c))
      (leaf (cond icase (leaf_of_members (class_of setting.table true unicode c)) (char c)))
  literal_simulates d true unicode c = members_simulate d true unicode c (class_of setting.table true unicode c) refl
  literal_simulates d false unicode c = Simulates-one_character text is_text d (λ x. x == c)

  -- A bracket simulates a set, inverted or not.
  bracket_simulates : (d : Direction) (inverted : Bool) (p q : ℕ → Bool) → ((x : ℕ) → q x ≡ differ inverted (p x)) →
      TreeSimulates setting text d (one_character d (of_characters text) q) (leaf (bracket inverted (intervals_of p)))
  bracket_simulates d inverted p q e =
      agreeing_simulates text is_text d q (is_accepted inverted (intervals_of p))
      (λ x scalar_value. is_accepted-scalar inverted p x scalar_value ∙ sym (e x))

  -- The empty set has no character.
  moved-none : (s : MatchState) (found : Option Read) → moved (lists []) s found ≡ []
  moved-none s None = refl
  moved-none s (Some read) = refl

  -- ---- alternations

  -- the outcomes of the first part, then those of the next ones
  abbrev any_part : Direction → List Tree → Matcher
  any_part d [] = fail
  any_part d (t ∷ ts) = steps setting (encode_utf8_all text) d t or_ any_part d ts

  abbrev PartsSimulate : Direction → Matcher → List Tree → Type 0
  PartsSimulate d f ts = Simulates text d f (any_part d ts)

  steps-alternation : (d : Direction) (ts : List Tree) (s : MatchState) →
      steps setting (encode_utf8_all text) d (alternation ts) s ≡ any_part d ts s
  unfolding one_character
  steps-alternation d [] s = moved-none s (next_character d (of_bytes (encode_utf8_all text)) s.position)
  steps-alternation d (t ∷ []) s = sym (append-nil (steps setting (encode_utf8_all text) d t s))
  steps-alternation d (t ∷ next ∷ ts) s =
      ap (λ others. steps setting (encode_utf8_all text) d t s ++ others) (steps-alternation d (next ∷ ts) s)

  alternation_simulates : (d : Direction) (f : Matcher) (ts : List Tree) → PartsSimulate d f ts → TreeSimulates setting text d f (alternation ts)
  alternation_simulates d f ts sim = Simulates-same_right text d _ _ _ (steps-alternation d ts) sim

  one_simulates : (d : Direction) (f : Matcher) (t : Tree) → TreeSimulates setting text d f t → PartsSimulate d f (t ∷ [])
  one_simulates d f t sim =
      Simulates-same_right text d _ _ _ (λ s. append-nil (steps setting (encode_utf8_all text) d t s)) sim

  any_part-append : (d : Direction) (ts us : List Tree) (s : MatchState) → any_part d (ts ++ us) s ≡ (any_part d ts or_ any_part d us) s
  any_part-append d [] us s = refl
  any_part-append d (t ∷ ts) us s =
      ap (λ others. steps setting (encode_utf8_all text) d t s ++ others) (any_part-append d ts us s)
      ∙ sym (append_assoc (steps setting (encode_utf8_all text) d t s) (any_part d ts s) (any_part d us s))

  all_simulate : (d : Direction) (f g : Matcher) (ts us : List Tree) → PartsSimulate d f ts → PartsSimulate d g us →
      PartsSimulate d (f or_ g) (ts ++ us)
  all_simulate d f g ts us h k =
      Simulates-same_right text d _ _ _ (any_part-append d ts us) (Simulates-or text d _ _ _ _ h k)

  -- ---- references

  reference_simulates : (d : Direction) (icase : Bool) (k : ℕ) →
      TreeSimulates setting text d (References.back_reference d (of_characters text) (denotes setting.table icase setting.flags.unicode) (k - 1))
      (leaf (back_ref k icase))
  reference_simulates d icase k =
      Simulates-back_reference text is_text d (denotes setting.table icase setting.flags.unicode) (k - 1)

  references_simulate : (d : Direction) (icase : Bool) (ks : List ℕ) →
      PartsSimulate d
      (any_reference (λ k. References.back_reference d (of_characters text) (denotes setting.table icase setting.flags.unicode) (k - 1)) ks)
      (references icase ks)
  references_simulate d icase [] = Simulates-fail text d
  references_simulate d icase (k ∷ []) = one_simulates d _ (leaf (back_ref k icase)) (reference_simulates d icase k)
  references_simulate d icase (k ∷ next ∷ ks) =
      Simulates-or text d _ _ _ _ (reference_simulates d icase k) (references_simulate d icase (next ∷ ks))

  joined_references_simulate : (d : Direction) (icase : Bool) (ks : List ℕ) →
      Simulates text d
      (each_reference (λ k. References.back_reference d (of_characters text) (denotes setting.table icase setting.flags.unicode) (k - 1)) ks)
      (steps_of_parts setting (encode_utf8_all text) d (list (references icase ks)))
  joined_references_simulate d icase [] = Simulates-stay text d
  joined_references_simulate d icase (k ∷ ks) =
      Simulates-then text d _ _ _ _ (reference_simulates d icase k) (joined_references_simulate d icase ks)

  either_references_simulate : (d : Direction) (joined icase : Bool) (ks : List ℕ) →
      TreeSimulates setting text d
      (reference_steps joined (λ k. References.back_reference d (of_characters text) (denotes setting.table icase setting.flags.unicode) (k - 1)) ks)
      (tree_of_references joined (references icase ks))
  either_references_simulate d true icase ks =
      Simulates-same_right text d _ _ _ (steps-joined setting (encode_utf8_all text) d forwards (list (references icase ks)))
      (joined_references_simulate d icase ks)
  either_references_simulate d false icase ks = alternation_simulates d _ (references icase ks) (references_simulate d icase ks)

  -- ---- classes with the flag v

  strings_simulate : (d : Direction) (icase : Bool) (strings : List (List ℕ)) →
      TreeSimulates setting text d (any_string d (of_characters text) (denotes setting.table icase setting.flags.unicode) strings)
      (leaf (string_set strings icase))
  strings_simulate d icase strings = Simulates-any_string text is_text d (denotes setting.table icase setting.flags.unicode) strings

  strings_part_simulates : (d : Direction) (icase : Bool) (strings : List (List ℕ)) →
      PartsSimulate d (any_string d (of_characters text) (denotes setting.table icase setting.flags.unicode) strings)
      (strings_part icase strings)
  unfolding any_string
  strings_part_simulates d icase [] = Simulates-fail text d
  strings_part_simulates d icase (s ∷ ss) =
      one_simulates d _ (leaf (string_set (s ∷ ss) icase)) (strings_simulate d icase (s ∷ ss))

  -- An empty bracket matches no character.
  taken-none : (s : MatchState) (found : Option Read) → moved (is_accepted false []) s found ≡ []
  unfolding is_member
  taken-none s None = refl
  taken-none s (Some read) = refl

  bracket-none : (d : Direction) (s : MatchState) → steps setting (encode_utf8_all text) d (leaf (bracket false [])) s ≡ []
  unfolding one_character
  bracket-none d s = taken-none s (next_character d (of_bytes (encode_utf8_all text)) s.position)

  empty_part_simulates : (d : Direction) (has_empty : Bool) → PartsSimulate d (cond has_empty stay fail) (empty_part has_empty)
  empty_part_simulates d true = one_simulates d stay (leaf empty) (Simulates-stay text d)
  empty_part_simulates d false = Simulates-fail text d

  -- a test on characters, and the bracket that accepts the same ones
  module _ (d : Direction) (p q : ℕ → Bool) where
    abbrev BracketSimulates : Bool → List Bounds → Type 0
    BracketSimulates negated closed = TreeSimulates setting text d (one_character d (of_characters text) q) (leaf (bracket negated closed))

    bracket_part_simulates : (alone negated : Bool) (closed : List Bounds) → BracketSimulates negated closed →
        PartsSimulate d (one_character d (of_characters text) q) (bracket_part alone negated closed)
    bracket_part_simulates true negated closed sim = one_simulates d _ (leaf (bracket negated closed)) sim
    bracket_part_simulates false true closed sim = one_simulates d _ (leaf (bracket true closed)) sim
    bracket_part_simulates false false [] sim = Simulates-same_right text d _ _ _ (λ s. sym (bracket-none d s)) sim
    bracket_part_simulates false false (iv ∷ ivs) sim =
        let some : (length (iv ∷ ivs) == 0) ≡ false = grind (arith, nat_tests) in
        rw some (one_simulates d _ (leaf (bracket false (iv ∷ ivs))) sim)

    class_set_simulates : (icase negated : Bool) (value : Value) → ((x : ℕ) → q x ≡ differ negated (p x)) →
        TreeSimulates setting text d
        (any_string d (of_characters text) (denotes setting.table icase setting.flags.unicode) (longest_first value.strings)
        or_ one_character d (of_characters text) q or_ cond value.has_empty stay fail)
        (tree_of_class icase negated value (intervals_of p))
    class_set_simulates icase negated value e =
        let strings = strings_part icase (longest_first value.strings) in
        let bracket' = bracket_part (not (has_strings value)) negated (intervals_of p) in
        let empty' = empty_part value.has_empty in
        subst (TreeSimulates setting text d _) (sym (tree_of_class-parts icase negated value (intervals_of p)))
        (alternation_simulates d _ (strings ++ bracket' ++ empty')
        (all_simulate d _ _ (strings ++ bracket') empty'
        (all_simulate d _ _ strings bracket' (strings_part_simulates d icase (longest_first value.strings))
        (bracket_part_simulates (not (has_strings value)) negated (intervals_of p) (bracket_simulates d negated p q e)))
        (empty_part_simulates d value.has_empty)))

module _ (setting : Setting) (names : List (Option Name)) (text : List ℕ) (is_text : IsText text) where
  atom_simulates : (d : Direction) (a : Atom) →
      TreeSimulates setting text d (atom_steps setting names text d a) (tree_of_atom setting.table names a)
  atom_simulates d (literal flags c) = literal_simulates setting text is_text d flags.icase flags.unicode c
  atom_simulates d (dot flags) = dot_simulates setting text is_text d flags.dot_all
  atom_simulates d (anchor flags kind) = Simulates-anchor text is_text d kind flags.multiline
  atom_simulates d (boundary flags inverted) =
      Simulates-boundary text is_text d (is_word_character setting.table (flags.unicode && flags.icase)) inverted
  atom_simulates d (class_escape flags kind negated) =
      bracket_simulates setting text is_text d false (is_in_class setting.table flags negated (members_of kind)) _ (λ x. refl)
  atom_simulates d (class flags inverted members) =
      bracket_simulates setting text is_text d inverted (is_in_class setting.table flags false members) _ (λ x. refl)
  atom_simulates d (class_set flags negated value) =
      class_set_simulates setting text is_text d (is_in_class setting.table flags false value.members) _ flags.icase negated value (λ x. refl)
  atom_simulates d (string_property flags written) = strings_simulate setting text is_text d flags.icase written
  atom_simulates d (back_reference flags to) =
      either_references_simulate setting text is_text d (is_joined to) flags.icase (referred names to)

  mutual
    -- The simulation holds up to repeated outcomes, whatever is before the pattern.
    pub pattern_simulates : (d : Direction) (n : ℕ) (p : Pattern) →
        TreeSimulates setting text d (pattern_steps setting names text d n p) (tree_of_pattern setting.table names d n p)
    pattern_simulates d n (one ts) = joined_simulates setting text d _ (trees_of_terms setting.table names d n ts) (terms_simulate d n ts)
    pattern_simulates d n (either ts p) =
        Simulates-or text d _ _ _ _
        (joined_simulates setting text d _ (trees_of_terms setting.table names d n ts) (terms_simulate d n ts))
        (pattern_simulates d (n + (counts_of_terms ts).groups) p)

    terms_simulate : (d : Direction) (n : ℕ) (ts : Terms) →
        ListSimulates setting text d (terms_steps setting names text d n ts) (trees_of_terms setting.table names d n ts)
    terms_simulate d n no_terms = none_simulate setting text d
    terms_simulate d n (more_terms x q xs) =
        more_simulate setting text d _ _ (tree_of_quantified q n (n + (counts_of_item x).groups) (tree_of_item setting.table names d n x))
        (trees_of_terms setting.table names d (n + (counts_of_term x q).groups) xs)
        (times_simulate setting text d q n (n + (counts_of_item x).groups) _ (tree_of_item setting.table names d n x) (item_simulates d n x))
        (terms_simulate d (n + (counts_of_term x q).groups) xs)

    item_simulates : (d : Direction) (n : ℕ) (x : Item) →
        TreeSimulates setting text d (item_steps setting names text d n x) (tree_of_item setting.table names d n x)
    item_simulates d n (atom a) = atom_simulates d a
    item_simulates d n (group kind p) =
        group_simulates setting text d n (n + (counts_of_item (group kind p)).groups) kind _
        (tree_of_pattern setting.table names (direction_of_group kind d) (n + opened_by kind) p)
        (pattern_simulates (direction_of_group kind d) (n + opened_by kind) p)

-- On every text and from every state, the outcomes of the tree are those of the pattern, in the same order, as byte
-- offsets.
pub tree_of-means : (setting : Setting) (p : Pattern) → Means setting (tree_of setting.table p) p
tree_of-means setting p text s is_text in' =
    let body = tree_of_pattern setting.table (names p) forwards 0 p in
    let sim = pattern_simulates setting (names p) text is_text forwards 0 p in
    ap dedup (flat_map-stay (steps setting (encode_utf8_all text) forwards body (byte_state text s)) ∙ sim.same s in')
    ∙ distinct-byte_state text (pattern_steps setting (names p) text forwards 0 p s) (Simulates-within text forwards _ _ sim s in')
