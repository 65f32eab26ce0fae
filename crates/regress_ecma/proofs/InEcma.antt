-- In the dialect `Ecma` the first outcome of a pattern is the match of ECMA-262, for the syntax tree with the CharSets of
-- classes, if each atom matches the same in both.
use Rattle.std.proofs.Common.{◌≡◌, ℕ, ◌+◌, ◌-◌, ◌<◌, ◌≤◌, Bool, true, false, not, ◌&&◌, List, [], ◌∷◌, ◌++◌, length, slice_get, Option, Some, None, option_map, refl, sym, ap, ap₂, subst, ◌∙◌, arith, All}
use Rattle.std.proofs.Math.ListN.{replicate}
use Rattle.std.proofs.lemmas.Bool.{and_parts}
use Rattle.std.proofs.lemmas.List.{length-append}
use Rattle.regress_base.specs.Table.{denotes}
use Rattle.regress_base.specs.declared.types.Flags.{Flags}
use Rattle.regress_base.specs.declared.types.Quantifier.{Quantifier}
use Rattle.regress_tree.specs.Reading.{Direction, forwards, backwards}
use Rattle.regress_tree.specs.Steps as Steps
use Rattle.regress_tree.specs.Steps.{CaptureSpan, IsStateOf, Setting, ◌then_◌}
use Rattle.regress_tree.proofs.lemmas.Simulation.{IsReached}
use Rattle.regress_lexer.specs.declared.dialect.Dialect.{Dialect}
use Rattle.regress_lexer.specs.declared.dialect.Dialect.TheVariants.{Ecma}
use Rattle.regress_lexer.specs.Source.{Source, IsCodePoint}
use Rattle.regress_syntax.specs.Grammar.{IsPattern, AreTerms, IsItem}
use Rattle.regress_syntax.specs.Meaning.{along, group_steps, atom_steps, pattern_steps, terms_steps, item_steps, quantified_steps, meaning}
use Rattle.regress_syntax.specs.Productions.{Context, context_inside, single, head_of_item, allows, head_at}
use Rattle.regress_syntax.specs.SameNames.{share_name, are_names_apart, are_names_apart_in_terms, are_names_apart_in_item, NoneConflict}
use Rattle.regress_syntax.specs.Syntax.{Name, names, Atom, back_reference, by_name_if_set, Group, grouping, modified, capture, look, Pattern, Terms, Item, one, either, no_terms, more_terms, atom, group, opened_by, direction_of_group, Counts, counts, counts_of_group, counts_of_quantifier, counts_of_item, counts_of_term, counts_of_terms, added, names_of_group, names_of_terms, names_of_item, groups_named}
use Rattle.regress_ecma.specs.Notation.{Matcher}
use Rattle.regress_ecma.specs.Repetition.{match_two_alternatives, match_sequence}
use Rattle.regress_ecma.specs.CharacterMatchers.{is_same}
use Rattle.regress_ecma.specs.Assertions.{accept}
use Rattle.regress_ecma.specs.Atoms.{compile_atom}
use Rattle.regress_ecma.specs.Compile.{compile_pattern, quantified, compile_group, compile_disjunction, compile_alternative, compile_term}
use Rattle.regress_ecma.specs.CompiledClasses.{atom_of, with_char_sets, terms_with_char_sets, item_with_char_sets}
use Rattle.regress_ecma.specs.Compared.{state_on}
use Rattle.regress_ecma.specs.Differences.{HasCaseDataOfUnicode, IsInOrder}
use Rattle.regress_ecma.specs.Exec.{first_match, builtin_exec}
use Rattle.regress_ecma.proofs.Bridge.{AgreesOn, Agrees, AgreesOn-empty, AgreesOn-fewer, AgreesOn-or, AgreesOn-then, AgreesOn-repeat}
use Rattle.regress_ecma.proofs.Derived.{in_order, inside_same, reference_proper}
use Rattle.regress_ecma.proofs.Groups.{AgreesOn-capture, AgreesOn-look}
use Rattle.regress_ecma.proofs.NamedReferences.{AgreesOn-each_reference, at_most_one}
use Rattle.regress_ecma.proofs.SetGroups.{is_set, replicate-is_set, all_names, IsBefore, IsAfter, IsBetween, AreClear, clear-sym, before_part, after_part, after_both, next_part, after_untouched, after_nothing, after_returned, after_captured, between_before, between_kept, before_iteration, after_iteration, before_all, HasNames, names_left, names_right, clear_parts}
use Rattle.regress_ecma.proofs.Sets.{same-literal}
use Rattle.regress_ecma.proofs.Theorem.{first_accepted, unset_everywhere}
use Rattle.regress_ecma.proofs.lemmas.Searches.{outcome_at, exec_by_outcomes}
use Rattle.regress_ecma.proofs.Untouched.{LeavesCaptures, atom-leaves}

-- ---- the groups of a syntax tree

no_groups : (q : Option Quantifier) → (counts_of_quantifier q).groups ≡ 0
no_groups None = refl
no_groups (Some q) = refl

length_of_group : (kind : Group) → length (names_of_group kind) ≡ opened_by kind
length_of_group grouping = refl
length_of_group (modified change) = refl
length_of_group (capture name) = refl
length_of_group (look negate direction) = refl

mutual
  length-names : (p : Pattern) → length (names p) ≡ (counts p).groups
  length-names (one ts) = length-names_of_terms ts
  length-names (either ts p) =
      length-append (names_of_terms ts) (names p) ∙ ap₂ (λ (a b : ℕ). a + b) (length-names_of_terms ts) (length-names p)

  length-names_of_terms : (ts : Terms) → length (names_of_terms ts) ≡ (counts_of_terms ts).groups
  length-names_of_terms no_terms = refl
  length-names_of_terms (more_terms x q xs) =
      omega (arith, length-append (names_of_item x) (names_of_terms xs), length-names_of_item x, no_groups q, length-names_of_terms xs)

  length-names_of_item : (x : Item) → length (names_of_item x) ≡ (counts_of_item x).groups
  length-names_of_item (atom a) = refl
  length-names_of_item (group kind p) =
      length-append (names_of_group kind) (names p) ∙ ap₂ (λ (a b : ℕ). a + b) (length_of_group kind) (length-names p)

-- The CharSets of classes change neither the groups nor their names.
mutual
  counts_same : (ctx : Context) (p : Pattern) (t rest : Source) (derived : IsPattern ctx p t rest) → counts (with_char_sets ctx p t rest derived) ≡ counts p
  counts_same ctx (one ts) t rest derived = counts_same_in_terms ctx ts t rest derived.0
  counts_same ctx (either ts p) t rest derived =
      ap₂ added (counts_same_in_terms ctx ts t _ derived.1) (counts_same ctx p derived.0 rest derived.2)

  counts_same_in_terms : (ctx : Context) (ts : Terms) (t rest : Source) (derived : AreTerms ctx ts t rest) →
      counts_of_terms (terms_with_char_sets ctx ts t rest derived) ≡ counts_of_terms ts
  counts_same_in_terms ctx no_terms t rest derived = refl
  counts_same_in_terms ctx (more_terms x q xs) t rest derived =
      ap₂ (λ (a b : Counts). added (added a (counts_of_quantifier q)) b) (counts_same_in_item ctx x t derived.0 derived.2)
      (counts_same_in_terms ctx xs derived.1 rest derived.4)

  counts_same_in_item : (ctx : Context) (x : Item) (t rest : Source) (derived : IsItem ctx x t rest) →
      counts_of_item (item_with_char_sets ctx x t rest derived) ≡ counts_of_item x
  counts_same_in_item ctx (atom a) t rest derived = refl
  counts_same_in_item ctx (group kind p) t rest derived =
      ap (added (counts_of_group kind)) (counts_same (context_inside kind ctx) p derived.0 _ derived.2)

mutual
  pub names_same : (ctx : Context) (p : Pattern) (t rest : Source) (derived : IsPattern ctx p t rest) → names (with_char_sets ctx p t rest derived) ≡ names p
  names_same ctx (one ts) t rest derived = names_same_in_terms ctx ts t rest derived.0
  names_same ctx (either ts p) t rest derived =
      ap₂ (λ (a b : List (Option Name)). a ++ b) (names_same_in_terms ctx ts t _ derived.1) (names_same ctx p derived.0 rest derived.2)

  names_same_in_terms : (ctx : Context) (ts : Terms) (t rest : Source) (derived : AreTerms ctx ts t rest) →
      names_of_terms (terms_with_char_sets ctx ts t rest derived) ≡ names_of_terms ts
  names_same_in_terms ctx no_terms t rest derived = refl
  names_same_in_terms ctx (more_terms x q xs) t rest derived =
      ap₂ (λ (a b : List (Option Name)). a ++ b) (names_same_in_item ctx x t derived.0 derived.2) (names_same_in_terms ctx xs derived.1 rest derived.4)

  names_same_in_item : (ctx : Context) (x : Item) (t rest : Source) (derived : IsItem ctx x t rest) →
      names_of_item (item_with_char_sets ctx x t rest derived) ≡ names_of_item x
  names_same_in_item ctx (atom a) t rest derived = refl
  names_same_in_item ctx (group kind p) t rest derived =
      ap (λ (a : List (Option Name)). names_of_group kind ++ a) (names_same (context_inside kind ctx) p derived.0 _ derived.2)

not-true : (b : Bool) → not b ≡ true → b ≡ false
not-true true e = sym e
not-true false e = refl

-- ---- parts of a pattern

module _ (all : List (Option Name)) (text : List ℕ) where
  -- The matcher of a part with the groups n to n + k - 1, from states in which no group of their names is set.
  abbrev Within : (d : Direction) (n k : ℕ) → Steps.Matcher → Matcher → Type 0
  Within d n k f m = AgreesOn text (IsBefore all text n k) (IsAfter all text d n k) f m

  module _ (d : Direction) where
    wider : (n k n' k' : ℕ) → n ≤ n' → n' + k' ≤ n + k → (f : Steps.Matcher) (m : Matcher) → Within d n' k' f m → Within d n k f m
    wider n k n' k' low high f m within =
        AgreesOn-fewer text (IsBefore all text n k) (IsAfter all text d n k) (IsBefore all text n' k') (IsAfter all text d n' k') f m within
        (before_part all text n k n' k' low high) (λ s t _. after_part all text d n k n' k' low high s t)

    -- a part without groups
    within_untouched : (n k : ℕ) (f : Steps.Matcher) (m : Matcher) → AgreesOn text (IsBefore all text n k) (IsReached text d) f m → LeavesCaptures f →
        Within d n k f m
    within_untouched n k f m agrees leaves = record {
      same = agrees.same;
      reached = λ s before i other less.
          after_untouched all text d n k s _ before.apart (agrees.reached s before i other less) (leaves s i other less);
    }

    -- two parts without a common name, in this order
    within_then : (n k a b a' b' : ℕ) → n ≤ a → a + b ≤ n + k → n ≤ a' → a' + b' ≤ n + k → AreClear all text a' b' a b →
        (f g : Steps.Matcher) (m l : Matcher) → Within d a b f m → Within d a' b' g l → Within d n k (f then_ g) (λ x c. m x (λ y. l y c))
    within_then n k a b a' b' low high low' high' clear f g m l first second =
        AgreesOn-then text (IsBefore all text n k) (IsAfter all text d a b) (IsBefore all text a' b') (IsAfter all text d a' b') (IsAfter all text d n k)
        (λ s t before. next_part all text d a b a' b' clear s t (before_part all text n k a' b' low' high' s before))
        (λ s t u before after after'.
        after_both all text d n k s t u (after_part all text d n k a b low high s t after) (after_part all text d n k a' b' low' high' t u after'))
        f g m l
        (AgreesOn-fewer text (IsBefore all text n k) (IsAfter all text d a b) (IsBefore all text a b) (IsAfter all text d a b) f m first
        (before_part all text n k a b low high) (λ s t _ after. after))
        second

  within_sequence : (d : Direction) (n a b : ℕ) → AreClear all text n a (n + a) b → (f g : Steps.Matcher) (m l : Matcher) →
      Within d n a f m → Within d (n + a) b g l → Within d n (a + b) (along d f g) (match_sequence m l d)
  within_sequence forwards n a b clear f g m l first second =
      within_then forwards n (a + b) n a (n + a) b (omega arith) (omega arith) (omega arith) (omega arith) (clear-sym all text n a (n + a) b clear)
      f g m l first second
  within_sequence backwards n a b clear f g m l first second =
      within_then backwards n (a + b) (n + a) b n a (omega arith) (omega arith) (omega arith) (omega arith) clear g f l m second first

  within_group : (d : Direction) (n : ℕ) (kind : Group) (p : Pattern) (f : Steps.Matcher) (m : Matcher) → HasNames all text n (names_of_group kind ++ names p) →
      share_name (names_of_group kind) (names p) ≡ false → Within (direction_of_group kind d) (n + opened_by kind) (counts p).groups f m →
      Within d n (opened_by kind + (counts p).groups) (group_steps n kind f) (compile_group n d kind m)
  within_group d n grouping p f m named none within =
      wider d n (0 + (counts p).groups) (n + 0) (counts p).groups (omega arith) (omega arith) f m within
  within_group d n (modified change) p f m named none within =
      wider d n (0 + (counts p).groups) (n + 0) (counts p).groups (omega arith) (omega arith) f m within
  within_group d n (capture name) p f m named none within =
      let k : ℕ = (counts p).groups in
      let long = length-names p in
      let here = names_left all text n (name ∷ []) (names p) named in
      let there = names_right all text n 1 (name ∷ []) (names p) refl named in
      let clear : AreClear all text n 1 (n + 1) k =
      λ i j h h'. clear_parts all text n (n + 1) (name ∷ []) (names p) here there none i j h (h'.0, omega (arith, h'.1, long)) in
      AgreesOn-capture text d (IsBefore all text n (1 + k)) (IsAfter all text d (n + 1) k) (IsAfter all text d n (1 + k)) n (λ s t after. after.reached.onward)
      (after_captured all text d n k clear) f m
      (AgreesOn-fewer text (IsBefore all text n (1 + k)) (IsAfter all text d (n + 1) k) (IsBefore all text (n + 1) k) (IsAfter all text d (n + 1) k) f m within
      (before_part all text n (1 + k) (n + 1) k (omega arith) (omega arith)) (λ s t _ after. after))
  within_group d n (look negate direction) p f m named none within =
      let k : ℕ = 0 + (counts p).groups in
      AgreesOn-look text (IsBefore all text n k) (IsAfter all text direction n k) (IsAfter all text d n k)
      (λ s before. after_nothing all text d n k s before.state before.apart)
      (λ s t before after. after_returned all text d direction n k s t before.state after) f m
      (wider direction n k (n + 0) (counts p).groups (omega arith) (omega arith) f m within) negate

  module _ (fuel : ℕ) (enough : length text < fuel) where
    within_quantified : (d : Direction) (q : Option Quantifier) → IsInOrder q → (n k : ℕ) (f : Steps.Matcher) (m : Matcher) → Within d n k f m →
        Within d n k (quantified_steps (length text) q n (n + k) f) (quantified fuel n k q m)
    within_quantified d None order n k f m within = within
    within_quantified d (Some q) order n k f m within =
        AgreesOn-fewer text (IsBefore all text n k) (IsAfter all text d n k) (IsBetween all text n k) (IsAfter all text d n k) _ _
        (AgreesOn-repeat text d (IsBetween all text n k) (IsBefore all text n k) (IsAfter all text d n k) (IsAfter all text d n k) (between_kept all text d n k)
        f m within n k (before_iteration all text n k) (after_iteration all text d n k) q order fuel enough)
        (between_before all text n k) (λ s t _ after. after)

-- ---- atoms

-- a reference that matches what the one group of its name that is set has captured
abbrev pub refers_if_set : Atom → Bool
refers_if_set (back_reference flags (by_name_if_set name)) = true
refers_if_set other = false

module _ (setting : Setting) (all : List (Option Name)) (text : List ℕ) where
  -- a context in the dialect, in which only modifiers have changed the flags of the setting
  pub record IsUnder (ctx : Context) : Type 0 where
    pub dialect : ctx.dialect ≡ Ecma
    pub table : ctx.setting.table ≡ setting.table
    pub unicode : ctx.setting.flags.unicode ≡ setting.flags.unicode
    pub unicode_sets : ctx.setting.flags.unicode_sets ≡ setting.flags.unicode_sets

  -- The matcher of ECMA-262 for an atom that the source begins with does what the atom does.
  abbrev pub AtomMatches : Context → Atom → Source → Type 0
  AtomMatches ctx a t = (d : Direction) → Agrees text d (atom_steps setting all text d a) (compile_atom setting.table all ctx.setting.flags d (atom_of ctx a t))

  abbrev pub AtomsMatch : Type 0
  AtomsMatch =
      (ctx : Context) → IsUnder ctx → (a : Atom) (t rest : Source) → head_at ctx t ≡ Some (single a, rest) → refers_if_set a ≡ false → AtomMatches ctx a t

  with_u_under : (setting.flags.unicode_sets ≡ true → setting.flags.unicode ≡ true) → (ctx : Context) → IsUnder ctx →
      ctx.setting.flags.unicode_sets ≡ true → ctx.setting.flags.unicode ≡ true
  with_u_under with_u ctx under v = under.unicode ∙ with_u (sym under.unicode_sets ∙ v)

  -- It is enough to have this for contexts of which the dialect is replaced.
  pub match_in_dialect : (setting.flags.unicode_sets ≡ true → setting.flags.unicode ≡ true) → (
      (given : Context) → given.setting.table ≡ setting.table → given.setting.flags.unicode ≡ setting.flags.unicode →
      (given.setting.flags.unicode_sets ≡ true → given.setting.flags.unicode ≡ true) → (a : Atom) (t rest : Source) →
      head_at (record given { dialect = Ecma }) t ≡ Some (single a, rest) → refers_if_set a ≡ false → AtomMatches (record given { dialect = Ecma }) a t
      ) → AtomsMatch
  match_in_dialect with_u matching ctx under a t rest =
      let Is : Dialect → Type 0 =
      λ dialect.
      head_at (record ctx { dialect = dialect }) t ≡ Some (single a, rest) → refers_if_set a ≡ false → AtomMatches (record ctx { dialect = dialect }) a t in
      subst Is (sym under.dialect) (matching ctx under.table under.unicode (with_u_under with_u ctx under) a t rest)

  pub under_inside : (kind : Group) (ctx : Context) → IsUnder ctx → IsUnder (context_inside kind ctx)
  under_inside grouping ctx under = under
  under_inside (modified change) ctx under = record {
    dialect = under.dialect;
    table = under.table;
    unicode = under.unicode;
    unicode_sets = under.unicode_sets;
  }
  under_inside (capture name) ctx under = under
  under_inside (look negate direction) ctx under = under

module _ (setting : Setting) (maps : HasCaseDataOfUnicode setting.table) (with_u : setting.flags.unicode_sets ≡ true → setting.flags.unicode ≡ true)
    (all : List (Option Name)) (text : List ℕ) (is_text : All IsCodePoint text) (matching : AtomsMatch setting all text) where
  abbrev AtomWithin : Context → Direction → (n : ℕ) → Atom → Source → Type 0
  AtomWithin ctx d n a t =
      Within all text d n 0 (atom_steps setting all text d a) (compile_atom setting.table all ctx.setting.flags d (atom_of ctx a t))

  reference_within : (ctx : Context) → IsUnder setting all text ctx → (d : Direction) (n : ℕ) (flags : Flags) (name : Name) (t : Source) →
      flags ≡ ctx.setting.flags → AtomWithin ctx d n (back_reference flags (by_name_if_set name)) t
  reference_within ctx under d n flags name t is =
      let rer : Flags = ctx.setting.flags in
      let equal : (a b : ℕ) → is_same setting.table rer a b ≡ denotes setting.table flags.icase setting.flags.unicode a b =
      λ a b.
      same-literal setting.table maps rer (with_u_under setting all text with_u ctx under) a b
      ∙ ap₂ (λ (i u : Bool). denotes setting.table i u a b) (ap (λ (f : Flags). f.icase) (sym is)) under.unicode in
      within_untouched all text d n 0 _ _
      (AgreesOn-each_reference setting.table rer text (denotes setting.table flags.icase setting.flags.unicode) equal d
      (groups_named name 1 all) (IsBefore all text n 0) (λ s before. before.state) (λ s before. at_most_one all text name s before.apart))
      (atom-leaves setting all text d (back_reference flags (by_name_if_set name)))

  other_within : (ctx : Context) → IsUnder setting all text ctx → (d : Direction) (n : ℕ) (a : Atom) (t rest : Source) → head_at ctx t ≡ Some (single a, rest) →
      refers_if_set a ≡ false → AtomWithin ctx d n a t
  other_within ctx under d n a t rest found other =
      within_untouched all text d n 0 _ _
      (AgreesOn-fewer text (IsBefore all text n 0) (IsReached text d) (IsStateOf text) (IsReached text d) _ _ (matching ctx under a t rest found other d)
      (λ s before. before.state) (λ s u _ reached. reached))
      (atom-leaves setting all text d a)

  atom_within : (ctx : Context) → IsUnder setting all text ctx → (d : Direction) (n : ℕ) (a : Atom) (t rest : Source) → head_at ctx t ≡ Some (single a, rest) →
      AtomWithin ctx d n a t
  atom_within ctx under d n (back_reference flags (by_name_if_set name)) t rest found =
      reference_within ctx under d n flags name t (reference_proper ctx flags (by_name_if_set name) t rest found)
  atom_within ctx under d n a t rest found = other_within ctx under d n a t rest found refl

  -- ---- patterns

  module _ (fuel : ℕ) (enough : length text < fuel) where
    mutual
      pattern_within : (ctx : Context) → IsUnder setting all text ctx → (d : Direction) (n : ℕ) (p : Pattern) (t rest : Source)
          (derived : IsPattern ctx p t rest) → HasNames all text n (names p) → are_names_apart p ≡ true →
          Within all text d n (counts p).groups (pattern_steps setting all text d n p)
          (compile_disjunction setting.table all fuel ctx.setting.flags d n (with_char_sets ctx p t rest derived))
      pattern_within ctx under d n (one ts) t rest derived named apart = terms_within ctx under d n ts t rest derived.0 named apart
      pattern_within ctx under d n (either ts p) t rest derived named apart =
          let both = and_parts (are_names_apart_in_terms ts) (are_names_apart p) apart in
          let a : ℕ = (counts_of_terms ts).groups in
          let b : ℕ = (counts p).groups in
          subst
          (λ (k : Counts). Within all text d n (a + b) (pattern_steps setting all text d n (either ts p))
          (match_two_alternatives (compile_alternative setting.table all fuel ctx.setting.flags d n (terms_with_char_sets ctx ts t _ derived.1))
          (compile_disjunction setting.table all fuel ctx.setting.flags d (n + k.groups) (with_char_sets ctx p derived.0 rest derived.2))))
          (sym (counts_same_in_terms ctx ts t _ derived.1))
          (AgreesOn-or text (IsBefore all text n (a + b)) (IsAfter all text d n (a + b)) _ _ _ _
          (wider all text d n (a + b) n a (omega arith) (omega arith) _ _
          (terms_within ctx under d n ts t _ derived.1 (names_left all text n (names_of_terms ts) (names p) named) both.0))
          (wider all text d n (a + b) (n + a) b (omega arith) (omega arith) _ _
          (pattern_within ctx under d (n + a) p derived.0 rest derived.2
          (names_right all text n a (names_of_terms ts) (names p) (length-names_of_terms ts) named) both.1)))

      terms_within : (ctx : Context) → IsUnder setting all text ctx → (d : Direction) (n : ℕ) (ts : Terms) (t rest : Source)
          (derived : AreTerms ctx ts t rest) → HasNames all text n (names_of_terms ts) → are_names_apart_in_terms ts ≡ true →
          Within all text d n (counts_of_terms ts).groups (terms_steps setting all text d n ts)
          (compile_alternative setting.table all fuel ctx.setting.flags d n (terms_with_char_sets ctx ts t rest derived))
      terms_within ctx under d n no_terms t rest derived named apart =
          AgreesOn-empty text (IsBefore all text n 0) (IsAfter all text d n 0) (λ s before. after_nothing all text d n 0 s before.state before.apart)
      terms_within ctx under d n (more_terms x q xs) t rest derived named apart =
          let first = and_parts (are_names_apart_in_item x) (not (share_name (names_of_item x) (names_of_terms xs)) && are_names_apart_in_terms xs) apart in
          let second = and_parts (not (share_name (names_of_item x) (names_of_terms xs))) (are_names_apart_in_terms xs) first.1 in
          let k : ℕ = (counts_of_item x).groups in
          let a : ℕ = (counts_of_term x q).groups in
          let b : ℕ = (counts_of_terms xs).groups in
          let long : length (names_of_item x) ≡ a = omega (arith, length-names_of_item x, no_groups q) in
          let long' = length-names_of_terms xs in
          let here = names_left all text n (names_of_item x) (names_of_terms xs) named in
          let there = names_right all text n a (names_of_item x) (names_of_terms xs) long named in
          let clear : AreClear all text n a (n + a) b =
          λ i j h h'.
          clear_parts all text n (n + a) (names_of_item x) (names_of_terms xs) here there (not-true _ second.0) i j
          (h.0, omega (arith, h.1, long)) (h'.0, omega (arith, h'.1, long')) in
          subst
          (λ (c : Counts). Within all text d n (a + b) (terms_steps setting all text d n (more_terms x q xs))
          (match_sequence
          (quantified fuel n c.groups q (compile_term setting.table all fuel ctx.setting.flags d n (item_with_char_sets ctx x t derived.0 derived.2)))
          (compile_alternative setting.table all fuel ctx.setting.flags d (n + (added c (counts_of_quantifier q)).groups)
          (terms_with_char_sets ctx xs derived.1 rest derived.4)) d))
          (sym (counts_same_in_item ctx x t derived.0 derived.2))
          (within_sequence all text d n a b clear _ _ _ _
          (wider all text d n a n k (omega arith) (omega (arith, no_groups q)) _ _
          (within_quantified all text fuel enough d q (in_order ctx (allows ctx (head_of_item x)) derived.0 q derived.1 derived.3) n k _ _
          (item_within ctx under d n x t derived.0 derived.2 here first.0)))
          (terms_within ctx under d (n + a) xs derived.1 rest derived.4 there second.1))

      item_within : (ctx : Context) → IsUnder setting all text ctx → (d : Direction) (n : ℕ) (x : Item) (t rest : Source) (derived : IsItem ctx x t rest) →
          HasNames all text n (names_of_item x) → are_names_apart_in_item x ≡ true →
          Within all text d n (counts_of_item x).groups (item_steps setting all text d n x)
          (compile_term setting.table all fuel ctx.setting.flags d n (item_with_char_sets ctx x t rest derived))
      item_within ctx under d n (atom a) t rest derived named apart = atom_within ctx under d n a t rest derived
      item_within ctx under d n (group kind p) t rest derived named apart =
          let both = and_parts (not (share_name (names_of_group kind) (names p))) (are_names_apart p) apart in
          let inside = names_right all text n (opened_by kind) (names_of_group kind) (names p) (length_of_group kind) named in
          within_group all text d n kind p _ _ named (not-true _ both.0)
          (subst
          (λ (rer : Flags). Within all text (direction_of_group kind d) (n + opened_by kind) (counts p).groups
          (pattern_steps setting all text (direction_of_group kind d) (n + opened_by kind) p)
          (compile_disjunction setting.table all fuel rer (direction_of_group kind d) (n + opened_by kind)
          (with_char_sets (context_inside kind ctx) p derived.0 _ derived.2)))
          (inside_same kind ctx)
          (pattern_within (context_inside kind ctx) (under_inside setting all text kind ctx under) (direction_of_group kind d) (n + opened_by kind)
          p derived.0 _ derived.2 inside both.1))

-- ---- the theorem

module _ (ctx : Context) (ecma : ctx.dialect ≡ Ecma) (maps : HasCaseDataOfUnicode ctx.setting.table)
    (with_u : ctx.setting.flags.unicode_sets ≡ true → ctx.setting.flags.unicode ≡ true) (p : Pattern) (t rest : Source) (derived : IsPattern ctx p t rest)
    (none : NoneConflict p) (text : List ℕ) (is_text : All IsCodePoint text) (matching : AtomsMatch ctx.setting (names p) text) where
  abbrev standard : Pattern
  standard = with_char_sets ctx p t rest derived

  -- from a state without captures
  pub first_outcome_in_ecma : (fuel : ℕ) → length text < fuel → (d : Direction) (s : Steps.MatchState) → IsStateOf text s → ((i : ℕ) → is_set s i ≡ false) →
      compile_disjunction ctx.setting.table (names p) fuel ctx.setting.flags d 0 standard (state_on text s) accept
      ≡ option_map (state_on text) (slice_get (meaning ctx.setting text d p s) 0)
  first_outcome_in_ecma fuel enough d s in' unset =
      let within =
      pattern_within ctx.setting maps with_u (names p) text is_text matching fuel enough ctx
      (record { dialect = ecma; table = refl; unicode = refl; unicode_sets = refl }) d 0 p t rest derived (all_names (names p) text) none in
      within.same s (before_all (names p) text s in' unset 0 (counts p).groups) accept ∙ first_accepted text (pattern_steps ctx.setting (names p) text d 0 p s)

  -- from an index, with all groups unset
  pub pattern_in_ecma : (fuel : ℕ) → length text < fuel → (index : ℕ) → index ≤ length text →
      compile_pattern fuel ctx.setting.table ctx.setting.flags standard text index
      ≡ outcome_at ctx.setting p text index
  pattern_in_ecma fuel enough index within =
      ap (λ (ns : List (Option Name)). compile_disjunction ctx.setting.table ns fuel ctx.setting.flags forwards 0 standard
      (record { input = text; end_index = index; captures = replicate (length ns) None }) accept)
      (names_same ctx p t rest derived)
      ∙ first_outcome_in_ecma fuel enough forwards (record { position = index; captures = replicate (length (names p)) None })
      (record { position = within; captures = unset_everywhere text (length (names p)) }) (replicate-is_set (length (names p)))

  -- RegExpBuiltinExec
  pub search_in_ecma : (index : ℕ) → index ≤ length text →
      builtin_exec ctx.setting standard text index ≡ first_match (outcome_at ctx.setting p text) (length text + 1 - index) index
  search_in_ecma = exec_by_outcomes ctx.setting p standard text (pattern_in_ecma (length text + 1) (omega arith))
