-- What ECMA-262 derives the parser's grammar derives, with the same groups.
use Rattle.std.proofs.Common.{◌≡◌, ℕ, ◌==◌, ◌⊎◌, inl, inr, Bool, true, false, not, ◌&&◌, ◌||◌, List, [], ◌∷◌, ◌++◌, Option, Some, None, if◌then◌else◌, refl, sym, ap, ap₂, subst, ◌∙◌}
use Rattle.std.specs.List.{All, list_any}
use Rattle.std.proofs.lemmas.Bool.{false≢true}
use Rattle.std.proofs.lemmas.List.Elements.{All-tail}
use Rattle.std.proofs.lemmas.Option.{none-some, same_Some}
use Rattle.regress_base.specs.Table.{Table}
use Rattle.regress_base.specs.declared.types.AnchorType.TheVariants.{StartOfLine, EndOfLine}
use Rattle.regress_base.specs.declared.types.Quantifier.{Quantifier}
use Rattle.regress_tree.specs.Reading.{forwards, backwards}
use Rattle.regress_lexer.specs.declared.dialect.Dialect.TheVariants.{Ecma}
use Rattle.regress_lexer.specs.Modifiers.{Change, switched}
use Rattle.regress_lexer.specs.Source.{Source, IsCodePoint, char, is_at, closing, bar, ends_alternative}
use Rattle.regress_lexer.specs.Quantifiers.{quantifier_at}
use Rattle.regress_lexer.proofs.lemmas.After.{after_all}
use Rattle.regress_syntax.specs.Grammar.{IsPattern, AreTerms, IsItem}
use Rattle.regress_syntax.specs.Productions.{Context, context_inside, Head, single, opens, head_of_item, allows, atom_allows, head_at, optional_quantifier_at}
use Rattle.regress_syntax.specs.SameNames.{same_name, share_name, are_names_apart, are_names_apart_in_terms, are_names_apart_in_item}
use Rattle.regress_syntax.specs.Syntax.{Name, Atom, dot as dot_atom, anchor, boundary as boundary_atom, Group, grouping, modified as modified_group, capture as capture_group, look, Pattern, one, either, Terms, no_terms, more_terms, Item, atom, group, names as names_of_pattern, names_of_terms, names_of_item, names_of_group}
use Rattle.regress_syntax.proofs.lemmas.NameEnds.{group_name_at-ends}
use Rattle.regress_syntax.proofs.lemmas.Productions.{head_at-ends}
use Rattle.regress_ecma.specs.GroupNames.{HasIdentifiers}
use Rattle.regress_ecma.specs.Quantifiers.{IsDecimalDigits, QuantifierPrefix, star, plus, optional, exactly, at_least, between, IsQuantifierPrefix, IsQuantifier, is_out_of_order, quantifier_of}
use Rattle.regress_ecma.specs.PatternNodes.{Disjunction, Alternative, Term, TermBody, alone, or_else, nothing, term_then, unquantified, quantified, start, end, boundary, lookahead, lookbehind, pattern_character, dot, escape, backslash, class, capture, modified, invalid, groups, groups_of_alternative, groups_of_term, groups_of_body, is_repeated, have_a_name_in_common, has_duplicate, alternative_has_duplicate, term_has_duplicate, body_has_duplicate}
use Rattle.regress_ecma.specs.Patterns.{Mode, IsOpening, is_quantifiable, IsDisjunction, IsAlternative, IsTermBody, are_wrong_modifiers, has_error, alternative_has_error, body_has_error, IsWithin, AlternativeIsWithin, BodyIsWithin}
use Rattle.regress_ecma.proofs.AtomEscapeNodes.{flags, context, mode}
use Rattle.regress_ecma.proofs.EscapesWithU.{at_character}
use Rattle.regress_ecma.proofs.EscapesWithoutU.{HasTrail}
use Rattle.regress_ecma.proofs.GroupNameNodes.{group_name_derived}
use Rattle.regress_ecma.proofs.PatternAtoms.{specified_same}
use Rattle.regress_ecma.proofs.PatternCharacters.{prefix_found}
use Rattle.regress_ecma.proofs.PatternGroups.{lookahead_found, lookbehind_found, capture_found, modified_found}
use Rattle.regress_ecma.proofs.PatternReads.{Reads, escape_read, backslash_read, character_read, class_read, trail_read, trail_points}
use Rattle.regress_ecma.proofs.PatternStarts.{item_start, terms_start, pattern_start, none_found, some_found}
use Rattle.regress_ecma.proofs.QuantifierNodes.{quantifier_derived, order_kept}

-- ---- names

pub repeated_same : (there : List (Option Name)) (name : Option Name) → is_repeated there name ≡ list_any (same_name name) there
repeated_same there None = none there
  where
    none : (there : List (Option Name)) → false ≡ list_any (same_name None) there
    none [] = refl
    none (other ∷ there) = none there
repeated_same there (Some name) = specified_same name there

pub common_same : (here there : List (Option Name)) → have_a_name_in_common here there ≡ share_name here there
common_same [] there = refl
common_same (name ∷ here) there =
    ap (λ (b : Bool). b || have_a_name_in_common here there) (repeated_same there name)
    ∙ ap (λ (b : Bool). list_any (same_name name) there || b) (common_same here there)

pub or_parts : (a b : Bool) → (a || b) ≡ false → (a ≡ false) × (b ≡ false)
or_parts false false e = (refl, refl)
or_parts false true e = absurd (false≢true (sym e))
or_parts true b e = absurd (false≢true (sym e))

all_behind : (digits rest : List ℕ) → All IsCodePoint (digits ++ rest) → All IsCodePoint rest
all_behind [] rest points = points
all_behind (c ∷ digits) rest points = all_behind digits rest (All-tail IsCodePoint c (digits ++ rest) points)

digits_points : (n : ℕ) (t rest : Source) → IsDecimalDigits n t rest → All IsCodePoint t → All IsCodePoint rest
digits_points n t rest (digits, e, some, decimal, value) points = all_behind digits rest (subst (All IsCodePoint) e points)

prefix_points : (p : QuantifierPrefix) (t rest : Source) → IsQuantifierPrefix p t rest → All IsCodePoint t → All IsCodePoint rest
prefix_points star t rest e points = All-tail IsCodePoint (char "*") rest (subst (All IsCodePoint) e points)
prefix_points plus t rest e points = All-tail IsCodePoint (char "+") rest (subst (All IsCodePoint) e points)
prefix_points optional t rest e points = All-tail IsCodePoint (char "?") rest (subst (All IsCodePoint) e points)
prefix_points (exactly n) t rest (x, e, h) points =
    All-tail IsCodePoint (char "}") rest (digits_points n x _ h (All-tail IsCodePoint (char "{") x (subst (All IsCodePoint) e points)))
prefix_points (at_least n) t rest (x, e, h) points =
    All-tail IsCodePoint (char "}") rest (All-tail IsCodePoint (char ",") (char "}" ∷ rest)
    (digits_points n x _ h (All-tail IsCodePoint (char "{") x (subst (All IsCodePoint) e points))))
prefix_points (between n k) t rest (x, y, e, h, h') points =
    All-tail IsCodePoint (char "}") rest
    (digits_points k y _ h' (All-tail IsCodePoint (char ",") y (digits_points n x _ h (All-tail IsCodePoint (char "{") x (subst (All IsCodePoint) e points)))))

quantifier_points : (p : QuantifierPrefix) (lazy : Bool) (t rest : Source) → IsQuantifier p lazy t rest → All IsCodePoint t → All IsCodePoint rest
quantifier_points p false t rest h points = prefix_points p t rest h points
quantifier_points p true t rest h points = All-tail IsCodePoint (char "?") rest (prefix_points p t (char "?" ∷ rest) h points)

prefixed : (p : QuantifierPrefix) (lazy : Bool) (t rest : Source) → IsQuantifier p lazy t rest → (x : Quantifier × Source) × (quantifier_at t ≡ Some x)
prefixed p false t rest h = prefix_found p t rest h
prefixed p true t rest h = prefix_found p t (char "?" ∷ rest) h

-- ---- ends

module _ (table : Table) (i m s v : Bool) (names : List (Option Name)) (u : Bool) where
  no_item_at_end : (t : Source) → ends_alternative t ≡ true → head_at (context table i m s v names u) t ≡ None
  unfolding head_at
  no_item_at_end [] e = refl
  no_item_at_end (c ∷ t) e =
      at_character P (char ")") c (λ _. refl) (λ f. at_character P (char "|") c (λ _. refl) (λ g h. absurd (false≢true (sym (rw (f, g) refl) ∙ h)))) e
    where
      P : ℕ → Type 0
      P d = (d == closing || d == bar) ≡ true → head_at (context table i m s v names u) (d ∷ t) ≡ None

  start_head : (t : Source) → head_at (context table i m s v names u) (char "^" ∷ t) ≡ Some (single (anchor (flags table i m s v names u) StartOfLine), t)
  unfolding head_at
  start_head t = refl

  end_head : (t : Source) → head_at (context table i m s v names u) (char "$" ∷ t) ≡ Some (single (anchor (flags table i m s v names u) EndOfLine), t)
  unfolding head_at
  end_head t = refl

  dot_head : (t : Source) → head_at (context table i m s v names u) (char "." ∷ t) ≡ Some (single (dot_atom (flags table i m s v names u)), t)
  unfolding head_at
  dot_head t = refl

  boundary_head : (negated : Bool) (t : Source) → head_at (context table i m s v names u) (char "\\" ∷ (if negated then char "B" else char "b") ∷ t)
      ≡ Some (single (boundary_atom (flags table i m s v names u) negated), t)
  unfolding head_at
  boundary_head true t = refl
  boundary_head false t = refl

abbrev pub is_single : Head → Bool
is_single (single a) = true
is_single (opens kind) = false

module _ (table : Table) (v : Bool) (names : List (Option Name)) (u : Bool) where
  abbrev pub own : (i m s : Bool) → Context
  own i m s = context table i m s v names u

  abbrev pub own_mode : Mode
  own_mode = mode table true true true v names u

  -- ---- what is read

  pub record IsReadAs (i m s : Bool) (b : TermBody) (t rest : Source) (x : Item) : Type 0 where
    pub derived : IsItem (own i m s) x t rest
    pub allowed : allows (own i m s) (head_of_item x) ≡ is_quantifiable table own_mode b
    pub groups : names_of_item x ≡ groups_of_body b
    pub apart : are_names_apart_in_item x ≡ not (body_has_duplicate b)
    pub points : All IsCodePoint rest

  -- a character of which the trail surrogate remains
  pub record IsLead (i m s : Bool) (b : TermBody) (t rest : Source) : Type 0 where
    pub none : u ≡ false
    pub a : Atom
    pub c : ℕ
    pub w : Source
    pub found : head_at (own i m s) t ≡ Some (single a, w)
    pub allowed : atom_allows Ecma a ≡ true
    pub trail : HasTrail c rest w
    pub points : All IsCodePoint w
    pub groups : groups_of_body b ≡ []
    pub alone : body_has_duplicate b ≡ false

  abbrev pub IsReadBody : (i m s : Bool) → TermBody → (t rest : Source) → Type 0
  IsReadBody i m s b t rest = ((x : Item) × IsReadAs i m s b t rest x) ⊎ IsLead i m s b t rest

  pub record AreReadAs (i m s : Bool) (a : Alternative) (t rest : Source) (ts : Terms) : Type 0 where
    pub derived : AreTerms (own i m s) ts t rest
    pub groups : names_of_terms ts ≡ groups_of_alternative a
    pub apart : are_names_apart_in_terms ts ≡ not (alternative_has_duplicate a)
    pub points : All IsCodePoint rest

  abbrev pub AreRead : (i m s : Bool) → Alternative → (t rest : Source) → Type 0
  AreRead i m s a t rest = (ts : Terms) × AreReadAs i m s a t rest ts

  pub record IsReadPattern (i m s : Bool) (d : Disjunction) (t rest : Source) (p : Pattern) : Type 0 where
    pub derived : IsPattern (own i m s) p t rest
    pub groups : names_of_pattern p ≡ groups d
    pub apart : are_names_apart p ≡ not (has_duplicate d)
    pub points : All IsCodePoint rest

  -- ---- terms

  leaf : (i m s : Bool) (b : TermBody) (t rest : Source) → groups_of_body b ≡ [] → body_has_duplicate b ≡ false → All IsCodePoint t →
      Reads table i m s v names u (is_quantifiable table own_mode b) t rest → IsReadBody i m s b t rest
  leaf i m s b t rest none_inside no_duplicate points (inl (a, found, allowed)) =
      inl (
        atom a,
        record {
          derived = found;
          allowed = allowed;
          groups = sym none_inside;
          apart = sym (ap not no_duplicate);
          points = after_all t rest ((head_at-ends (own i m s) t).each (single a, rest) found) points;
        },
      )
  leaf i m s b t rest none_inside no_duplicate points (inr (none, (a, c, w, found, allowed, trail))) =
      inr (record {
        none = none;
        a = a;
        c = c;
        w = w;
        found = found;
        allowed = allowed;
        trail = trail;
        points = after_all t w ((head_at-ends (own i m s) t).each (single a, w) found) points;
        groups = none_inside;
        alone = no_duplicate;
      })

  trail_head : (i m s : Bool) → (u' : Bool) → u' ≡ false → (c : ℕ) (t rest : Source) → HasTrail c t rest →
      (a : Atom) × (head_at (context table i m s v names u') t ≡ Some (single a, rest)) × (atom_allows Ecma a ≡ true)
  trail_head i m s true none c t rest trail = absurd (false≢true (sym none))
  trail_head i m s false none c t rest trail = trail_read table i m s v names c t rest trail

  -- a term, and what follows it
  joined : (i m s : Bool) (first : Term) (b : TermBody) (others : Alternative) (t w z rest : Source) (x : Item) (q : Option Quantifier) →
      groups_of_body b ≡ groups_of_term first → body_has_duplicate b ≡ term_has_duplicate first → IsReadAs i m s b t w x →
      optional_quantifier_at (own i m s) (allows (own i m s) (head_of_item x)) w ≡ Some (q, z) → AreRead i m s others z rest →
      AreRead i m s (term_then first others) t rest
  joined i m s first b others t w z rest x q same_groups same_duplicate read quantifier (ts, more) = (
    more_terms x q ts,
    record {
      derived = (w, z, read.derived, quantifier, more.derived);
      groups = ap₂ (λ (a b : List (Option Name)). a ++ b) (read.groups ∙ same_groups) more.groups;
      apart =
          ap₂ (λ (a b : Bool). a && (not (share_name (names_of_item x) (names_of_terms ts)) && b)) (read.apart ∙ ap not same_duplicate) more.apart
          ∙ ap (λ (b : Bool). not (term_has_duplicate first) && (not b && not (alternative_has_duplicate others)))
          (sym (common_same (names_of_item x) (names_of_terms ts))
          ∙ ap₂ have_a_name_in_common (read.groups ∙ same_groups) more.groups)
          ∙ by (term_has_duplicate first) (have_a_name_in_common (groups_of_term first) (groups_of_alternative others)) (alternative_has_duplicate others);
      points = more.points;
    },
  )
    where
      by : (a b c : Bool) → (not a && (not b && not c)) ≡ not (a || b || c)
      by true b c = refl
      by false true c = refl
      by false false c = refl

  -- a character of which the trail surrogate is the next term
  paired : (i m s : Bool) (b : TermBody) (others : Alternative) (t w rest : Source) → IsLead i m s b t w → AreRead i m s others w rest →
      AreRead i m s (term_then (unquantified b) others) t rest
  paired i m s b others t w rest lead (no_terms, more) =
      let found = trail_head i m s u lead.none lead.c w lead.w lead.trail in
      absurd (none-some (single found.0, lead.w) (sym (no_item_at_end table i m s v names u w more.derived.0) ∙ found.1))
  paired i m s b others t w rest lead (more_terms (group kind p) q xs, more) =
      let found = trail_head i m s u lead.none lead.c w lead.w lead.trail in
      absurd (false≢true (ap (λ (x : Head × Source). is_single x.0) (same_Some _ _ (sym more.derived.2.1 ∙ found.1))))
  paired i m s b others t w rest lead (more_terms (atom a) q xs, more) =
      let found = trail_head i m s u lead.none lead.c w lead.w lead.trail in
      let same : (single a, more.derived.0) ≡ (single found.0, lead.w) = same_Some _ _ (sym more.derived.2 ∙ found.1) in (
        more_terms (atom lead.a) q xs,
        record {
          derived = (
            lead.w,
            more.derived.1,
            lead.found,
            ap (λ (b : Bool). optional_quantifier_at (own i m s) b lead.w) (lead.allowed ∙ sym found.2)
                ∙ subst (λ (x : Head × Source). optional_quantifier_at (own i m s) (allows (own i m s) x.0) x.1 ≡ Some (q, more.derived.1)) same more.derived.3,
            more.derived.4,
          );
          groups = more.groups ∙ ap (λ (a : List (Option Name)). a ++ groups_of_alternative others) (sym lead.groups);
          apart =
              more.apart
              ∙ ap (λ (x : Bool). not (x || have_a_name_in_common [] (groups_of_alternative others) || alternative_has_duplicate others)) (sym lead.alone)
              ∙ ap (λ (a : List (Option Name)). not (body_has_duplicate b || have_a_name_in_common a (groups_of_alternative others) || alternative_has_duplicate others))
              (sym lead.groups);
          points = more.points;
        },
      )

  then_unquantified : (i m s : Bool) (b : TermBody) (others : Alternative) (t w rest : Source) → IsReadBody i m s b t w →
      (All IsCodePoint w → AreRead i m s others w rest) → AreRead i m s (term_then (unquantified b) others) t rest
  then_unquantified i m s b others t w rest (inl (x, read)) next =
      let more = next read.points in
      joined i m s (unquantified b) b others t w w rest x None refl refl read
      (none_found table i m s v names u (allows (own i m s) (head_of_item x)) w (terms_start table i m s v names u more.0 w rest more.1.derived)) more
  then_unquantified i m s b others t w rest (inr lead) next = paired i m s b others t w rest lead (next (trail_points lead.c w lead.w lead.trail lead.points))

  then_quantified : (i m s : Bool) (b : TermBody) (p : QuantifierPrefix) (lazy : Bool) (others : Alternative) (t w z rest : Source) →
      is_quantifiable table own_mode b ≡ true → is_out_of_order p ≡ false → IsReadBody i m s b t w → IsQuantifier p lazy w z →
      (All IsCodePoint z → AreRead i m s others z rest) → AreRead i m s (term_then (quantified b p lazy) others) t rest
  then_quantified i m s b p lazy others t w z rest allowed ordered (inl (x, read)) quantifier next =
      let more = next (quantifier_points p lazy w z quantifier read.points) in
      let here = terms_start table i m s v names u more.0 z rest more.1.derived in
      let found = quantifier_derived p lazy w z quantifier (λ _. here.no_question) in
      joined i m s (quantified b p lazy) b others t w z rest x (Some (quantifier_of p lazy)) refl refl read
      (ap (λ (b : Bool). optional_quantifier_at (own i m s) b w) (read.allowed ∙ allowed)
      ∙ some_found table i m s v names u w z (quantifier_of p lazy) found (order_kept p lazy ordered)) more
  then_quantified i m s b p lazy others t w z rest allowed ordered (inr lead) quantifier next =
      let found = trail_head i m s u lead.none lead.c w lead.w lead.trail in
      let here = item_start table i m s v names u w (single found.0, lead.w) found.1 in
      absurd (none-some _ (sym here.no_quantifier ∙ (prefixed p lazy w z quantifier).1))

  -- ---- groups

  opening_points : (proper : HasIdentifiers table) → (name : Option Name) (t w : Source) → All IsCodePoint t → IsOpening table own_mode name t w →
      All IsCodePoint w
  opening_points proper None t w points e = All-tail IsCodePoint (char "(") w (subst (All IsCodePoint) e points)
  opening_points proper (Some name) t w points (x, e, h) =
      after_all x w ((group_name_at-ends table x).each (name, w) (group_name_derived table u proper name x w h))
      (All-tail IsCodePoint (char "?") x (All-tail IsCodePoint (char "(") (char "?" ∷ x) (subst (All IsCodePoint) e points)))

  -- a group, which its opening begins
  grouped : (i m s : Bool) (b : TermBody) (kind : Group) (d : Disjunction) (t w rest : Source) → head_at (own i m s) t ≡ Some (opens kind, w) →
      allows (own i m s) (opens kind) ≡ is_quantifiable table own_mode b → groups_of_body b ≡ groups d → body_has_duplicate b ≡ has_duplicate d →
      names_of_group kind ≡ [] → (p : Pattern) → IsPattern (context_inside kind (own i m s)) p w (closing ∷ rest) → names_of_pattern p ≡ groups d →
      are_names_apart p ≡ not (has_duplicate d) → All IsCodePoint (closing ∷ rest) → IsReadBody i m s b t rest
  grouped i m s b kind d t w rest found allowed same_groups same_duplicate unnamed p inside names_same apart points =
      inl (
        group kind p,
        record {
          derived = (w, found, inside);
          allowed = allowed;
          groups = ap (λ (a : List (Option Name)). a ++ names_of_pattern p) unnamed ∙ names_same ∙ sym same_groups;
          apart =
              ap (λ (a : List (Option Name)). not (share_name a (names_of_pattern p)) && are_names_apart p) unnamed
              ∙ apart ∙ ap not (sym same_duplicate);
          points = All-tail IsCodePoint closing rest points;
        },
      )

  module _ (proper : HasIdentifiers table) (implied : v ≡ true → u ≡ true) where
    mutual
      pub disjunction_read : (i m s : Bool) (d : Disjunction) (t rest : Source) → All IsCodePoint t → ends_alternative rest ≡ true → is_at bar rest ≡ false →
          IsDisjunction table own_mode d t rest → has_error names d ≡ false → IsWithin v d → (p : Pattern) × IsReadPattern i m s d t rest p
      disjunction_read i m s (alone a) t rest points ends no_bar h fine within =
          let read = alternative_read i m s a t rest points ends h fine within in
          (one read.0, record { derived = (read.1.derived, no_bar); groups = read.1.groups; apart = read.1.apart; points = read.1.points })
      disjunction_read i m s (or_else a others) t rest points ends no_bar (w, h, k) fine within =
          let fines = or_parts (alternative_has_error names a) (has_error names others) fine in
          let first = alternative_read i m s a t (bar ∷ w) points refl h fines.0 within.0 in
          let second = disjunction_read i m s others w rest (All-tail IsCodePoint bar w first.1.points) ends no_bar k fines.1 within.1 in (
            either first.0 second.0,
            record {
              derived = (w, first.1.derived, second.1.derived);
              groups = ap₂ (λ (a b : List (Option Name)). a ++ b) first.1.groups second.1.groups;
              apart = ap₂ (λ (a b : Bool). a && b) first.1.apart second.1.apart ∙ both (alternative_has_duplicate a) (has_duplicate others);
              points = second.1.points;
            },
          )
        where
          both : (a b : Bool) → (not a && not b) ≡ not (a || b)
          both true b = refl
          both false b = refl

      alternative_read : (i m s : Bool) (a : Alternative) (t rest : Source) → All IsCodePoint t → ends_alternative rest ≡ true →
          IsAlternative table own_mode a t rest → alternative_has_error names a ≡ false → AlternativeIsWithin v a → AreRead i m s a t rest
      alternative_read i m s nothing t rest points ends h fine within =
          (no_terms, record { derived = (ap ends_alternative h ∙ ends, h); groups = refl; apart = refl; points = subst (All IsCodePoint) h points })
      alternative_read i m s (term_then (unquantified b) others) t rest points ends (w, h, k) fine within =
          let fines = or_parts (body_has_error names b) (alternative_has_error names others) fine in
          then_unquantified i m s b others t w rest (body_read i m s b t w points h fines.0 within.0)
          (λ (points' : All IsCodePoint w). alternative_read i m s others w rest points' ends k fines.1 within.1)
      alternative_read i m s (term_then (quantified b p lazy) others) t rest points ends (z, (w, q, h, quantifier), k) fine within =
          let fines = or_parts (body_has_error names b || is_out_of_order p) (alternative_has_error names others) fine in
          let both = or_parts (body_has_error names b) (is_out_of_order p) fines.0 in
          then_quantified i m s b p lazy others t w z rest q both.1 (body_read i m s b t w points h both.0 within.0) quantifier
          (λ (points' : All IsCodePoint z). alternative_read i m s others z rest points' ends k fines.1 within.1)

      body_read : (i m s : Bool) (b : TermBody) (t rest : Source) → All IsCodePoint t → IsTermBody table own_mode b t rest → body_has_error names b ≡ false →
          BodyIsWithin v b → IsReadBody i m s b t rest
      body_read i m s start t rest points h fine within =
          leaf i m s start t rest refl refl points
          (inl (anchor (flags table i m s v names u) StartOfLine, ap (head_at (own i m s)) h ∙ start_head table i m s v names u rest, refl))
      body_read i m s end t rest points h fine within =
          leaf i m s end t rest refl refl points
          (inl (anchor (flags table i m s v names u) EndOfLine, ap (head_at (own i m s)) h ∙ end_head table i m s v names u rest, refl))
      body_read i m s (boundary negated) t rest points h fine within =
          leaf i m s (boundary negated) t rest refl refl points
          (inl (boundary_atom (flags table i m s v names u) negated, ap (head_at (own i m s)) h ∙ boundary_head table i m s v names u negated rest, refl))
      body_read i m s (lookahead negated d) t rest points (w, h, k) fine within =
          let found = lookahead_found table i m s v names u negated t w h in
          let inside = disjunction_read i m s d w (closing ∷ rest) (after_all t w ((head_at-ends (own i m s) t).each _ found) points) refl refl k fine within in
          grouped i m s (lookahead negated d) (look negated forwards) d t w rest found refl refl refl refl inside.0 inside.1.derived inside.1.groups inside.1.apart
          inside.1.points
      body_read i m s (lookbehind negated d) t rest points (w, h, k) fine within =
          let found = lookbehind_found table i m s v names u negated t w h in
          let inside = disjunction_read i m s d w (closing ∷ rest) (after_all t w ((head_at-ends (own i m s) t).each _ found) points) refl refl k fine within in
          grouped i m s (lookbehind negated d) (look negated backwards) d t w rest found refl refl refl refl inside.0 inside.1.derived inside.1.groups inside.1.apart
          inside.1.points
      body_read i m s (pattern_character c) t rest points (h, no_braces) fine within =
          leaf i m s (pattern_character c) t rest refl refl points (character_read table i m s v names u c t rest h no_braces)
      body_read i m s dot t rest points h fine within =
          leaf i m s dot t rest refl refl points
          (inl (dot_atom (flags table i m s v names u), ap (head_at (own i m s)) h ∙ dot_head table i m s v names u rest, refl))
      body_read i m s (escape node) t rest points (w, h, no_b, k) fine within =
          leaf i m s (escape node) t rest refl refl points
          (subst (λ (x : Source). Reads table i m s v names u true x rest) (sym h) (escape_read table i m s v names proper u implied node w rest no_b k fine))
      body_read i m s backslash t rest points (none, h, at, k) fine within =
          leaf i m s backslash t rest refl refl points (backslash_read table i m s v names u t rest none h at k)
      body_read i m s (class node) t rest points h fine within =
          leaf i m s (class node) t rest refl refl points (class_read table i m s names v u implied node t rest points h within)
      body_read i m s (capture name d) t rest points (w, h, k) fine within =
          let inside = disjunction_read i m s d w (closing ∷ rest) (opening_points proper name t w points h) refl refl k fine within in
          let here = pattern_start table i m s v names u inside.0 w (closing ∷ rest) inside.1.derived in
          inl (
            group (capture_group name) inside.0,
            record {
              derived = (w, capture_found table i m s v names u proper name t w h here.no_question, inside.1.derived);
              allowed = refl;
              groups = ap (λ (a : List (Option Name)). name ∷ a) inside.1.groups;
              apart =
                  ap₂ (λ (a b : Bool). not (a || false) && b)
                  (sym (repeated_same (names_of_pattern inside.0) name) ∙ ap (λ (a : List (Option Name)). is_repeated a name) inside.1.groups) inside.1.apart
                  ∙ both (is_repeated (groups d) name) (has_duplicate d);
              points = All-tail IsCodePoint closing rest inside.1.points;
            },
          )
        where
          both : (a b : Bool) → (not (a || false) && not b) ≡ not (a || b)
          both true b = refl
          both false b = refl
      body_read i m s (modified on off d) t rest points (w, h, k) fine within =
          let fines = or_parts (are_wrong_modifiers on off) (has_error names d) fine in
          by fines.1 (modified_found table i m s v names u on off t w h fines.0)
          (λ (i' m' s' : Bool) (points' : All IsCodePoint w). disjunction_read i' m' s' d w (closing ∷ rest) points' refl refl k fines.1 within)
        where
          by : has_error names d ≡ false →
              (((change : Change) × (head_at (own i m s) t ≡ Some (opens (modified_group change), w))) ⊎ (head_at (own i m s) t ≡ Some (opens grouping, w))) →
              ((i' m' s' : Bool) → All IsCodePoint w → (p : Pattern) × IsReadPattern i' m' s' d w (closing ∷ rest) p) →
              IsReadBody i m s (modified on off d) t rest
          by fine (inl (change, found)) read =
              let inside = read (switched change.icase i) (switched change.multiline m) (switched change.dot_all s)
              (after_all t w ((head_at-ends (own i m s) t).each _ found) points) in
              grouped i m s (modified on off d) (modified_group change) d t w rest found refl refl refl refl inside.0 inside.1.derived inside.1.groups
              inside.1.apart inside.1.points
          by fine (inr found) read =
              let inside = read i m s (after_all t w ((head_at-ends (own i m s) t).each _ found) points) in
              grouped i m s (modified on off d) grouping d t w rest found refl refl refl refl inside.0 inside.1.derived inside.1.groups inside.1.apart
              inside.1.points
      body_read i m s (invalid prefix) t rest points h fine within = absurd (false≢true (sym fine))
