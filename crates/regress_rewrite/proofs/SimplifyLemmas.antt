-- Simplifying brackets obeys the law, and the bracket becomes less.
use Rattle.std.proofs.Common.{◌≡◌, ◌≢◌, ℕ, ◌+◌, ◌-◌, ◌≤◌, Bool, true, false, not, All, List, [], ◌∷◌, length, sum_by, Result, Ok, Err, refl, sym, ap, ap₂, ◌∙◌, arith}
use Rattle.std.specs.Prelude.{encode_utf8_all, IfOk}
use Rattle.std.specs.declared.alloc.AllocError.{AllocError}
use Rattle.std.specs.List.{flat_map}
use Rattle.std.proofs.lemmas.Bool.{false≢true, or_left, or_right, leb-true, ltb-true}
use Rattle.std.proofs.lemmas.List.{length-append}
use Rattle.std.proofs.lemmas.List.FromFn.{length-range_with_len}
use Rattle.std.proofs.lemmas.List.Sums.{sum_by-cons}
use Rattle.std.proofs.Math.Bool.{not-not}
use Rattle.regress_base.specs.Brackets.{is_accepted}
use Rattle.regress_base.specs.Intervals.{Bounds, code_point_max, is_member, IsCanonical, IsComplement}
use Rattle.regress_base.specs.Limits.{max_char_set_length}
use Rattle.regress_base.specs.declared.types.bracket.BracketContents.{BracketContents}
use Rattle.regress_base.proofs.lemmas.Sets.{member_above}
use Rattle.regress_base.specs.Listing.{lists}
use Rattle.regress_base.specs.Listing.{code_points}
use Rattle.regress_base.proofs.lemmas.Listings.{lists-members, All-from_lists}
use Rattle.regress_tree.specs.declared.ir.node.Node.{Node}
use Rattle.regress_tree.specs.Copies.{is_leaf}
use Rattle.regress_tree.specs.Reading.{Direction}
use Rattle.regress_tree.specs.Shapes.{code_point_count, gap_count, is_small_bracket, is_long_bracket, is_simplified_away}
use Rattle.regress_tree.specs.Tree.{Tree, leaf, char_set, bracket, tree}
use Rattle.regress_tree.specs.WellFormed.{Position, IsBracket, IsSmallSet}
use Rattle.regress_tree.proofs.lemmas.Alike.{Alike-from_same}
use Rattle.regress_tree.proofs.lemmas.Brackets.{gap_count-complement}
use Rattle.regress_tree.proofs.lemmas.ByteSequences.{one_character-agree}
use Rattle.regress_base.proofs.lemmas.Literals.{scalar_in_range}
use Rattle.regress_tree.proofs.lemmas.Measures.{IsLess-lighter}
use Rattle.regress_tree.proofs.lemmas.Positions.{AsOneCharacter-map}
use Rattle.regress_rewrite.specs.declared.action.PassAction.{PassAction}
use Rattle.regress_rewrite.specs.declared.action.PassAction.TheVariants.{Keep, Modified, Remove, Replace}
use Rattle.regress_rewrite.specs.Law.{IsPart, Keeps, after, ObeysLaw}
use Rattle.regress_rewrite.specs.Simplify.{bracket_of, Simplifies}
use Rattle.regress_rewrite.proofs.lemmas.Lawful.{keep_lawful, modified_lawful, replace_lawful}

-- ---- the set of a bracket's code points

length-code_points : (ivs : List Bounds) → length (flat_map code_points ivs) ≡ code_point_count ivs
length-code_points [] = refl
length-code_points (iv ∷ ivs) =
    length-append (code_points iv) (flat_map code_points ivs)
    ∙ ap₂ ◌+◌ (length-range_with_len iv.first (iv.last + 1 - iv.first)) (length-code_points ivs)

-- the number of code points of an interval, as a sum
abbrev pub size : Bounds → ℕ
size iv = iv.last + 1 - iv.first

pub code_point_count-sum : (ivs : List Bounds) → code_point_count ivs ≡ sum_by size ivs
code_point_count-sum [] = refl
code_point_count-sum (iv ∷ ivs) = ap (λ n. size iv + n) (code_point_count-sum ivs) ∙ sym (sum_by-cons size iv ivs)

module _ (ivs : List Bounds) (canonical : IsCanonical ivs) where
  listed-bounded : All (λ c. c ≤ code_point_max) (flat_map code_points ivs)
  listed-bounded = All-from_lists _ _ (λ c listed.
      (member_above 0 ivs c canonical (sym (lists-members 0 ivs c canonical) ∙ listed)).1)

  listed-some : (c : ℕ) → is_member ivs c ≡ true → flat_map code_points ivs ≢ []
  listed-some c member none =
      absurd (false≢true (sym (ap (λ (cs : List ℕ). lists cs c) none) ∙ lists-members 0 ivs c canonical ∙ member))

  listed-occurs : (p : Position) → code_point_count ivs ≤ max_char_set_length → IsBracket false ivs p →
      IsSmallSet (flat_map code_points ivs) code_point_max p
  listed-occurs p small occurs = record {
    bounded = listed-bounded;
    small = omega (arith, length-code_points ivs);
    some = AsOneCharacter-map p _ _ (λ some. listed-some some.0 some.2) occurs.some;
  }

  listed_keeps : (d : Direction) → code_point_count ivs ≤ max_char_set_length →
      Keeps d (leaf (bracket false ivs)) (leaf (char_set (flat_map code_points ivs)))
  listed_keeps d small = record {
    meaning = λ setting text is_text. Alike-from_same (λ s.
        one_character-agree d (encode_utf8_all text) _ _ (λ c is_scalar. sym (lists-members 0 ivs c canonical)) s);
    occurs = λ n p m. listed-occurs p small m;
    captures = refl;
    account = omega arith;
    brackets = λ lacks. refl;
  }

-- ---- the complement

-- a bracket of the complement with `invert` flipped accepts the same characters
accepted-flipped : (invert : Bool) (ivs others : List Bounds) → IsComplement ivs others → (c : ℕ) → c ≤ code_point_max →
    is_accepted (not invert) others c ≡ is_accepted invert ivs c
accepted-flipped false ivs others complement c within = ap not (complement c within) ∙ not-not (is_member ivs c)
accepted-flipped true ivs others complement c within = complement c within

module _ (invert : Bool) (ivs others : List Bounds) (canonical : IsCanonical others) (complement : IsComplement ivs others)
    (long : is_long_bracket (bracket invert ivs) ≡ true) where
  flipped-occurs : (p : Position) → IsBracket invert ivs p → IsBracket (not invert) others p
  flipped-occurs p occurs = record {
    canonical = canonical;
    some = AsOneCharacter-map p _ _
        (λ some. (some.0, some.1, accepted-flipped invert ivs others complement some.0 some.1 ∙ some.2)) occurs.some;
  }

  long-away : is_simplified_away (leaf (bracket invert ivs)) ≡ true
  long-away = or_right (is_small_bracket (bracket invert ivs)) _ long

  flipped_keeps : (d : Direction) → Keeps d (leaf (bracket invert ivs)) (leaf (bracket (not invert) others))
  flipped_keeps d = record {
    meaning = λ setting text is_text. Alike-from_same (λ s.
        one_character-agree d (encode_utf8_all text) _ _
        (λ c is_scalar. sym (accepted-flipped invert ivs others complement c (scalar_in_range c is_scalar))) s);
    occurs = λ n p m. flipped-occurs p m;
    captures = refl;
    account = omega arith;
    brackets = λ lacks. absurd (false≢true (sym lacks ∙ long-away));
  }

-- ---- the law

listed_lawful : (d : Direction) (invert : Bool) (ivs : List Bounds) (left : Tree) (node : Node) → IsCanonical ivs →
    is_small_bracket (bracket invert ivs) ≡ true → tree node ≡ leaf (char_set (flat_map code_points ivs)) →
    ObeysLaw is_simplified_away true d (leaf (bracket invert ivs)) left (Replace node)
listed_lawful d true ivs left node canonical small is = absurd (false≢true small)
listed_lawful d false ivs left node canonical small is =
    replace_lawful is_simplified_away true d (leaf (bracket false ivs)) (or_left _ _ small) left node
    (rw is (listed_keeps ivs canonical d (leb-true _ _ small)))
    (rw is (IsLess-lighter (leaf (char_set (flat_map code_points ivs))) (leaf (bracket false ivs)) (omega arith) (omega arith)))

flipped_lawful : (d : Direction) (invert : Bool) (ivs others : List Bounds) → IsCanonical ivs → IsCanonical others → IsComplement ivs others →
    is_long_bracket (bracket invert ivs) ≡ true →
    ObeysLaw is_simplified_away true d (leaf (bracket invert ivs)) (leaf (bracket (not invert) others)) Modified
flipped_lawful d invert ivs others canonical canonical_others complement long =
    let fewer = ltb-true (gap_count 0 ivs) (length ivs) long in
    modified_lawful is_simplified_away true d (leaf (bracket invert ivs)) (long-away invert ivs others canonical_others complement long)
    (leaf (bracket (not invert) others)) (flipped_keeps invert ivs others canonical_others complement long d)
    (IsLess-lighter (leaf (bracket (not invert) others)) (leaf (bracket invert ivs)) (omega arith)
    (omega (arith, fewer, gap_count-complement ivs others canonical canonical_others complement)))

simplifies_lawful : (d : Direction) (action : PassAction) (old new : BracketContents) → IsCanonical old.cps → Simplifies action old new →
    ObeysLaw is_simplified_away true d (leaf (bracket_of old)) (leaf (bracket_of new)) action
simplifies_lawful d Keep old new canonical simplifies =
    rw simplifies.1 (keep_lawful is_simplified_away true d (leaf (bracket_of old)) simplifies.0)
simplifies_lawful d Modified old new canonical flipped =
    rw flipped.invert (flipped_lawful d old.invert old.cps new.cps canonical flipped.canonical flipped.complement flipped.long)
simplifies_lawful d Remove old new canonical none = absurd none
simplifies_lawful d (Replace node) old new canonical listed =
    listed_lawful d old.invert old.cps (leaf (bracket_of new)) node canonical listed.small listed.set

pub simplify_lawful : (d : Direction) (r : Result PassAction AllocError) (old new : BracketContents) → IsPart (leaf (bracket_of old)) →
    IfOk r (λ action. Simplifies action old new) →
    IfOk r (ObeysLaw is_simplified_away true d (leaf (bracket_of old)) (leaf (bracket_of new)))
simplify_lawful d (Ok action) old new part simplifies = simplifies_lawful d action old new part.2.canonical simplifies
simplify_lawful d (Err e) old new part simplifies = tt

-- what replaces the bracket is a leaf
simplifies_leaf : (action : PassAction) (old new : BracketContents) → Simplifies action old new →
    is_leaf (after action (leaf (bracket_of new))) ≡ true
simplifies_leaf Keep old new simplifies = refl
simplifies_leaf Modified old new flipped = refl
simplifies_leaf Remove old new none = absurd none
simplifies_leaf (Replace node) old new listed = ap is_leaf listed.set

pub simplify_leaf : (r : Result PassAction AllocError) (old new : BracketContents) → IfOk r (λ action. Simplifies action old new) →
    IfOk r (λ action. is_leaf (after action (leaf (bracket_of new))) ≡ true)
simplify_leaf (Ok action) old new simplifies = simplifies_leaf action old new simplifies
simplify_leaf (Err e) old new simplifies = tt
