-- Lists of nodes as trees.
use Rattle.std.proofs.Common.{◌≡◌, ℕ, ◌<◌, Bool, true, false, cond, not, List, [], ◌∷◌, ◌++◌, length, map, refl, sym, ap, subst, ◌∙◌, arith}
use Rattle.regress_base.specs.declared.types.Flags.{Flags}
use Rattle.regress_base.specs.Intervals.{Bounds, is_member, IsCanonical, IsComplement, intervals_of}
use Rattle.regress_base.proofs.lemmas.Sets.{canonical_is, intervals_of-member}
use Rattle.regress_tree.specs.declared.ir.node.Node.{Node}
use Rattle.regress_tree.specs.Reading.{Direction}
use Rattle.regress_base.specs.Table.{Table, is_in_closure}
use Rattle.regress_unicode.proofs.lemmas.Closures.{closure_same}
use Rattle.regress_tree.specs.Tree.{Tree, tree, trees, alt, cat, append_trees, no_trees, more_trees}
use Rattle.regress_syntax.specs.Meaning.{is_in_class}
use Rattle.regress_syntax.specs.Productions.{Context, compares_upper_cases, compared_members}
use Rattle.regress_unicode.specs.UppercaseClosure.{is_in_uppercase_closure}
use Rattle.regress_classes.specs.ClassViews.{HasMembers}
use Rattle.regress_parse.specs.TreeOf.{in_direction, concatenation, alternation}
use Rattle.regress_parse.specs.Parsing.{alternatives}

pub alternatives-push : (nodes : List Node) (node : Node) (last : Tree) →
    alternatives (map tree (nodes ++ node ∷ [])) last ≡ alternatives (map tree nodes) (alt (tree node) last)
alternatives-push [] node last = refl
alternatives-push (n ∷ nodes) node last = ap (alt (tree n)) (alternatives-push nodes node last)

-- Several parts are joined to a `Cat`.
pub joined-many : (d : Direction) (nodes : List Node) → 1 < length nodes → cat (in_direction d (trees nodes)) ≡ concatenation d (trees nodes)
joined-many d [] h = absurd (omega arith)
joined-many d (n ∷ []) h = absurd (omega arith)
joined-many d (n ∷ (m ∷ nodes)) h = refl

pub trees-push : (nodes : List Node) (node : Node) → trees (nodes ++ node ∷ []) ≡ append_trees (trees nodes) (more_trees (tree node) no_trees)
trees-push [] node = refl
trees-push (n ∷ nodes) node = ap (more_trees (tree n)) (trees-push nodes node)

-- ---- alternations

pub alternatives-are : (before : List Node) (last : Node) →
    alternatives (map tree before) (tree last) ≡ alternation (map tree (before ++ last ∷ []))
alternatives-are [] last = refl
alternatives-are (n ∷ []) last = refl
alternatives-are (n ∷ (m ∷ before)) last = ap (alt (tree n)) (alternatives-are (m ∷ before) last)

-- ---- sets of classes

-- With the flag i, the closure of a set is the closure of the members that it was written with.
pub closed_is : (table : Table) (flags : Flags) (members set closed : List Bounds) → flags.icase ≡ true →
    ((c : ℕ) → is_member closed c ≡ is_in_closure table set c) → IsCanonical closed → HasMembers members set →
    closed ≡ intervals_of (is_in_class table flags false members)
closed_is table flags members set closed icase closes canonical has =
    canonical_is closed _ canonical (λ c in_range.
    closes c
    ∙ closure_same table set members has.each c
    ∙ ap (λ b. cond b (is_in_closure table members c) (is_member members c)) (sym icase))

-- Without the flag i, the set is unchanged.
pub unclosed_is : (table : Table) (flags : Flags) (members set : List Bounds) → flags.icase ≡ false → HasMembers members set →
    set ≡ intervals_of (is_in_class table flags false members)
unclosed_is table flags members set icase has =
    canonical_is set _ has.canonical (λ c in_range.
    has.each c ∙ ap (λ b. cond b (is_in_closure table members c) (is_member members c)) (sym icase))

-- Where classes are compared by upper cases, the closure of a set is that of the members that it was written with.
pub compared_has : (ctx : Context) (members set compared : List Bounds) → compares_upper_cases ctx ≡ true →
    ((c : ℕ) → is_member compared c ≡ is_in_uppercase_closure ctx.setting.table set c) → IsCanonical compared → HasMembers members set →
    HasMembers (compared_members ctx members) compared
compared_has ctx members set compared on each canonical has =
    let closed : ℕ → Bool = is_in_uppercase_closure ctx.setting.table members in
    subst (λ (b : Bool). HasMembers (cond b (intervals_of closed) members) compared) (sym on) (record {
      canonical = canonical;
      each = λ c.
          ap (λ (l : List Bounds). is_member l c)
          (canonical_is compared closed canonical
          (λ n le. each n ∙ closure_same (record ctx.setting.table { fold = ctx.setting.table.uppercase }) set members has.each n));
    })

pub uncompared_has : (ctx : Context) (members set : List Bounds) → compares_upper_cases ctx ≡ false → HasMembers members set →
    HasMembers (compared_members ctx members) set
uncompared_has ctx members set off has =
    subst (λ (b : Bool). HasMembers (cond b (intervals_of (is_in_uppercase_closure ctx.setting.table members)) members) set) (sym off) has

pub complement_is : (set other : List Bounds) (test : ℕ → Bool) → IsComplement set other → IsCanonical other → set ≡ intervals_of test →
    other ≡ intervals_of (λ c. not (test c))
complement_is set other test complement canonical same =
    canonical_is other _ canonical (λ c in_range.
    complement c in_range ∙ ap (λ ivs. not (is_member ivs c)) same ∙ ap not (intervals_of-member test c in_range))
