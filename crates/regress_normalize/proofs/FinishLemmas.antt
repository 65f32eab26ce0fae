-- What replaces a packed list of parts is in normal form, and has the facts.
use Rattle.std.proofs.Common.{◌≡◌, ℕ, ◌+◌, ◌≤◌, Bool, true, false, not, ◌&&◌, ◌||◌, ◌⊎◌, max, inl, inr, [], Result, Ok, Err, refl, sym, ap, ap₂, ◌∙◌, subst, arith}
use Rattle.std.specs.Prelude.{IsTrue, IfOk, IsErr}
use Rattle.std.specs.declared.alloc.AllocError.{AllocError}
use Rattle.std.proofs.Math.Bool.{and-false, or-false}
use Rattle.std.proofs.lemmas.Bool.{cases_Bool, or_parts, true≢false, false≢true}
use Rattle.regress_tree.specs.Measures.{total_in_list, nesting, nesting_of_deepest}
use Rattle.regress_tree.specs.NodeTests.{is_empty, is_goal, match_always_fails}
use Rattle.regress_tree.specs.NormalForm.{IsNormal}
use Rattle.regress_tree.specs.Reading.{Direction}
use Rattle.regress_tree.specs.Shapes.{on_leaf, on_wrapper, some_node, some_node_in_list, some_part, has_group, is_group, is_loop, is_string_set, is_cat, has_cat, is_short, ListLacksShape, is_flattened_away, is_formed_away, is_emptied_away, is_failed_away}
use Rattle.regress_tree.specs.Tree.{Tree, Trees, leaf, empty, byte_set, cat, alt, wrapped, no_trees, more_trees}
use Rattle.regress_tree.specs.Units.{charges}
use Rattle.regress_tree.proofs.lemmas.Measures.{some_part-append, LacksShape-here, LacksShape-inside, LacksShape-from}
use Rattle.regress_rewrite.specs.Law.{IsPart, Keeps}
use Rattle.regress_rewrite.specs.Splice.{parts_of, spliced}
use Rattle.regress_rewrite.proofs.lemmas.Failing.{fails_keeps}
use Rattle.regress_rewrite.proofs.lemmas.Flattening.{some_node-spliced}
use Rattle.regress_rewrite.proofs.lemmas.Keeps.{Keeps-trans, Keeps-no_part, Keeps-one_part}
use Rattle.regress_normalize.specs.Normalized.{HasGoal, Normalized, ListIsNormal, IsCatOf}
use Rattle.regress_normalize.specs.Packed.{IsPacked, IsListPacked, IsFactsOf}
use Rattle.regress_normalize.specs.PartFacts.{HasFacts, HasListFacts}
use Rattle.regress_normalize.specs.declared.facts.PartFacts.{PartFacts}
use Rattle.regress_normalize.specs.declared.facts.ListFacts.{ListFacts}
use Rattle.regress_normalize.proofs.GoalLemmas.{cat_goal, only_goal}
use Rattle.regress_normalize.proofs.NormalLemmas.{Kind, simplified, flattened, unrolled, promoted, formed, emptied, failed, shape, lacks, normal_from, empty_normal, nothing_normal}
use Rattle.regress_normalize.proofs.PackedLemmas.{ListIsNormal-append}

-- ---- lists of parts in normal form

-- no node of the list has a shape to be removed
abbrev IsNormalList : Trees → Type 0
IsNormalList ts = (k : Kind) → ListLacksShape (shape k) ts

each_normal : (ts : Trees) → IsNormalList ts → ListIsNormal ts
each_normal no_trees all = tt
each_normal (more_trees t ts) all = (
  normal_from t (λ k. (or_parts (some_node (shape k) t) (some_node_in_list (shape k) ts) (all k)).0),
  each_normal ts (λ k. (or_parts (some_node (shape k) t) (some_node_in_list (shape k) ts) (all k)).1),
)

all_normal : (ts : Trees) → ListIsNormal ts → IsNormalList ts
all_normal no_trees each k = refl
all_normal (more_trees t ts) each k = ap₂ ◌||◌ (lacks t each.0 k) (all_normal ts each.1 k)

inside_normal : (ts : Trees) → IsNormal (cat ts) → IsNormalList ts
inside_normal ts normal k = LacksShape-inside (shape k) (cat ts) (lacks (cat ts) normal k)

cat_normal : (ts : Trees) → ListIsNormal ts → is_short ts ≡ false → has_cat ts ≡ false → IsPacked ts → is_failed_away (cat ts) ≡ false →
    IsNormal (cat ts)
cat_normal ts each long no_cat packed fails = normal_from (cat ts) (λ k. LacksShape-from (shape k) (cat ts) (all_normal ts each k) (here k))
  where
    here : (k : Kind) → shape k (cat ts) ≡ false
    here simplified = refl
    here flattened = ap₂ ◌||◌ long no_cat
    here unrolled = refl
    here promoted = refl
    here formed = packed.no_neighbours
    here emptied = packed.no_empty
    here failed = fails

-- what holds of the parts of a `Cat` in normal form
record IsCleanList (ts : Trees) : Type 0 where
  long : is_short ts ≡ false
  no_cat : has_cat ts ≡ false
  packed : IsPacked ts

clean_list : (ts : Trees) → IsNormal (cat ts) → IsCleanList ts
clean_list ts normal =
    let shape = or_parts (is_short ts) (has_cat ts) (LacksShape-here is_flattened_away (cat ts) normal.flattened) in
    record {
      long = shape.0;
      no_cat = shape.1;
      packed = record {
        no_empty = LacksShape-here is_emptied_away (cat ts) normal.emptied;
        no_neighbours = LacksShape-here is_formed_away (cat ts) normal.formed;
      };
    }

-- ---- such lists, spliced

parts_normal : (t : Tree) → IsNormal t → ListIsNormal (parts_of t)
parts_normal (leaf l) normal = (normal, tt)
parts_normal (cat parts) normal = each_normal parts (inside_normal parts normal)
parts_normal (alt left right) normal = (normal, tt)
parts_normal (wrapped w body) normal = (normal, tt)

spliced_normal : (ts : Trees) → ListIsNormal ts → ListIsNormal (spliced ts)
spliced_normal no_trees each = tt
spliced_normal (more_trees t ts) each =
    ListIsNormal-append (parts_of t) (spliced ts) (parts_normal t each.0) (spliced_normal ts each.1)

parts_no_cat : (t : Tree) → IsNormal t → has_cat (parts_of t) ≡ false
parts_no_cat (leaf l) normal = refl
parts_no_cat (cat parts) normal = (clean_list parts normal).no_cat
parts_no_cat (alt left right) normal = refl
parts_no_cat (wrapped w body) normal = refl

spliced_no_cat : (ts : Trees) → ListIsNormal ts → has_cat (spliced ts) ≡ false
spliced_no_cat no_trees each = refl
spliced_no_cat (more_trees t ts) each =
    some_part-append is_cat (parts_of t) (spliced ts) ∙ ap₂ ◌||◌ (parts_no_cat t each.0) (spliced_no_cat ts each.1)

-- without a group the condition on groups can be dropped
alone : (a b : Bool) → (a && not b) ≡ false → b ≡ false → a ≡ false
alone true true is none = absurd (true≢false none)
alone true false is none = absurd (true≢false is)
alone false b is none = refl

parts_fail : (t : Tree) → IsNormal t → has_group t ≡ false → match_always_fails t ≡ false →
    some_part match_always_fails (parts_of t) ≡ false
parts_fail (leaf l) normal free fails = ap (λ b. b || false) fails
parts_fail (cat parts) normal free fails =
    alone (some_part match_always_fails parts) (has_group (cat parts)) (LacksShape-here is_failed_away (cat parts) normal.failed) free
parts_fail (alt left right) normal free fails = refl
parts_fail (wrapped w body) normal free fails = refl

spliced_fail : (ts : Trees) → ListIsNormal ts → some_node_in_list (on_wrapper is_group) ts ≡ false →
    some_part match_always_fails ts ≡ false → some_part match_always_fails (spliced ts) ≡ false
spliced_fail no_trees each free fails = refl
spliced_fail (more_trees t ts) each free fails =
    let groups = or_parts (has_group t) (some_node_in_list (on_wrapper is_group) ts) free in
    let failing = or_parts (match_always_fails t) (some_part match_always_fails ts) fails in
    some_part-append match_always_fails (parts_of t) (spliced ts)
    ∙ ap₂ ◌||◌ (parts_fail t each.0 groups.0 failing.0) (spliced_fail ts each.1 groups.1 failing.1)

-- ---- nesting depth

nesting-positive : (t : Tree) → 1 ≤ nesting t
nesting-positive (leaf l) = omega arith
nesting-positive (cat parts) = omega arith
nesting-positive (alt left right) = omega arith
nesting-positive (wrapped w body) = omega arith

deepest-positive : (ts : Trees) → is_short ts ≡ false → 1 ≤ nesting_of_deepest ts
deepest-positive no_trees long = absurd (true≢false long)
deepest-positive (more_trees t no_trees) long = absurd (true≢false long)
deepest-positive (more_trees t (more_trees u us)) long = omega (arith, nesting-positive t)

-- ---- a packed list

failing_free : (t : Tree) → match_always_fails t ≡ true → has_group t ≡ false
failing_free (leaf l) is = refl
failing_free (cat parts) is = absurd (false≢true is)
failing_free (alt left right) is = absurd (false≢true is)
failing_free (wrapped w body) is = absurd (false≢true is)

no_one : (b : Bool) → b ≡ false → (P : Type 0) → IsTrue b → P
no_one b is P holds = absurd (false≢true (sym is ∙ holds))

module _ (d : Direction) (list : ListFacts) (ts new : Trees) (taken : ℕ) (each : ListIsNormal ts) (facts : HasListFacts list ts)
    (done : IsListPacked d ts new taken) (lasting : (list.some_fails && not list.has_group) ≡ false) where
  charge_new : total_in_list charges new + taken ≡ list.charge
  charge_new = omega (arith, done.packs.charge, done.count, facts.charge)

  nesting_new : max 1 (nesting_of_deepest new) ≡ list.nesting
  nesting_new = done.packs.nesting ∙ sym facts.nesting

  group_new : some_node_in_list (on_wrapper is_group) new ≡ list.has_group
  group_new = done.packs.wrappers is_group ∙ some_node-spliced (on_wrapper is_group) (λ us. refl) ts ∙ sym facts.has_group

  loop_new : some_node_in_list (on_wrapper is_loop) new ≡ list.has_loop
  loop_new = done.packs.wrappers is_loop ∙ some_node-spliced (on_wrapper is_loop) (λ us. refl) ts ∙ sym facts.has_loop

  string_set_new : some_node_in_list (on_leaf is_string_set) new ≡ list.has_string_set
  string_set_new = done.packs.string_sets ∙ some_node-spliced (on_leaf is_string_set) (λ us. refl) ts ∙ sym facts.has_string_set

  lasting_new : (some_part match_always_fails new && not (some_node_in_list (on_wrapper is_group) new)) ≡ false
  lasting_new = elim (cases_Bool list.has_group) [
    | inl is ↦
        ap (λ b. some_part match_always_fails new && not b) (group_new ∙ is) ∙ and-false (some_part match_always_fails new)
    | inr is_not ↦
        let none = alone list.some_fails list.has_group lasting is_not in
        let fails = done.packs.fails ∙ spliced_fail ts each (sym facts.has_group ∙ is_not) (sym facts.some_fails ∙ none) in
        ap (λ b. b && not (some_node_in_list (on_wrapper is_group) new)) fails
  ]

  new_normal : ListIsNormal new
  new_normal = done.packs.normal (spliced_normal ts each)

  new_cat_normal : is_short new ≡ false → IsNormal (cat new)
  new_cat_normal long = cat_normal new new_normal long (done.packs.cats ∙ spliced_no_cat ts each) done.packed lasting_new

  new_cat_facts : is_short new ≡ false → (f : PartFacts) → IsFactsOf list taken 1 f → HasFacts f (cat new)
  new_cat_facts long f is = record {
    charge = omega (arith, is.charge, charge_new);
    nesting = omega (arith, is.nesting, nesting_new, deepest-positive new long);
    has_group = is.has_group ∙ sym group_new;
    has_loop = is.has_loop ∙ sym loop_new;
    has_string_set = is.has_string_set ∙ sym string_set_new;
    always_fails = is.always_fails;
    one = no_one f.was_one_character is.was_one_character _;
  }

  module _ (t : Tree) (one : new ≡ more_trees t no_trees) where
    one_normal : IsNormal t
    one_normal = (subst ListIsNormal one new_normal).0

    one_lasting : match_always_fails t ≡ false
    one_lasting = elim (cases_Bool (match_always_fails t)) [
      | inl is ↦
          let same = subst
          (λ (us : Trees). (some_part match_always_fails us && not (some_node_in_list (on_wrapper is_group) us)) ≡ false) one lasting_new in
          absurd (true≢false (sym (ap₂ (λ a b. (a || false) && not (b || false)) is (failing_free t is)) ∙ same))
      | inr is_not ↦ is_not
    ]

    one_facts : (f : PartFacts) → IsFactsOf list taken 0 f → HasFacts f t
    one_facts f is = record {
      charge = omega (arith, is.charge, charge_new, ap (total_in_list charges) one);
      nesting = omega (arith, is.nesting, nesting_new, ap nesting_of_deepest one, nesting-positive t);
      has_group = is.has_group ∙ sym group_new ∙ ap (some_node_in_list (on_wrapper is_group)) one ∙ or-false _;
      has_loop = is.has_loop ∙ sym loop_new ∙ ap (some_node_in_list (on_wrapper is_loop)) one ∙ or-false _;
      has_string_set = is.has_string_set ∙ sym string_set_new ∙ ap (some_node_in_list (on_leaf is_string_set)) one ∙ or-false _;
      always_fails = is.always_fails ∙ sym one_lasting;
      one = no_one f.was_one_character is.was_one_character _;
    }

    one_some : is_empty t ≡ false
    one_some = (or_parts (is_empty t) false (sym (ap (some_part is_empty) one) ∙ done.packed.no_empty)).0

-- ---- the results of the calls

-- parts in normal form with their facts
pub record AreParts (list : ListFacts) (ts : Trees) : Type 0 where
  pub each : ListIsNormal ts
  pub facts : HasListFacts list ts

pub parts_of_cat : (list : ListFacts) (t : Tree) (ts : Trees) → IsCatOf list t → t ≡ cat ts → AreParts list ts
parts_of_cat list t ts given is =
    let same : given.parts ≡ ts = ap parts_of (sym given.is ∙ is) in
    record {
      each = subst ListIsNormal same given.normal;
      facts = subst (λ (us : Trees). HasListFacts list us) same given.facts;
    }

both_and : (a b : Bool) → (a && not b) ≡ true → (a ≡ true) × (b ≡ false)
both_and true true is = absurd (false≢true is)
both_and true false is = (refl, refl)
both_and false b is = absurd (false≢true is)

module _ (d : Direction) (list : ListFacts) (ts : Trees) (given : AreParts list ts) where
  pub fails_normalized : IsPart (cat ts) → (list.some_fails && not list.has_group) ≡ true → (f : PartFacts) →
      HasFacts f (leaf (byte_set [])) → f.was_one_character ≡ false → Normalized d (cat ts) (leaf (byte_set [])) (Ok f)
  fails_normalized part is f has many =
      let both = both_and list.some_fails list.has_group is in
      let fails : some_part match_always_fails ts ≡ true = sym given.facts.some_fails ∙ both.0 in
      let free : has_group (cat ts) ≡ false = sym given.facts.has_group ∙ both.1 in
      record {
        keeps = fails_keeps d (cat ts) refl fails free part;
        goal = λ has_goal. inr refl;
        normal = nothing_normal;
        facts = has;
        left = λ normal.
            absurd (true≢false (sym (ap₂ (λ a b. a && not b) fails free) ∙ LacksShape-here is_failed_away (cat ts) normal.failed));
        still_one = λ normal. no_one f.was_one_character many _;
      }

  module _ (new : Trees) (keeps : Keeps d (cat ts) (cat new)) (left : has_cat ts ≡ false → IsPacked ts → new ≡ ts)
      (goals : some_part is_goal ts ≡ true → some_part is_goal new ≡ true) where
    list_goal : HasGoal (cat ts) → HasGoal (cat new)
    list_goal has_goal = inl (goals (cat_goal ts has_goal))

    left_whole : IsNormal (cat ts) → new ≡ ts
    left_whole normal =
        let clean = clean_list ts normal in
        left clean.no_cat clean.packed

    -- a `Cat` that became too short was not in normal form
    not_left : is_short new ≡ true → IsNormal (cat ts) → ⊥
    not_left short normal = true≢false (sym short ∙ ap is_short (left_whole normal) ∙ (clean_list ts normal).long)

    pub err_normalized : (r : Result PartFacts AllocError) → IsErr r → Normalized d (cat ts) (cat new) r
    err_normalized (Ok f) err = absurd (false≢true err)
    err_normalized (Err e) err = record {
      keeps = keeps;
      goal = list_goal;
      normal = tt;
      facts = tt;
      left = λ normal. ap cat (left_whole normal);
      still_one = λ normal. tt;
    }

    module _ (taken : ℕ) (done : IsListPacked d ts new taken) (lasting : (list.some_fails && not list.has_group) ≡ false) where
      pub cat_normalized : is_short new ≡ false → (r : Result PartFacts AllocError) → IfOk r (IsFactsOf list taken 1) →
          Normalized d (cat ts) (cat new) r
      cat_normalized long (Ok f) is = record {
        keeps = keeps;
        goal = list_goal;
        normal = new_cat_normal d list ts new taken given.each given.facts done lasting long;
        facts = new_cat_facts d list ts new taken given.each given.facts done lasting long f is;
        left = λ normal. ap cat (left_whole normal);
        still_one = λ normal. no_one f.was_one_character is.was_one_character _;
      }
      cat_normalized long (Err e) is = record {
        keeps = keeps;
        goal = list_goal;
        normal = tt;
        facts = tt;
        left = λ normal. ap cat (left_whole normal);
        still_one = λ normal. tt;
      }

      module _ (t : Tree) where
        abbrev Occurs : Type 0
        Occurs = ((new ≡ no_trees) × (t ≡ leaf empty)) ⊎ (new ≡ more_trees t no_trees)

        pub empty_normalized : Occurs → is_empty t ≡ true → (f : PartFacts) → HasFacts f (leaf empty) → f.was_one_character ≡ false →
            Normalized d (cat ts) t (Ok f)
        empty_normalized (inl none) is f has many =
            subst (λ (u : Tree). Normalized d (cat ts) u (Ok f)) (sym none.1) (record {
              keeps = Keeps-trans d (subst (λ (us : Trees). Keeps d (cat ts) (cat us)) none.0 keeps) (Keeps-no_part d);
              goal = λ has_goal.
                  absurd (false≢true (sym (ap (some_part is_goal) none.0) ∙ cat_goal new (list_goal has_goal)));
              normal = empty_normal;
              facts = has;
              left = λ normal. absurd (not_left (ap is_short none.0) normal);
              still_one = λ normal. no_one f.was_one_character many _;
            })
        empty_normalized (inr one) is f has many =
            absurd (true≢false (sym is ∙ one_some d list ts new taken given.each given.facts done lasting t one))

        alone_keeps : new ≡ more_trees t no_trees → Keeps d (cat ts) t
        alone_keeps one = Keeps-trans d (subst (λ (us : Trees). Keeps d (cat ts) (cat us)) one keeps) (Keeps-one_part d t)

        alone_goal : new ≡ more_trees t no_trees → HasGoal (cat ts) → HasGoal t
        alone_goal one has_goal = only_goal t (subst (λ (us : Trees). HasGoal (cat us)) one (list_goal has_goal))

        pub alone_normalized : Occurs → is_empty t ≡ false → (r : Result PartFacts AllocError) → IfOk r (IsFactsOf list taken 0) →
            Normalized d (cat ts) t r
        alone_normalized (inl none) some r is = absurd (true≢false (sym (ap is_empty none.1) ∙ some))
        alone_normalized (inr one) some (Ok f) is = record {
          keeps = alone_keeps one;
          goal = alone_goal one;
          normal = one_normal d list ts new taken given.each given.facts done lasting t one;
          facts = one_facts d list ts new taken given.each given.facts done lasting t one f is;
          left = λ normal. absurd (not_left (ap is_short one) normal);
          still_one = λ normal. no_one f.was_one_character is.was_one_character _;
        }
        alone_normalized (inr one) some (Err e) is = record {
          keeps = alone_keeps one;
          goal = alone_goal one;
          normal = tt;
          facts = tt;
          left = λ normal. absurd (not_left (ap is_short one) normal);
          still_one = λ normal. tt;
        }
