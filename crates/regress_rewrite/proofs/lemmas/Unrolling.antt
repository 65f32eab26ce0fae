-- Unrolling keeps what the law requires, and makes the tree less.
use Rattle.std.proofs.Common.{◌≡◌, ℕ, zero, suc, ◌+◌, ◌-◌, ◌*◌, ◌≤◌, Bool, true, false, ◌||◌, inl, inr, List, [], ◌∷◌, ◌++◌, length, Option, Some, None, refl, sym, ap, ap₂, ◌∙◌, append-nil, flat_map, mul-le-mul, arith}
use Rattle.std.specs.Prelude.{encode_utf8_all}
use Rattle.std.specs.Option.{option_eq}
use lib.Dec.{eqb}
use Rattle.std.proofs.lemmas.Bool.{cases_Bool, false≢true, eqb-true}
use Rattle.std.proofs.lemmas.Bool.Decides.{nat_tests}
use mathlib.Core.Path.{fun_ext}
use Rattle.regress_tree.specs.declared.ir.node.Node.{Node}
use Rattle.regress_base.specs.declared.types.Quantifier.{Quantifier}
use Rattle.regress_tree.specs.Copies.{HasNoGroup}
use Rattle.regress_tree.specs.Matching.{steps, steps_of_parts}
use Rattle.regress_tree.specs.Measures.{total_in_list, nesting}
use Rattle.regress_tree.specs.Reading.{Direction}
use Rattle.regress_tree.specs.Repetition.{iterations, up_to, extra_iterations, repeat_matcher}
use Rattle.regress_tree.specs.Shapes.{has_loop, has_string_set, is_simplified_away, max_body_charge, max_body_nesting, may_unroll, may_unroll_by, is_unrolled_away, is_zero, LacksShape, ListLacksShape}
use Rattle.regress_tree.specs.Steps.{MatchState, Matcher, ◌then_◌, Setting}
use Rattle.regress_tree.specs.Tree.{Tree, Trees, leaf, cat, alt, wrapped, capture_group, loop, loop_one, lookaround, no_trees, more_trees, append_trees, copies, tree, trees}
use Rattle.regress_tree.specs.Units.{sizes, units, unrollables, loops, unrolling, charge, IsLess}
use Rattle.regress_tree.specs.WellFormed.{captures, captures_of_trees, Position, inside, last_of, IsQuantifier, IsAllowed, PartsAllowed}
use Rattle.regress_tree.proofs.lemmas.Alike.{Alike-from_same}
use Rattle.regress_tree.proofs.lemmas.Copies.{copies-occur, captures-copies}
use Rattle.regress_tree.proofs.lemmas.Groups.{captures-none, HasNoGroup-from, iteration-none}
use Rattle.regress_tree.proofs.lemmas.Measures.{total-append, total-copies, loops-none, units-le, some_node-copies, ListLacksShape-append}
use Rattle.regress_tree.proofs.lemmas.Outcomes.{flat_map-stay}
use Rattle.regress_tree.proofs.lemmas.Positions.{last_of-free}
use Rattle.regress_tree.proofs.lemmas.Lists.{append_trees-none, steps-append, captures-append, trees-append, PartsAllowed-append}
use Rattle.regress_rewrite.specs.declared.action.PassAction.TheVariants.{Modified}
use Rattle.regress_rewrite.specs.Law.{IsPart, Keeps, ObeysLaw}
use Rattle.regress_rewrite.specs.Unroll.{further_iterations, further_loop, unrolled}
use Rattle.regress_rewrite.proofs.lemmas.Lawful.{modified_lawful}

-- The iterations that may follow the minimum.

extra_iterations-further : (bound least : ℕ) (max : Option ℕ) (greedy : Bool) →
    extra_iterations bound (further_iterations (record { min = least; max = max; greedy = greedy }))
    ≡ extra_iterations bound (record { min = least; max = max; greedy = greedy })
extra_iterations-further bound least None greedy = refl
extra_iterations-further bound least (Some max) greedy = omega arith

extra_iterations-none : (bound least : ℕ) (max : Option ℕ) (greedy : Bool) →
    is_zero (further_iterations (record { min = least; max = max; greedy = greedy })).max ≡ true →
    extra_iterations bound (record { min = least; max = max; greedy = greedy }) ≡ 0
extra_iterations-none bound least None greedy none = absurd (false≢true none)
extra_iterations-none bound least (Some max) greedy none = omega (arith, eqb-true (max - least) 0 none)

-- the test that the maximum is 0, as `==` computes it
pub is_zero-reported : (max : Option ℕ) → is_zero max ≡ option_eq eqb max (Some 0)
is_zero-reported None = refl
is_zero-reported (Some n) = refl

pub IsQuantifier-further : (least : ℕ) (max : Option ℕ) (greedy : Bool) →
    IsQuantifier (further_iterations (record { min = least; max = max; greedy = greedy }))
IsQuantifier-further least None greedy = tt
IsQuantifier-further least (Some max) greedy = omega arith

-- The conditions under which a loop is unrolled.
pub record MayUnroll (q : Quantifier) (start end : ℕ) (body : Tree) : Type 0 where
  pub groupless : end ≤ start
  pub least : 1 ≤ q.min
  pub most : q.min ≤ 5
  pub no_loop : has_loop body ≡ false
  pub no_strings : has_string_set body ≡ false
  pub charge : charge body ≤ max_body_charge
  pub nesting : nesting body ≤ max_body_nesting

pub MayUnroll-from : (q : Quantifier) (start end : ℕ) (body : Tree) → may_unroll q start end body ≡ true → MayUnroll q start end body
MayUnroll-from q start end body may = by (has_loop body) refl (has_string_set body) refl may
  where
    by : (loops : Bool) → has_loop body ≡ loops → (strings : Bool) → has_string_set body ≡ strings →
        may_unroll_by q start end loops strings (charge body) (nesting body) ≡ true → MayUnroll q start end body
    by true l strings s may = absurd (grind (arith, nat_tests))
    by false l true s may = absurd (grind (arith, nat_tests))
    by false l false s may = record {
      groupless = grind (arith, nat_tests);
      least = grind (arith, nat_tests);
      most = grind (arith, nat_tests);
      no_loop = l;
      no_strings = s;
      charge = grind (arith, nat_tests);
      nesting = grind (arith, nat_tests);
    }

module _ (q : Quantifier) (start end : ℕ) (body : Tree) where
  -- what holds of the parts after the copies, with and without a remaining loop
  pub with_further : (P : Trees → Type 0) → (is_zero (further_iterations q).max ≡ true → P no_trees) →
      P (more_trees (wrapped (loop (further_iterations q) start end) body) no_trees) → P (further_loop q start end body)
  with_further P none some = elim (cases_Bool (is_zero (further_iterations q).max)) [
    | inl is ↦ rw is (none is)
    | inr is_not ↦ rw is_not some
  ]

  -- What it matches.

  module _ (ends : end ≤ start) (setting : Setting) (bytes : List ℕ) (d : Direction) where
    abbrev body_steps : Matcher
    body_steps = steps setting bytes d body

    abbrev bound : ℕ
    bound = length bytes + 1

    steps-copies : (n : ℕ) → steps_of_parts setting bytes d (copies n body) ≡ iterations n body_steps
    steps-copies zero = refl
    steps-copies (suc n) = ap (λ (g : Matcher). body_steps then_ g) (steps-copies n)

    steps-loop : (s : MatchState) → steps setting bytes d (wrapped (loop q start end) body) s
        ≡ (iterations q.min body_steps then_ up_to q.greedy (extra_iterations bound q) body_steps) s
    unfolding repeat_matcher
    steps-loop s =
        ap (λ (f : Matcher). (iterations q.min f then_ up_to q.greedy (extra_iterations bound q) f) s) (iteration-none start end ends body_steps)

    steps-further : (s : MatchState) → steps setting bytes d (wrapped (loop (further_iterations q) start end) body) s
        ≡ up_to q.greedy (extra_iterations bound q) body_steps s
    unfolding repeat_matcher
    steps-further s =
        append-nil _
        ∙ ap₂ (λ (n : ℕ) (f : Matcher). up_to q.greedy n f s) (extra_iterations-further bound q.min q.max q.greedy) (iteration-none start end ends body_steps)

    steps-further_loop : (s : MatchState) → steps_of_parts setting bytes d (further_loop q start end body) s
        ≡ up_to q.greedy (extra_iterations bound q) body_steps s
    steps-further_loop s =
        with_further (λ ts. steps_of_parts setting bytes d ts s ≡ up_to q.greedy (extra_iterations bound q) body_steps s)
        (λ none. ap (λ (n : ℕ). up_to q.greedy n body_steps s) (sym (extra_iterations-none bound q.min q.max q.greedy none)))
        (flat_map-stay _ ∙ steps-further s)

    steps-unrolled : (s : MatchState) → steps setting bytes d (unrolled q start end body) s
        ≡ steps setting bytes d (wrapped (loop q start end) body) s
    steps-unrolled s =
        steps-append setting bytes d (copies q.min body) (further_loop q start end body) s
        ∙ ap₂ (λ (f g : Matcher). flat_map g (f s)) (steps-copies q.min) (fun_ext steps-further_loop)
        ∙ sym (steps-loop s)

  -- Where it may appear, its groups and its size.

  unrolled-occur : (n : ℕ) (p : Position) → IsAllowed n (wrapped (loop q start end) body) p → IsAllowed n (unrolled q start end body) p
  unrolled-occur n p m =
      let after = with_further (λ ts. PartsAllowed n ts (last_of p)) (λ none. tt)
      (last_of-free p, (IsQuantifier-further q.min q.max q.greedy, m.1.1), m.2) in
      (m.0, PartsAllowed-append n (copies q.min body) (further_loop q start end body) p (copies-occur n q.min body m.2) after)

  captures-unrolled : captures body ≡ [] → captures (unrolled q start end body) ≡ captures body
  captures-unrolled none =
      let after : captures_of_trees (further_loop q start end body) ≡ [] =
      with_further (λ ts. captures_of_trees ts ≡ []) (λ zero. refl) (append-nil (captures body) ∙ none) in
      captures-append (copies q.min body) (further_loop q start end body)
      ∙ ap₂ ◌++◌ (captures-copies q.min body none) after ∙ sym none

  loops-unrolled : loops body ≡ 0 → loops (unrolled q start end body) ≡ 0
  loops-unrolled none =
      let after : total_in_list unrollables (further_loop q start end body) ≡ 0 =
      with_further (λ ts. total_in_list unrollables ts ≡ 0) (λ zero. refl) (omega (arith, none)) in
      let first : total_in_list unrollables (copies q.min body) ≡ 0 = omega (arith, total-copies unrollables q.min body, ap (λ n. q.min * n) none) in
      omega (arith, first, after, total-append unrollables (copies q.min body) (further_loop q start end body))

  units-unrolled : q.min ≤ 5 → units body ≤ 5 * max_body_charge → units (unrolled q start end body) ≤ units body + (unrolling + 1)
  units-unrolled most small =
      let after : total_in_list sizes (further_loop q start end body) ≤ 1 + units body =
      with_further (λ ts. total_in_list sizes ts ≤ 1 + units body) (λ zero. omega arith) (omega arith) in
      let each : q.min * units body ≤ 5 * (5 * max_body_charge) = mul-le-mul most small in
      omega (arith, each, after, total-copies sizes q.min body, total-append sizes (copies q.min body) (further_loop q start end body))

  lacks-unrolled : LacksShape is_simplified_away body → LacksShape is_simplified_away (unrolled q start end body)
  lacks-unrolled lacks =
      ListLacksShape-append is_simplified_away (copies q.min body) (further_loop q start end body)
      (some_node-copies is_simplified_away q.min body lacks)
      (with_further (λ ts. ListLacksShape is_simplified_away ts) (λ zero. refl) (ap (λ b. b || false) lacks))

  module _ (may : MayUnroll q start end body) where
    one_loop : 1 ≤ loops (wrapped (loop q start end) body)
    one_loop = grind (arith, nat_tests)

    -- the body has no group, so it may be copied
    pub body_groupless : IsPart (wrapped (loop q start end) body) → HasNoGroup body
    body_groupless part = HasNoGroup-from part.0 body inside part.2.2 (captures-none start end body part.2.1.1 may.groupless)

    pub unrolled_keeps : (d : Direction) → IsPart (wrapped (loop q start end) body) → Keeps d (wrapped (loop q start end) body) (unrolled q start end body)
    unrolled_keeps d part =
        let n = part.0 in
        let m = part.2 in
        let none = captures-none start end body m.1.1 may.groupless in
        let small : units body ≤ 5 * max_body_charge = omega (arith, units-le n body inside m.2, may.charge) in
        record {
          meaning = λ setting text is_text. Alike-from_same (λ s.
              sym (steps-unrolled may.groupless setting (encode_utf8_all text) d s));
          occurs = unrolled-occur;
          captures = captures-unrolled none;
          account = omega (arith, units-unrolled may.most small, loops-unrolled (loops-none body may.no_loop), one_loop);
          brackets = lacks-unrolled;
        }

    pub unrolled_less : IsLess (unrolled q start end body) (wrapped (loop q start end) body)
    unrolled_less = record { less = inl (omega (arith, loops-unrolled (loops-none body may.no_loop), one_loop)) }

  -- The node that the code makes: the copies, without a loop and with it.

  module _ (parts : List Node) (copied : trees parts ≡ copies q.min body) where
    pub unrolled-without : is_zero (further_iterations q).max ≡ true → cat (trees parts) ≡ unrolled q start end body
    unrolled-without none = rw none (ap cat copied ∙ ap cat (sym (append_trees-none (copies q.min body))))
