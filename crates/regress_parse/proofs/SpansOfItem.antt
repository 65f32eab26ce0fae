-- The spans of an item and of its quantifier, by what was parsed.
use Rattle.std.proofs.Common.{◌≡◌, ℕ, Bool, true, false, ◌==◌, List, [], ◌∷◌, ◌++◌, drop, replicate, Option, Some, Ok, refl, sym, ap, ◌∙◌, subst}
use Rattle.std.proofs.lemmas.List.{append_assoc}
use Rattle.std.proofs.lemmas.Bool.{false≢true, cond-false}
use Rattle.std.proofs.lemmas.Option.{same_Some}
use Rattle.regress_base.specs.declared.types.Quantifier.{Quantifier}
use Rattle.regress_tree.specs.declared.ir.node.Node.{Node}
use Rattle.regress_tree.specs.Tree.{tree}
use Rattle.regress_tree.specs.Visits.{nodes}
use Rattle.regress_tree.specs.Reading.{Direction}
use Rattle.regress_lexer.specs.Source.{Source, Found, found_map, opening, closing, is_at}
use Rattle.regress_syntax.specs.Syntax.{Atom, Group, grouping, Pattern, Item, atom, group, direction_of_group}
use Rattle.regress_syntax.specs.Productions.{Context, context_inside, Head, single, opens, head_of_item, group_allows, atom_allows, allows, head_at, optional_quantifier_at}
use Rattle.regress_syntax.specs.Grammar.{IsPattern, IsItem}
use Rattle.regress_parse.specs.Parsing.{atom_at, ReadsAtom}
use Rattle.regress_parse.specs.TreeOf.{tree_of_atom}
use Rattle.regress_parse.specs.declared.span.Span.{Span}
use Rattle.regress_parse.specs.Spans.{span_of_times, span_of_group, between, spans_of_pattern, spans_of_item}
use Rattle.regress_parse.specs.Recorded.{IsFlat, Adds, RecordsPattern, RecordsTerm, RecordsItem}
use Rattle.regress_parse.proofs.FlatLemmas.{atom-flat}

-- the group that the start of an item opens; a placeholder for other items
opened : Head → Group
opened (single a) = grouping
opened (opens kind) = kind

opened-is : (kind other : Group) (t rest : Source) → ◌≡◌ {A = Found Head} (Some (opens kind, t)) (Some (opens other, rest)) → kind ≡ other
unfolding opened
opened-is kind other t rest e = ap (λ (x : Head × Source). opened x.0) (same_Some (opens kind, t) (opens other, rest) e)

is_single : Head → Bool
is_single (single a) = true
is_single (opens kind) = false

apart : (a : Atom) (kind : Group) (t rest : Source) → ◌≡◌ {A = Found Head} (Some (single a, t)) (Some (opens kind, rest)) → ⊥
unfolding is_single
apart a kind t rest e = false≢true (sym (ap (λ (x : Head × Source). is_single x.0) (same_Some (single a, t) (opens kind, rest) e)))

the_atom : (a : Atom) → Head → Atom
the_atom a (single b) = b
the_atom a (opens kind) = a

single-is : (a b : Atom) (t rest : Source) → ◌≡◌ {A = Found Head} (Some (single a, t)) (Some (single b, rest)) → a ≡ b
unfolding the_atom
single-is a b t rest e = ap (λ (x : Head × Source). the_atom a x.0) (same_Some (single a, t) (single b, rest) e)

after-is : {A : Type 0} (x y : A × Source) → Some x ≡ Some y → x.1 ≡ y.1
after-is {A} x y e = ap (λ (z : A × Source). z.1) (same_Some x y e)

module _ (ctx : Context) where
  -- Without a `(` the start of an item is a single item.
  pub atom_head : (t : Source) → is_at opening t ≡ false → head_at ctx t ≡ found_map single (atom_at ctx t)
  unfolding head_at
  atom_head [] none = refl
  atom_head (c ∷ t) none = cond-false (c == opening) _ _ none

  module _ (whole : ℕ) (d : Direction) (t : Source) (before : List Span) where
    -- ---- groups

    -- The derived group is the one that was parsed.
    module _ (kind : Group) (there : Source) (found : head_at ctx t ≡ Some (opens kind, there)) where
      -- What holds of each group of this kind holds of the item.
      each_group : (P : (x : Item) (rest : Source) → IsItem ctx x t rest → Type 0) →
          ((p : Pattern) (rest : Source) (head : head_at ctx t ≡ Some (opens kind, there)) (body : IsPattern (context_inside kind ctx) p there
          (closing ∷ rest)) → P (group kind p) rest (there, head, body)) →
          (x : Item) (rest : Source) (h : IsItem ctx x t rest) → P x rest h
      each_group P f (atom a) rest h = absurd (apart a kind rest there (sym h ∙ found))
      each_group P f (group other p) rest h =
          let e = sym found ∙ h.1 in
          by other h.0 (opened-is kind other there h.0 e) (after-is (opens kind, there) (opens other, h.0) e) h.1 h.2
        where
          by : (other : Group) (mid : Source) → kind ≡ other → there ≡ mid → (head : head_at ctx t ≡ Some (opens other, mid))
              (body : IsPattern (context_inside other ctx) p mid (closing ∷ rest)) → P (group other p) rest (mid, head, body)
          by other mid same at =
              subst (λ (k : Group). (head : head_at ctx t ≡ Some (opens k, mid)) (body : IsPattern (context_inside k ctx) p mid (closing ∷ rest)) →
              P (group k p) rest (mid, head, body)) same
              (subst (λ (u : Source). (head : head_at ctx t ≡ Some (opens kind, u)) (body : IsPattern (context_inside kind ctx) p u (closing ∷ rest)) →
              P (group kind p) rest (u, head, body)) at
              (f p rest))

      pub group-records : (mid : Source) (now : List Span) (new : Source) (now' : List Span) →
          RecordsPattern whole (context_inside kind ctx) (direction_of_group kind d) there before mid now → mid ≡ closing ∷ new →
          now' ≡ now ++ span_of_group kind (between whole t new) → RecordsItem whole ctx d t before new now' (group_allows ctx.setting.flags.unicode kind)
      group-records mid now new now' reads closes added =
          each_group
          (λ x rest h. (group_allows ctx.setting.flags.unicode kind ≡ allows ctx (head_of_item x))
          × Adds before new now' rest (spans_of_item whole ctx d x t rest h))
          (λ p rest head body.
          let a = reads p (closing ∷ rest) body in
          let inner = spans_of_pattern whole (context_inside kind ctx) (direction_of_group kind d) p there (closing ∷ rest) body in
          let end : new ≡ rest = ap (drop 1) (sym closes ∙ a.rest) in (
            refl,
            record {
              rest = end;
              spans =
                  added
                  ∙ ap (λ (ss : List Span). ss ++ span_of_group kind (between whole t new)) a.spans
                  ∙ append_assoc before inner (span_of_group kind (between whole t new))
                  ∙ ap (λ (u : Source). before ++ (inner ++ span_of_group kind (between whole t u))) end;
            },
          ))

    -- ---- items without a body

    module _ (none : is_at opening t ≡ false) (left : ℕ) (new : Source) (allowed : Bool) (node : Node)
        (reads : ReadsAtom ctx left allowed new (Ok node) (atom_at ctx t)) where
      pub node-flat : IsFlat (tree node)
      node-flat = subst IsFlat (sym reads.2.node) (atom-flat ctx.setting.table ctx.names reads.0)

      pub atom-records : (now : List Span) → now ≡ before ++ replicate (nodes (tree node)) (between whole t new) →
          RecordsItem whole ctx d t before new now allowed
      atom-records now added (group kind p) rest h =
          absurd (apart reads.0 kind new h.0 (sym (atom_head t none ∙ ap (found_map single) reads.1) ∙ h.1))
      atom-records now added (atom a) rest h =
          let e = sym (atom_head t none ∙ ap (found_map single) reads.1) ∙ h in
          let same = single-is reads.0 a new rest e in
          let end : new ≡ rest = after-is (single reads.0, new) (single a, rest) e in (
            sym reads.2.allows ∙ ap (atom_allows ctx.dialect) same,
            record {
              rest = end;
              spans =
                  added
                  ∙ ap (λ (u : Source). before ++ replicate (nodes (tree node)) (between whole t u)) end
                  ∙ ap (λ u. before ++ replicate (nodes u) (between whole t rest))
                  (reads.2.node ∙ ap (tree_of_atom ctx.setting.table ctx.names) same);
            },
          )

    -- ---- quantifiers

    module _ (mid : Source) (now : List Span) (allowed : Bool) (reads : RecordsItem whole ctx d t before mid now allowed) where
      same_times : (x : Item) (after : Source) (h : IsItem ctx x t after) →
          optional_quantifier_at ctx allowed mid ≡ optional_quantifier_at ctx (allows ctx (head_of_item x)) after
      same_times x after h =
          let a = reads x after h in
          ap (λ b. optional_quantifier_at ctx b mid) a.0 ∙ ap (optional_quantifier_at ctx (allows ctx (head_of_item x))) a.1.rest

      pub term-records : (q : Option Quantifier) (new : Source) (now' : List Span) → optional_quantifier_at ctx allowed mid ≡ Some (q, new) →
          now' ≡ now ++ span_of_times q (between whole t new) → RecordsTerm whole ctx d t before new now'
      term-records q new now' found added x q' after rest h times =
          let a = reads x after h in
          let e = sym found ∙ same_times x after h ∙ times in
          let same : q ≡ q' = ap (λ (z : Option Quantifier × Source). z.0) (same_Some (q, new) (q', rest) e) in
          let end : new ≡ rest = after-is (q, new) (q', rest) e in
          record {
            rest = end;
            spans =
                added
                ∙ ap (λ (ss : List Span). ss ++ span_of_times q (between whole t new)) a.1.spans
                ∙ append_assoc before (spans_of_item whole ctx d x t after h) (span_of_times q (between whole t new))
                ∙ ap (λ (u : Source). before ++ (spans_of_item whole ctx d x t after h ++ span_of_times q (between whole t u))) end
                ∙ ap (λ r. before ++ (spans_of_item whole ctx d x t after h ++ span_of_times r (between whole t rest))) same;
          }

-- The same for an equal length, context and direction.
pub records_inside : (whole other : ℕ) (ctx inner : Context) (d e : Direction) (t : Source) (before : List Span) (new : Source) (now : List Span) →
    other ≡ whole → inner ≡ ctx → e ≡ d → RecordsPattern other inner e t before new now → RecordsPattern whole ctx d t before new now
records_inside whole other ctx inner d e t before new now same_whole same_context same_direction reads =
    subst (λ (n : ℕ). RecordsPattern n ctx d t before new now) same_whole
    (subst (λ (c : Context). RecordsPattern other c d t before new now) same_context
    (subst (λ (k : Direction). RecordsPattern other inner k t before new now) same_direction reads))
