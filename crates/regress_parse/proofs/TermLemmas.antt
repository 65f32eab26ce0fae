-- Items, quantifiers and groups, from what is parsed of them.
use Rattle.std.proofs.Common.{◌≡◌, inl, inr, ℕ, ◌+◌, ◌<◌, ◌≤◌, ◌==◌, Bool, true, false, not, ◌&&◌, ◌||◌, [], ◌∷◌, drop, Option, Some, None, Result, Ok, Err, refl, sym, ap, ap₂, ◌∙◌, subst, arith, eqb-true, List}
use Rattle.std.specs.Option.{IfSome, IsSomeAnd}
use Rattle.std.specs.Result.{IfOk}
use Rattle.std.proofs.lemmas.Bool.{cond-false}
use Rattle.std.proofs.lemmas.Bool.Decides.{nat_tests}
use Rattle.regress_tree.specs.declared.ir.node.Node.{Node}
use Rattle.regress_tree.specs.Reading.{Direction}
use Rattle.regress_tree.specs.Tree.{tree}
use Rattle.regress_lexer.specs.declared.fault.Fault.{Fault}
use Rattle.regress_lexer.specs.declared.fault.FaultKind.{FaultKind}
use Rattle.regress_lexer.specs.declared.fault.FaultKind.TheVariants.{TooManyLoops}
use Rattle.std.proofs.lemmas.Option.{same_Some, cond_some}
use Rattle.regress_base.specs.Table.{Table}
use Rattle.regress_base.specs.declared.types.Quantifier.{Quantifier}
use Rattle.regress_lexer.specs.Source.{Source, Found, ◌>>=◌, found_map, opening, closing, is_at, is_one_of, is_plain}
use Rattle.regress_lexer.specs.FirstCodePoint.{may_begin}
use Rattle.regress_lexer.specs.Escapes.{begins_with_letter}
use Rattle.regress_syntax.specs.Syntax.{Name, Atom, Group, Pattern, Item, literal, back_reference, by_number, atom, group, Counts, added, counts_of_item, nesting_of_atom}
use Rattle.regress_syntax.specs.Productions.{Context, context_inside, Head, single, opens, head_of_item, allows, begins_number, group_at, head_at, optional_quantifier_at}
use Rattle.regress_lexer.proofs.lemmas.Sources.{found_then, from_each, to_each, on_kind_then, on_each_kind}
use Rattle.regress_syntax.specs.Numbering.{group_number_at}
use Rattle.regress_syntax.proofs.lemmas.Plain.{plain_head, no_times}
use Rattle.regress_syntax.proofs.lemmas.References.{numbered-some}
use Rattle.regress_syntax.proofs.lemmas.Scan.{one_level}
use Rattle.regress_parse.specs.Reader.{Term, closed, item_after_head, quantified, pattern_at, item_at, term_at}
use Rattle.regress_base.specs.Limits.{max_loops, max_nesting_depth}
use Rattle.regress_parse.specs.Parsing.{Exceeds, pattern_part, term_part, item_part, atom_at, ReadsAtom, Builds, Yields, text, counted}
use Rattle.regress_parse.specs.TreeOf.{tree_of_atom}
use Rattle.regress_parse.specs.declared.parser.Parser.{Parser}
use Rattle.regress_parse.proofs.EscapeProductions.{number_read}
use Rattle.regress_parse.proofs.CountLemmas.{Fits-inside, Exceeds-around, added-nothing}
use Rattle.regress_parse.proofs.ParserLemmas.{built}
use Rattle.regress_parse.proofs.ReaderLemmas.{item_at-is, term_at-is}

pub front_is : (k : ℕ) (t rest : Source) → is_at k t ≡ true → rest ≡ drop 1 t → t ≡ k ∷ rest
front_is k [] rest e same = cc
front_is k (c ∷ t) rest e same = ap₂ (λ d u. d ∷ u) (eqb-true c k e) (sym same)

module _ (table : Table) (names : List (Option Name)) (ctx : Context) where
  -- No pattern fits where no nesting depth remains.
  pub too_deep : (kind : FaultKind) (before : Counts) (depth : ℕ) (found : Found Pattern) → max_nesting_depth ≤ depth →
      IfSome found (λ x. Exceeds kind before depth (pattern_part table names x.0))
  too_deep kind before depth found full = from_each found _ (λ x _. inr (inr (omega (arith, full, one_level x.0))))

  -- ---- an item, after what it starts with

  item_from_head : (t : Source) (x : Head × Source) → head_at ctx t ≡ Some x → item_at ctx t ≡ item_after_head pattern_at ctx x
  item_from_head t x head = item_at-is ctx t ∙ ap (λ found. found >>= item_after_head pattern_at ctx) head

  closed_same : (kind : Group) (x : Pattern × Source) (y : Item × Source) → closed kind x ≡ Some y → group kind x.0 ≡ y.0
  closed_same kind x y e = ap (λ (z : Item × Source). z.0) (cond_some (is_at closing x.1) (group kind x.0, drop 1 x.1) y e).1

  head-same : (x : Head × Source) (y : Item × Source) → item_after_head pattern_at ctx x ≡ Some y → head_of_item y.0 ≡ x.0
  head-same (single a, t) y e = sym (ap (λ (z : Item × Source). head_of_item z.0) (same_Some (atom a, t) y e))
  head-same (opens kind, t) y e =
      let body = found_then (pattern_at (context_inside kind ctx) t) (closed kind) y e in
      sym (ap head_of_item (closed_same kind body.0 y body.2))

  -- ---- a term

  -- An item with the quantifier that is parsed after it is a term.
  pub term_read : (t : Source) (head : Head × Source) (x : Item × Source) (allowed : Bool) (times : Found (Option Quantifier)) →
      head_at ctx t ≡ Some head → item_after_head pattern_at ctx head ≡ Some x → allowed ≡ allows ctx head.0 →
      optional_quantifier_at ctx allowed x.1 ≡ times → term_at ctx t ≡ found_map (λ q. (x.0, q)) times
  term_read t head x allowed times front item allowed_is found =
      let same : allows ctx (head_of_item x.0) ≡ allowed =
      ap (allows ctx) (head-same head x item) ∙ sym allowed_is in
      term_at-is ctx t
      ∙ ap (λ found. found >>= quantified ctx) (item_from_head t head front ∙ item)
      ∙ ap (λ b. found_map (λ (q : Option Quantifier). (x.0, q)) (optional_quantifier_at ctx b x.1)) same
      ∙ ap (found_map (λ (q : Option Quantifier). (x.0, q))) found

  -- A literal character that no quantifier follows is a term.
  pub plain_term : (c : ℕ) (t : Source) → is_plain c ≡ true → may_begin t ≡ false →
      term_at ctx (c ∷ t) ≡ Some ((atom (literal ctx.setting.flags c), None), t)
  plain_term c t plain alone =
      term_read (c ∷ t) (single (literal ctx.setting.flags c), t) (atom (literal ctx.setting.flags c), t) true (Some (None, t))
      (plain_head ctx c t plain) refl refl (no_times ctx true t alone)

  -- A reference by number that no quantifier follows.
  numbered_head : (c : ℕ) (t : Source) (k : ℕ) (rest : Source) → begins_number c ≡ true → group_number_at ctx.groups (c ∷ t) ≡ Some (k, rest) →
      head_at ctx (92 ∷ c ∷ t) ≡ Some (single (back_reference ctx.setting.flags (by_number k)), rest)
  unfolding head_at
  numbered_head c t k rest number found =
      let d : (c == 100) ≡ false = grind (arith, nat_tests, number) in
      let d' : (c == 68) ≡ false = grind (arith, nat_tests, number) in
      let s : (c == 115) ≡ false = grind (arith, nat_tests, number) in
      let s' : (c == 83) ≡ false = grind (arith, nat_tests, number) in
      let w : (c == 119) ≡ false = grind (arith, nat_tests, number) in
      let w' : (c == 87) ≡ false = grind (arith, nat_tests, number) in
      let b : (c == 98) ≡ false = grind (arith, nat_tests, number) in
      let b' : (c == 66) ≡ false = grind (arith, nat_tests, number) in
      let control : (c == 99) ≡ false = grind (arith, nat_tests, number) in
      let property : is_one_of "pP" c ≡ false = grind (arith, nat_tests, number) in
      ap (found_map single)
      (number_read ctx (c ∷ t) c t refl
      (cond-false (c == 100) _ _ d ∙ cond-false (c == 68) _ _ d' ∙ cond-false (c == 115) _ _ s ∙ cond-false (c == 83) _ _ s'
      ∙ cond-false (c == 119) _ _ w ∙ cond-false (c == 87) _ _ w')
      b b' (ap (λ x. x && not ctx.setting.flags.unicode && not (begins_with_letter t)) control)
      (ap (λ x. x && (ctx.setting.flags.unicode || ctx.setting.flags.unicode_sets)) property) number
      ∙ numbered-some ctx c t k rest found)

  pub reference_term : (c : ℕ) (t : Source) (k : ℕ) (rest : Source) → begins_number c ≡ true → group_number_at ctx.groups (c ∷ t) ≡ Some (k, rest) →
      may_begin rest ≡ false → term_at ctx (92 ∷ c ∷ t) ≡ Some ((atom (back_reference ctx.setting.flags (by_number k)), None), rest)
  reference_term c t k rest number found alone =
      term_read (92 ∷ c ∷ t) (single (back_reference ctx.setting.flags (by_number k)), rest) (atom (back_reference ctx.setting.flags (by_number k)), rest)
      true (Some (None, rest)) (numbered_head c t k rest number found) refl refl (no_times ctx true rest alone)

  -- Where no item starts, there is no term.
  pub no_term : (t : Source) → head_at ctx t ≡ None → term_at ctx t ≡ None
  no_term t front =
      term_at-is ctx t
      ∙ ap (λ found. found >>= quantified ctx) (item_at-is ctx t ∙ ap (λ found. found >>= item_after_head pattern_at ctx) front)

  -- ---- items without a nested pattern, and what opens a group

  pub opening_head : (t : Source) → head_at ctx (opening ∷ t) ≡ group_at ctx.setting.table t
  unfolding head_at
  opening_head t = refl

  atom_head : (t : Source) → is_at opening t ≡ false → head_at ctx t ≡ found_map single (atom_at ctx t)
  unfolding head_at
  atom_head [] none = refl
  atom_head (c ∷ t) none = cond-false (c == opening) _ _ none

  pub atom_item : (t : Source) → is_at opening t ≡ false → item_at ctx t ≡ found_map atom (atom_at ctx t)
  atom_item t none =
      item_at-is ctx t ∙ ap (λ found. found >>= item_after_head pattern_at ctx) (atom_head t none) ∙ mapped (atom_at ctx t)
    where
      mapped : (found : Found Atom) → found_map single found >>= item_after_head pattern_at ctx ≡ found_map atom found
      mapped None = refl
      mapped (Some x) = refl

  pub opening_item : (t : Source) (head : Head × Source) → group_at ctx.setting.table t ≡ Some head →
      item_at ctx (opening ∷ t) ≡ item_after_head pattern_at ctx head
  opening_item t head found = item_from_head (opening ∷ t) head (opening_head t ∙ found)

  -- The start of a group, and what is parsed after it, are the group.
  pub opened_same : (kind : Group) (t : Source) (x : Item × Source) → item_after_head pattern_at ctx (opens kind, t) ≡ Some x →
      head_of_item x.0 ≡ opens kind
  opened_same kind t x found = head-same (opens kind, t) x found

  -- If the item is invalid or past a limit, then so is the term.
  pub times-fail : (kind : FaultKind) (found : Found Item) (before : Counts) (depth : ℕ) →
      IfSome found (λ x. Exceeds kind before depth (item_part table names x.0)) →
      IfSome (found >>= quantified ctx) (λ x. Exceeds kind before depth (term_part table names x.0))
  times-fail kind found before depth rejected =
      from_each (found >>= quantified ctx) _ (λ x read.
      let item = found_then found (quantified ctx) x read in
      let times = found_then (optional_quantifier_at ctx (allows ctx (head_of_item item.0.0)) item.0.1)
      (λ (q : Option Quantifier × Source). Some ((item.0.0, q.0), q.1)) x item.2 in
      let same : (item.0.0, times.0.0) ≡ x.0 = ap (λ (z : Term × Source). z.0) (same_Some _ x times.2) in
      subst (λ (z : Term). Exceeds kind before depth (term_part table names z)) same
      (Exceeds-around kind before before depth depth (term_part table names (item.0.0, times.0.0)) (item_part table names item.0.0)
      (omega arith) (omega arith) (omega arith) (to_each found _ rejected item.0 item.1)))

  -- the quantifier that is parsed after an item
  pub times_read : (found : Found Item) (x : Item × Source) (allowed : Bool) (times : Found (Option Quantifier)) → found ≡ Some x →
      allowed ≡ allows ctx (head_of_item x.0) → optional_quantifier_at ctx allowed x.1 ≡ times →
      found >>= quantified ctx ≡ found_map (λ q. (x.0, q)) times
  times_read found x allowed times read allowed_is after =
      ap (λ found. found >>= quantified ctx) read
      ∙ ap (λ b. found_map (λ (q : Option Quantifier). (x.0, q)) (optional_quantifier_at ctx b x.1)) (sym allowed_is)
      ∙ ap (found_map (λ (q : Option Quantifier). (x.0, q))) after

  -- If the loop is past the limit, then so is the term.
  pub times-too_many : (kind : FaultKind) → kind ≡ TooManyLoops → (found : Found Term) (rest : Source) (x : Item) (q : Quantifier) (before : Counts)
      (depth : ℕ) → found ≡ Some ((x, Some q), rest) →
      max_loops < before.loops + (counts_of_item x).loops + 1 →
      IfSome found (λ x. Exceeds kind before depth (term_part table names x.0))
  times-too_many kind reported found rest x q before depth read many =
      subst (λ found. IfSome found (λ x. Exceeds kind before depth (term_part table names x.0))) (sym read)
      (inr (inl (reported, omega (arith, many))))

  -- Where no quantifier can start, the item is the term.
  pub builds_alone : (d : Direction) (depth : ℕ) (before : Counts) (new : Parser) (node : Node) (x : Item) (rest : Source) →
      Builds d depth before new node (item_part table names x) rest → Builds d depth before new node (term_part table names (x, None)) rest
  builds_alone d depth before new node x rest b = record {
    node = b.node;
    fits = Fits-inside before before depth depth (item_part table names x) (term_part table names (x, None)) (omega arith) (omega arith) (omega arith) b.fits;
    counts = b.counts ∙ ap (added before) (sym (added-nothing (item_part table names x).counts));
    rest = b.rest;
  }

  pub alone : (d : Direction) (depth : ℕ) (before : Counts) (new : Parser) (r : Result Node Fault) (found : Found Item) →
      may_begin (text new) ≡ false → Yields (item_part table names) d depth before new r found →
      Yields (term_part table names) d depth before new r (found >>= quantified ctx)
  alone d depth before new (Ok node) found none h =
      let x = built (item_part table names) d depth before new found node h in
      let free : may_begin x.0.1 ≡ false = ap may_begin (sym x.2.rest) ∙ none in
      subst (λ (f : Found Term). IsSomeAnd f (λ y. Builds d depth before new node (term_part table names y.0) y.1))
      (sym (times_read found x.0 _ _ x.1 refl (no_times ctx _ x.0.1 free)))
      (builds_alone d depth before new node x.0.0 x.0.1 x.2)
  alone d depth before new (Err fault) found none h = on_kind_then fault (λ kind. times-fail kind found before depth) h

  -- A literal character as the first term.
  pub plain_yields : (d : Direction) (depth : ℕ) (old new : Parser) (node : Node) (c : ℕ) (t : Source) → depth ≤ max_nesting_depth →
      text old ≡ c ∷ t → is_plain c ≡ true → may_begin t ≡ false → counted new ≡ counted old → text new ≡ t →
      tree node ≡ tree_of_atom table names (literal ctx.setting.flags c) →
      Yields (term_part table names) d depth (counted old) new (Ok node) (term_at ctx (text old))
  plain_yields d depth old new node c t deep front plain free same rest made =
      subst (λ (f : Found Term). IsSomeAnd f (λ y. Builds d depth (counted old) new node (term_part table names y.0) y.1))
      (sym (ap (term_at ctx) front ∙ plain_term c t plain free))
      (record {
        node = made;
        fits = record { groups = omega (arith, old.groups_within); loops = omega (arith, old.loops_within); nesting = omega (arith, deep) };
        counts = same ∙ sym (added-nothing (counted old));
        rest = rest;
      })

  -- An item without a nested pattern as an item.
  pub atom_yields : (d : Direction) (depth left : ℕ) (allowed : Bool) (old new : Parser) (r : Result Node Fault) (t : Source) →
      is_at opening t ≡ false → depth + left ≡ max_nesting_depth → counted new ≡ counted old →
      ReadsAtom ctx left allowed (text new) r (atom_at ctx t) →
      table ≡ ctx.setting.table → names ≡ ctx.names →
      Yields (item_part table names) d depth (counted old) new r (item_at ctx t)
  atom_yields d depth left allowed old new (Ok node) t none all same h tables all_names =
      subst (λ (f : Found Item). IsSomeAnd f (λ y. Builds d depth (counted old) new node (item_part table names y.0) y.1))
      (sym (atom_item t none ∙ ap (found_map atom) h.1))
      (record {
        node = h.2.node ∙ sym (ap₂ (λ (us : Table) (ns : List (Option Name)). tree_of_atom us ns h.0) tables all_names);
        fits = record {
          groups = omega (arith, old.groups_within);
          loops = omega (arith, old.loops_within);
          nesting = omega (arith, h.2.nesting);
        };
        counts = same ∙ sym (added-nothing (counted old));
        rest = refl;
      })
  atom_yields d depth left allowed old new (Err fault) t none all same h tables all_names =
      on_each_kind fault
      (λ kind deep. subst (λ (f : Found Item). IfSome f (λ y. Exceeds kind (counted old) depth (item_part table names y.0)))
      (sym (atom_item t none)) (over kind (atom_at ctx t) deep)) h
    where
      over : (kind : FaultKind) (found : Found Atom) → IfSome found (λ x. left < nesting_of_atom x.0) →
          IfSome (found_map atom found) (λ y. Exceeds kind (counted old) depth (item_part table names y.0))
      over kind None deep = tt
      over kind (Some x) deep = inr (inr (omega (arith, deep, all)))

  -- whether a quantifier may follow it
  pub atom_allowed : (left : ℕ) (allowed : Bool) (new : Source) (r : Result Node Fault) (t : Source) → is_at opening t ≡ false →
      ReadsAtom ctx left allowed new r (atom_at ctx t) →
      IfOk r (λ node. (x : Item × Source) → item_at ctx t ≡ Some x → allowed ≡ allows ctx (head_of_item x.0))
  atom_allowed left allowed new (Ok node) t none h =
      λ x found.
      let same = same_Some _ x (sym (atom_item t none ∙ ap (found_map atom) h.1) ∙ found) in
      sym h.2.allows ∙ ap (λ (y : Item × Source). allows ctx (head_of_item y.0)) same
  atom_allowed left allowed new (Err fault) t none h = tt

  -- Where no quantifier can start after it, it is a term.
  pub atom_alone : (d : Direction) (depth left : ℕ) (allowed : Bool) (old new : Parser) (node : Node) (t : Source) → t ≡ text old →
      is_at opening t ≡ false → depth + left ≡ max_nesting_depth → counted new ≡ counted old → may_begin (text new) ≡ false →
      ReadsAtom ctx left allowed (text new) (Ok node) (atom_at ctx t) →
      table ≡ ctx.setting.table → names ≡ ctx.names →
      Yields (term_part table names) d depth (counted old) new (Ok node) (term_at ctx (text old))
  atom_alone d depth left allowed old new node t here none all same free h tables all_names =
      subst (λ (u : Source). Yields (term_part table names) d depth (counted old) new (Ok node) (term_at ctx u)) here
      (subst (λ (f : Found Term). Yields (term_part table names) d depth (counted old) new (Ok node) f) (sym (term_at-is ctx t))
      (alone d depth (counted old) new (Ok node) (item_at ctx t) free
      (atom_yields d depth left allowed old new (Ok node) t none all same h tables all_names)))
