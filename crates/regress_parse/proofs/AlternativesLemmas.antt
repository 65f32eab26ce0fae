-- Invariants of the parser's loop over alternatives.
use Rattle.std.proofs.Common.{◌≡◌, ℕ, ◌+◌, ◌-◌, ◌≤◌, ⊎_elim, true, false, List, [], ◌∷◌, ◌++◌, length, drop, map, Some, None, refl, sym, ap, ap₂, ◌∙◌, arith, length-drop, Option, Result, Ok, Err, subst}
use Rattle.std.specs.Option.{IfSome, IsSomeAnd}
use Rattle.std.proofs.lemmas.Option.{same_Some}
use Rattle.std.proofs.lemmas.Bool.{cond-true, cond-false}
use Rattle.regress_tree.specs.declared.ir.node.Node.{Node}
use Rattle.regress_tree.specs.Reading.{Direction}
use Rattle.regress_base.specs.Table.{Table}
use Rattle.regress_tree.specs.Tree.{Tree, tree, alt}
use Rattle.regress_lexer.specs.Source.{Source, Found, ◌>>=◌, bar, is_at}
use Rattle.regress_syntax.specs.Syntax.{Name, Pattern, Terms, one, either, Counts, added, counts, counts_of_terms, nesting, nesting_of_terms}
use Rattle.regress_syntax.specs.Productions.{Context}
use Rattle.regress_lexer.proofs.lemmas.Sources.{found_then, chosen, to_each, from_each, on_kind_then}
use Rattle.regress_parse.specs.Reader.{pattern_at, terms_at}
use Rattle.regress_parse.specs.TreeOf.{concatenation, tree_of_pattern, trees_of_terms}
use Rattle.regress_base.specs.Limits.{max_nesting_depth}
use Rattle.regress_parse.specs.Parsing.{text, counted, alternatives, Fits, Exceeds, pattern_part, terms_part, Builds, Yields}
use Rattle.regress_parse.specs.declared.parser.Parser.{Parser}
use Rattle.regress_lexer.specs.declared.fault.Fault.{Fault}
use Rattle.regress_lexer.specs.declared.fault.FaultKind.{FaultKind}
use Rattle.regress_parse.proofs.ParserLemmas.{built}
use Rattle.regress_parse.proofs.BuildLemmas.{alternatives-push}
use Rattle.regress_parse.proofs.CountLemmas.{Fits-inside, Exceeds-around}
use Rattle.regress_parse.proofs.ReaderLemmas.{pattern_at-is, terms_at-shortens, others_of}

-- a pattern after some alternatives
abbrev pub eithers : List Terms → Pattern → Pattern
eithers [] p = p
eithers (ts ∷ tss) p = either ts (eithers tss p)

abbrev groups_of_all : List Terms → ℕ
groups_of_all [] = 0
groups_of_all (ts ∷ tss) = (counts_of_terms ts).groups + groups_of_all tss

abbrev loops_of_all : List Terms → ℕ
loops_of_all [] = 0
loops_of_all (ts ∷ tss) = (counts_of_terms ts).loops + loops_of_all tss

eithers-push : (tss : List Terms) (ts : Terms) (p : Pattern) → eithers (tss ++ ts ∷ []) p ≡ eithers tss (either ts p)
eithers-push [] ts p = refl
eithers-push (us ∷ tss) ts p = ap (either us) (eithers-push tss ts p)

groups-eithers : (tss : List Terms) (p : Pattern) → (counts (eithers tss p)).groups ≡ groups_of_all tss + (counts p).groups
groups-eithers [] p = omega arith
groups-eithers (ts ∷ tss) p = omega (arith, groups-eithers tss p)

loops-eithers : (tss : List Terms) (p : Pattern) → (counts (eithers tss p)).loops ≡ loops_of_all tss + (counts p).loops
loops-eithers [] p = omega arith
loops-eithers (ts ∷ tss) p = omega (arith, loops-eithers tss p)

groups_of_all-push : (tss : List Terms) (ts : Terms) → groups_of_all (tss ++ ts ∷ []) ≡ groups_of_all tss + (counts_of_terms ts).groups
groups_of_all-push [] ts = omega arith
groups_of_all-push (us ∷ tss) ts = omega (arith, groups_of_all-push tss ts)

loops_of_all-push : (tss : List Terms) (ts : Terms) → loops_of_all (tss ++ ts ∷ []) ≡ loops_of_all tss + (counts_of_terms ts).loops
loops_of_all-push [] ts = omega arith
loops_of_all-push (us ∷ tss) ts = omega (arith, loops_of_all-push tss ts)

-- One more alternative is no deeper than itself and the pattern.
nesting-eithers : (tss : List Terms) (ts : Terms) (p : Pattern) (most : ℕ) → nesting (eithers tss (one ts)) ≤ most → nesting p ≤ most →
    nesting (eithers tss (either ts p)) ≤ most
nesting-eithers [] ts p most h k = omega arith
nesting-eithers (us ∷ tss) ts p most h k = omega (arith, nesting-eithers tss ts p most (omega arith) k)

nesting-inside : (tss : List Terms) (p : Pattern) → nesting p ≤ nesting (eithers tss p)
nesting-inside [] p = omega arith
nesting-inside (us ∷ tss) p = omega (arith, nesting-inside tss p)

-- a parsed pattern, after some alternatives
abbrev after_all : List Terms → Pattern × Source → Found Pattern
after_all tss (p, rest) = Some (eithers tss p, rest)

after_none : (found : Found Pattern) → found ≡ found >>= after_all []
after_none None = refl
after_none (Some x) = refl

after_bar : (tss : List Terms) (ts : Terms) (found : Found Pattern) →
    (found >>= λ (y : Pattern × Source). Some (either ts y.0, y.1)) >>= after_all tss ≡ found >>= after_all (tss ++ ts ∷ [])
after_bar tss ts None = refl
after_bar tss ts (Some y) = ap (λ p. Some (p, y.1)) (sym (eithers-push tss ts y.0))

-- A pattern that starts with these terms has at least their groups, loops and nesting depth.
record Begins (ts : Terms) (p : Pattern) : Type 0 where
  groups : (counts_of_terms ts).groups ≤ (counts p).groups
  loops : (counts_of_terms ts).loops ≤ (counts p).loops
  nesting : 1 + nesting_of_terms ts ≤ nesting p

first_terms : (ctx : Context) (ts : Terms) (mid : Source) (x : Pattern × Source) → others_of ctx (ts, mid) ≡ Some x → Begins ts x.0
first_terms ctx ts mid x e =
    ⊎_elim
    (λ (more : (is_at bar mid ≡ true) × (_ ≡ Some x)).
    let others = found_then (pattern_at ctx (drop 1 mid)) _ x more.1 in
    let same = ap (λ (z : Pattern × Source). z.0) (same_Some (either ts others.0.0, others.0.1) x others.2) in
    begins same (omega arith) (omega arith) (omega arith))
    (λ (none : (is_at bar mid ≡ false) × (_ ≡ Some x)).
    let same = ap (λ (z : Pattern × Source). z.0) (same_Some (one ts, mid) x none.1) in
    begins same (omega arith) (omega arith) (omega arith))
    (chosen (is_at bar mid) _ _ _ e)
  where
    begins : {ts : Terms} {p q : Pattern} → p ≡ q → (counts_of_terms ts).groups ≤ (counts p).groups →
        (counts_of_terms ts).loops ≤ (counts p).loops → 1 + nesting_of_terms ts ≤ nesting p → Begins ts q
    begins same g l d = record {
      groups = omega (arith, ap (λ p. (counts p).groups) same);
      loops = omega (arith, ap (λ p. (counts p).loops) same);
      nesting = omega (arith, ap nesting same);
    }

module _ (table : Table) (names : List (Option Name)) (d : Direction) (ctx : Context) (depth : ℕ) (t0 : Source) (before : Counts) where
  abbrev part : Terms → Tree
  part ts = concatenation d (trees_of_terms table names d before.groups ts)

  -- From `t0`, after what was counted before, alternatives were parsed up to `t`, of which the last one is separate.
  -- The nodes are theirs.
  pub record AlternativesSoFar (t : Source) (now : Counts) (done_nodes : List Node) (final : Node) : Type 0 where
    pub done : List Terms
    pub last : Terms
    pub reads : pattern_at ctx t0 ≡ others_of ctx (last, t) >>= after_all done
    pub nodes : (p : Pattern) →
        alternatives (map tree done_nodes) (tree_of_pattern table names d (before.groups + groups_of_all done) p)
        ≡ tree_of_pattern table names d before.groups (eithers done p)
    pub node : tree final ≡ concatenation d (trees_of_terms table names d (before.groups + groups_of_all done) last)
    pub counts : now ≡ added before (counts (eithers done (one last)))
    pub fits : Fits before depth (pattern_part table names (eithers done (one last)))
    pub shorter : length t ≤ length t0

  -- The invariant holds after the first alternative.
  pub alternatives-start : (t : Source) (now : Counts) (node : Node) (ts : Terms) → terms_at ctx t0 ≡ Some (ts, t) →
      tree node ≡ part ts → now ≡ added before (counts_of_terms ts) → Fits before (depth + 1) (terms_part table names ts) →
      AlternativesSoFar t now [] node
  alternatives-start t now node ts found built count fits =
      let none : before.groups ≡ before.groups + 0 = omega arith in
      record {
        done = [];
        last = ts;
        reads = pattern_at-is ctx t0 ∙ ap (λ found. found >>= others_of ctx) found ∙ after_none (others_of ctx (ts, t));
        nodes = λ p. ap (λ k. tree_of_pattern table names d k p) (sym none);
        node = built ∙ ap (λ k. concatenation d (trees_of_terms table names d k ts)) none;
        counts = count;
        fits = Fits-inside before before (depth + 1) depth (terms_part table names ts) (pattern_part table names (one ts))
            (omega arith) (omega arith) (omega arith) fits;
        shorter = terms_at-shortens ctx t0 (ts, t) found;
      }

  -- the counts before the next alternative
  record Here (now : Counts) (tss : List Terms) : Type 0 where
    groups : now.groups ≡ before.groups + groups_of_all tss
    loops : now.loops ≡ before.loops + loops_of_all tss

  here : (t : Source) (now : Counts) (nodes : List Node) (final : Node) (h : AlternativesSoFar t now nodes final) →
      Here now (h.done ++ h.last ∷ [])
  here t now nodes final h = record {
    groups = omega (
      arith,
      ap (λ (c : Counts). c.groups) h.counts,
      groups-eithers h.done (one h.last),
      groups_of_all-push h.done h.last,
    );
    loops = omega (
      arith,
      ap (λ (c : Counts). c.loops) h.counts,
      loops-eithers h.done (one h.last),
      loops_of_all-push h.done h.last,
    );
  }

  -- What is parsed after a `|` continues the alternatives.
  reads_on : (t : Source) (now : Counts) (nodes : List Node) (final : Node) (h : AlternativesSoFar t now nodes final) →
      is_at bar t ≡ true → pattern_at ctx t0 ≡ pattern_at ctx (drop 1 t) >>= after_all (h.done ++ h.last ∷ [])
  reads_on t now nodes final h more =
      h.reads
      ∙ ap (λ found. found >>= after_all h.done) (cond-true (is_at bar t) _ _ more)
      ∙ after_bar h.done h.last (pattern_at ctx (drop 1 t))

  -- One more alternative keeps the invariant.
  pub alternatives-step : (t : Source) (now : Counts) (nodes : List Node) (final node : Node) (ts : Terms) (rest : Source) (new : Counts) →
      AlternativesSoFar t now nodes final → is_at bar t ≡ true → terms_at ctx (drop 1 t) ≡ Some (ts, rest) →
      tree node ≡ concatenation d (trees_of_terms table names d now.groups ts) → new ≡ added now (counts_of_terms ts) →
      Fits now (depth + 1) (terms_part table names ts) → AlternativesSoFar rest new (nodes ++ final ∷ []) node
  alternatives-step t now nodes final node ts rest new h more found built count fits =
      let all = h.done ++ h.last ∷ [] in
      let at = here t now nodes final h in
      let g = groups-eithers all (one ts) in
      let l = loops-eithers all (one ts) in
      record {
        done = all;
        last = ts;
        reads = reads_on t now nodes final h more
            ∙ ap (λ found. found >>= after_all all) (pattern_at-is ctx (drop 1 t) ∙ ap (λ found. found >>= others_of ctx) found);
        nodes = λ p.
            let k = (before.groups + groups_of_all h.done) + (counts_of_terms h.last).groups in
            let position : before.groups + groups_of_all all ≡ k = omega (arith, groups_of_all-push h.done h.last) in
            ap (λ k. alternatives (map tree (nodes ++ final ∷ [])) (tree_of_pattern table names d k p)) position
            ∙ alternatives-push nodes final (tree_of_pattern table names d k p)
            ∙ ap (λ u. alternatives (map tree nodes) (alt u (tree_of_pattern table names d k p))) h.node
            ∙ h.nodes (either h.last p)
            ∙ ap (tree_of_pattern table names d before.groups) (sym (eithers-push h.done h.last p));
        node = built ∙ ap (λ k. concatenation d (trees_of_terms table names d k ts)) at.groups;
        counts =
            count
            ∙ ap₂ (λ (g l : ℕ). record { groups = g; loops = l })
            (let e : now.groups + (counts_of_terms ts).groups ≡ before.groups + (counts (eithers all (one ts))).groups =
            omega (arith, at.groups, g) in e)
            (let e : now.loops + (counts_of_terms ts).loops ≡ before.loops + (counts (eithers all (one ts))).loops =
            omega (arith, at.loops, l) in e);
        fits = record {
          groups = omega (arith, fits.groups, at.groups, g);
          loops = omega (arith, fits.loops, at.loops, l);
          nesting =
              let last : nesting (eithers h.done (one h.last)) + depth ≤ max_nesting_depth = omega (arith, h.fits.nesting) in
              let both = nesting-eithers h.done h.last (one ts) (max_nesting_depth - depth)
              (omega (arith, last)) (omega (arith, fits.nesting)) in
              omega (arith, ap nesting (eithers-push h.done h.last (one ts)), both, fits.nesting);
        };
        shorter = omega (arith, h.shorter, terms_at-shortens ctx (drop 1 t) (ts, rest) found, length-drop 1 t);
      }

  -- Without a `|`, the last alternative ends the pattern.
  pub alternatives-end : (t : Source) (now : Counts) (nodes : List Node) (final : Node) (h : AlternativesSoFar t now nodes final) →
      is_at bar t ≡ false → pattern_at ctx t0 ≡ Some (eithers h.done (one h.last), t)
  alternatives-end t now nodes final h none = h.reads ∙ ap (λ found. found >>= after_all h.done) (cond-false (is_at bar t) _ _ none)

  -- The node of all alternatives is the pattern's tree.
  pub alternatives-node : (t : Source) (now : Counts) (nodes : List Node) (final : Node) (h : AlternativesSoFar t now nodes final) →
      alternatives (map tree nodes) (tree final) ≡ tree_of_pattern table names d before.groups (eithers h.done (one h.last))
  alternatives-node t now nodes final h = ap (alternatives (map tree nodes)) h.node ∙ h.nodes (one h.last)

-- If the first alternative is invalid or past a limit, then so is the pattern.
pub first-fail : (table : Table) (names : List (Option Name)) (ctx : Context) (kind : FaultKind) (depth : ℕ) (t : Source) (before : Counts) →
    IfSome (terms_at ctx t) (λ x. Exceeds kind before (depth + 1) (terms_part table names x.0)) →
    IfSome (pattern_at ctx t) (λ x. Exceeds kind before depth (pattern_part table names x.0))
first-fail table names ctx kind depth t before rejected =
    from_each (pattern_at ctx t) _ (λ x found.
    let first = found_then (terms_at ctx t) (others_of ctx) x (sym (pattern_at-is ctx t) ∙ found) in
    let less = first_terms ctx first.0.0 first.0.1 x first.2 in
    Exceeds-around kind before before depth (depth + 1) (pattern_part table names x.0) (terms_part table names first.0.0)
    (omega (arith, less.groups)) (omega (arith, less.loops)) (omega (arith, less.nesting))
    (to_each (terms_at ctx t) _ rejected first.0 first.1))

-- Without a `|` after the first alternative, that is the pattern.
pub lone-yields : (table : Table) (names : List (Option Name)) (d : Direction) (ctx : Context) (depth : ℕ) (t : Source) (before : Counts) (new : Parser)
    (r : Result Node Fault) → is_at bar (text new) ≡ false →
    Yields (terms_part table names) d (depth + 1) before new r (terms_at ctx t) →
    Yields (pattern_part table names) d depth before new r (pattern_at ctx t)
lone-yields table names d ctx depth t before new (Ok node) none read =
    let x = built (terms_part table names) d (depth + 1) before new (terms_at ctx t) node read in
    let b = x.2 in
    let h = alternatives-start table names d ctx depth t before x.0.1 (counted new) node x.0.0 x.1 b.node b.counts b.fits in
    subst (λ (f : Found Pattern). IsSomeAnd f (λ y. Builds d depth before new node (pattern_part table names y.0) y.1))
    (sym (alternatives-end table names d ctx depth t before x.0.1 (counted new) [] node h (ap (is_at bar) (sym b.rest) ∙ none)))
    (record {
      node = alternatives-node table names d ctx depth t before x.0.1 (counted new) [] node h;
      fits = h.fits;
      counts = h.counts;
      rest = b.rest;
    })
lone-yields table names d ctx depth t before new (Err fault) none read =
    on_kind_then fault (λ kind. first-fail table names ctx kind depth t before) read

-- If a later alternative is invalid or past a limit, then so is the pattern.
pub alternatives-fail : (table : Table) (names : List (Option Name)) (d : Direction) (ctx : Context) (kind : FaultKind) (depth : ℕ) (t0 : Source)
    (before : Counts)
    (t : Source) (now : Counts) (nodes : List Node) (final : Node) → AlternativesSoFar table names d ctx depth t0 before t now nodes final →
    is_at bar t ≡ true → IfSome (terms_at ctx (drop 1 t)) (λ x. Exceeds kind now (depth + 1) (terms_part table names x.0)) →
    IfSome (pattern_at ctx t0) (λ x. Exceeds kind before depth (pattern_part table names x.0))
alternatives-fail table names d ctx kind depth t0 before t now nodes final h more rejected =
    let all = h.done ++ h.last ∷ [] in
    let at = here table names d ctx depth t0 before t now nodes final h in
    from_each (pattern_at ctx t0) _ (λ x found.
    let rest = found_then (pattern_at ctx (drop 1 t)) (after_all all) x
    (sym (reads_on table names d ctx depth t0 before t now nodes final h more) ∙ found) in
    let same = ap (λ (z : Pattern × Source). z.0) (same_Some (eithers all rest.0.0, rest.0.1) x rest.2) in
    Exceeds-around kind before now depth depth (pattern_part table names x.0) (pattern_part table names rest.0.0)
    (omega (arith, at.groups, ap (λ p. (counts p).groups) same, groups-eithers all rest.0.0))
    (omega (arith, at.loops, ap (λ p. (counts p).loops) same, loops-eithers all rest.0.0))
    (omega (arith, ap nesting same, nesting-inside all rest.0.0))
    (to_each (pattern_at ctx (drop 1 t)) _ (first-fail table names ctx kind depth (drop 1 t) now rejected) rest.0 rest.1))
