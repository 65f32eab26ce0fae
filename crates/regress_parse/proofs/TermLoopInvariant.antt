-- Invariants of the parser's loop over terms, as facts on sources, syntax trees and lists of nodes.
use Rattle.std.proofs.Common.{◌≡◌, ℕ, ◌+◌, ◌≤◌, max, true, false, List, [], ◌∷◌, ◌++◌, length, Some, None, refl, sym, ap, ap₂, ◌∙◌, arith, add_assoc, Option, Result, Ok, Err, subst}
use Rattle.std.specs.Option.{IfSome, IsSomeAnd}
use Rattle.std.proofs.lemmas.Option.{same_Some}
use Rattle.std.proofs.lemmas.Bool.{cond-true, cond-false}
use Rattle.regress_tree.specs.declared.ir.node.Node.{Node, Empty}
use Rattle.regress_tree.specs.Reading.{Direction}
use Rattle.regress_base.specs.Table.{Table}
use Rattle.regress_tree.specs.Tree.{append_trees, tree, trees, no_trees, more_trees}
use Rattle.regress_tree.proofs.lemmas.Nodes.{tree-Empty}
use Rattle.regress_lexer.specs.Source.{Source, Found, ◌>>=◌, ends_alternative}
use Rattle.regress_syntax.specs.Syntax.{Name, Terms, no_terms, more_terms, Counts, added, counts_of_terms, counts_of_term, nesting_of_terms}
use Rattle.regress_syntax.specs.Productions.{Context}
use Rattle.regress_lexer.proofs.lemmas.Sources.{found_then, to_each, from_each, on_kind_then}
use Rattle.regress_parse.specs.Reader.{Term, terms_at, term_at}
use Rattle.regress_parse.specs.TreeOf.{trees_of_terms, concatenation}
use Rattle.regress_parse.specs.Parsing.{text, counted, Fits, Exceeds, terms_part, term_part, Builds, Yields}
use Rattle.regress_parse.specs.declared.parser.Parser.{Parser}
use Rattle.regress_lexer.specs.declared.fault.Fault.{Fault}
use Rattle.regress_lexer.specs.declared.fault.FaultKind.{FaultKind}
use Rattle.regress_base.specs.Limits.{max_nesting_depth}
use Rattle.regress_parse.proofs.ParserLemmas.{built}
use Rattle.regress_parse.proofs.BuildLemmas.{trees-push}
use Rattle.regress_parse.proofs.ReaderLemmas.{terms_at-is, term_at-shortens, optional_of}
use Rattle.regress_parse.proofs.CountLemmas.{Fits-inside, Exceeds-around, added-nothing}

-- terms before other terms
abbrev pub append : Terms → Terms → Terms
append no_terms ys = ys
append (more_terms x q xs) ys = more_terms x q (append xs ys)

abbrev one_term : Term → Terms
one_term x = more_terms x.0 x.1 no_terms

groups-append : (xs ys : Terms) → (counts_of_terms (append xs ys)).groups ≡ (counts_of_terms xs).groups + (counts_of_terms ys).groups
groups-append no_terms ys = omega arith
groups-append (more_terms x q xs) ys = omega (arith, groups-append xs ys)

loops-append : (xs ys : Terms) → (counts_of_terms (append xs ys)).loops ≡ (counts_of_terms xs).loops + (counts_of_terms ys).loops
loops-append no_terms ys = omega arith
loops-append (more_terms x q xs) ys = omega (arith, loops-append xs ys)

nesting-append : (xs ys : Terms) → nesting_of_terms (append xs ys) ≡ max (nesting_of_terms xs) (nesting_of_terms ys)
nesting-append no_terms ys = omega arith
nesting-append (more_terms x q xs) ys = omega (arith, nesting-append xs ys)

append-append : (xs ys zs : Terms) → append (append xs ys) zs ≡ append xs (append ys zs)
append-append no_terms ys zs = refl
append-append (more_terms x q xs) ys zs = ap (more_terms x q) (append-append xs ys zs)

append-none : (xs : Terms) → append xs no_terms ≡ xs
append-none no_terms = refl
append-none (more_terms x q xs) = ap (more_terms x q) (append-none xs)

-- terms that were parsed before what is found
abbrev after : Terms → Terms × Source → Found Terms
after xs (ys, rest) = Some (append xs ys, rest)

after-none : (found : Found Terms) → found ≡ found >>= after no_terms
after-none None = refl
after-none (Some x) = refl

after-more : (xs : Terms) (x : Term) (found : Found Terms) →
    (found >>= λ (y : Terms × Source). Some (more_terms x.0 x.1 y.0, y.1)) >>= after xs ≡ found >>= after (append xs (one_term x))
after-more xs x None = refl
after-more xs x (Some y) = ap (λ ts. Some (ts, y.1)) (sym (append-append xs (one_term x) y.0))

module _ (table : Table) (names : List (Option Name)) (d : Direction) where
  trees-append : (n : ℕ) (xs ys : Terms) →
      trees_of_terms table names d n (append xs ys)
      ≡ append_trees (trees_of_terms table names d n xs) (trees_of_terms table names d (n + (counts_of_terms xs).groups) ys)
  trees-append n no_terms ys = let same : n ≡ n + 0 = omega arith in ap (λ m. trees_of_terms table names d m ys) same
  trees-append n (more_terms x q xs) ys =
      let c = (counts_of_term x q).groups in
      ap (more_trees ((term_part table names (x, q)).node d n))
      (trees-append (n + c) xs ys
      ∙ ap (λ m. append_trees (trees_of_terms table names d (n + c) xs) (trees_of_terms table names d m ys))
      (add_assoc n c (counts_of_terms xs).groups))

  module _ (ctx : Context) (depth : ℕ) (t0 : Source) (before : Counts) where
    -- From `t0`, after what was counted before, the terms were parsed up to `t`, and the nodes are theirs.
    pub record TermsSoFar (t : Source) (now : Counts) (parts : List Node) : Type 0 where
      pub terms : Terms
      pub reads : terms_at ctx t0 ≡ terms_at ctx t >>= after terms
      pub nodes : trees parts ≡ trees_of_terms table names d before.groups terms
      pub counts : now ≡ added before (counts_of_terms terms)
      pub fits : Fits before depth (terms_part table names terms)
      pub shorter : length t ≤ length t0

    pub terms-start : Fits before depth (terms_part table names no_terms) → TermsSoFar t0 before []
    terms-start fits = record {
      terms = no_terms;
      reads = after-none (terms_at ctx t0);
      nodes = refl;
      counts = sym (added-nothing before);
      fits = fits;
      shorter = omega arith;
    }

    -- One more term keeps the invariant.
    pub terms-step : (t : Source) (now : Counts) (parts : List Node) (node : Node) (x : Term) (rest : Source) (new : Counts) →
        TermsSoFar t now parts → ends_alternative t ≡ false → term_at ctx t ≡ Some (x, rest) →
        tree node ≡ (term_part table names x).node d now.groups → new ≡ added now (counts_of_term x.0 x.1) → Fits now depth (term_part table names x) →
        TermsSoFar rest new (parts ++ node ∷ [])
    terms-step t now parts node x rest new h goes_on found built counts fits =
        let all = append h.terms (one_term x) in
        let groups = groups-append h.terms (one_term x) in
        let loops = loops-append h.terms (one_term x) in
        let now_groups = ap (λ (c : Counts). c.groups) h.counts in
        let now_loops = ap (λ (c : Counts). c.loops) h.counts in
        record {
          terms = all;
          reads =
              h.reads
              ∙ ap (λ found. found >>= after h.terms)
              (terms_at-is ctx t ∙ cond-false (ends_alternative t) _ _ goes_on ∙ ap (λ found. found >>= optional_of ctx) found)
              ∙ after-more h.terms x (terms_at ctx rest);
          nodes =
              trees-push parts node
              ∙ ap₂ (λ us u. append_trees us (more_trees u no_trees)) h.nodes (built ∙ ap ((term_part table names x).node d) now_groups)
              ∙ sym (trees-append before.groups h.terms (one_term x));
          counts =
              counts
              ∙ ap₂ (λ (g l : ℕ). record { groups = g; loops = l })
              (let e : now.groups + (counts_of_term x.0 x.1).groups ≡ before.groups + (counts_of_terms all).groups =
              omega (arith, now_groups, groups) in e)
              (let e : now.loops + (counts_of_term x.0 x.1).loops ≡ before.loops + (counts_of_terms all).loops =
              omega (arith, now_loops, loops) in e);
          fits = record {
            groups = omega (arith, fits.groups, now_groups, groups);
            loops = omega (arith, fits.loops, now_loops, loops);
            nesting = omega (arith, fits.nesting, h.fits.nesting, nesting-append h.terms (one_term x));
          };
          shorter = omega (arith, h.shorter, term_at-shortens ctx t (x, rest) found);
        }

    -- The invariant holds after the first term.
    pub terms-first : (node : Node) (x : Term) (rest : Source) (new : Counts) → ends_alternative t0 ≡ false → term_at ctx t0 ≡ Some (x, rest) →
        tree node ≡ (term_part table names x).node d before.groups → new ≡ added before (counts_of_term x.0 x.1) →
        Fits before depth (term_part table names x) → TermsSoFar rest new (node ∷ [])
    terms-first node x rest new goes_on found built counts fits =
        terms-step t0 before [] node x rest new
        (terms-start (Fits-inside before before depth depth (term_part table names x) (terms_part table names no_terms)
        (omega arith) (omega arith) (omega arith) fits))
        goes_on found built counts fits

    -- The terms so far are the alternative, once it ends.
    pub terms-end : (t : Source) (now : Counts) (parts : List Node) (h : TermsSoFar t now parts) →
        ends_alternative t ≡ true → terms_at ctx t0 ≡ Some (h.terms, t)
    terms-end t now parts h ends =
        h.reads
        ∙ ap (λ found. found >>= after h.terms) (terms_at-is ctx t ∙ cond-true (ends_alternative t) _ _ ends)
        ∙ ap (λ ts. Some (ts, t)) (append-none h.terms)

    -- If a term is invalid or past a limit, then so is the alternative.
    pub terms-fail : (kind : FaultKind) (t : Source) (now : Counts) (parts : List Node) → TermsSoFar t now parts →
        ends_alternative t ≡ false → IfSome (term_at ctx t) (λ x. Exceeds kind now depth (term_part table names x.0)) →
        IfSome (terms_at ctx t0) (λ x. Exceeds kind before depth (terms_part table names x.0))
    terms-fail kind t now parts h goes_on rejected =
        from_each (terms_at ctx t0) _ (λ x found.
        let read = found_then (terms_at ctx t) (after h.terms) x (sym h.reads ∙ found) in
        let whole = found_then (term_at ctx t) (optional_of ctx) read.0
        (sym (cond-false (ends_alternative t) _ _ goes_on) ∙ sym (terms_at-is ctx t) ∙ read.1) in
        let others = found_then (terms_at ctx whole.0.1)
        (λ (y : Terms × Source). Some (more_terms whole.0.0.0 whole.0.0.1 y.0, y.1)) read.0 whole.2 in
        let first : more_terms whole.0.0.0 whole.0.0.1 others.0.0 ≡ read.0.0 = ap (λ (z : Terms × Source). z.0) (same_Some _ _ others.2) in
        let all : append h.terms read.0.0 ≡ x.0 = ap (λ (z : Terms × Source). z.0) (same_Some _ _ read.2) in
        let now_groups = ap (λ (c : Counts). c.groups) h.counts in
        let now_loops = ap (λ (c : Counts). c.loops) h.counts in
        Exceeds-around kind before now depth depth (terms_part table names x.0) (term_part table names whole.0.0)
        (omega (
          arith,
          now_groups,
          ap (λ ts. (counts_of_terms ts).groups) first,
          ap (λ ts. (counts_of_terms ts).groups) all,
          groups-append h.terms read.0.0,
        ))
        (omega (
          arith,
          now_loops,
          ap (λ ts. (counts_of_terms ts).loops) first,
          ap (λ ts. (counts_of_terms ts).loops) all,
          loops-append h.terms read.0.0,
        ))
        (omega (arith, ap nesting_of_terms first, ap nesting_of_terms all, nesting-append h.terms read.0.0))
        (to_each (term_at ctx t) _ rejected whole.0 whole.1))

module _ (table : Table) (names : List (Option Name)) (d : Direction) (ctx : Context) (depth : ℕ) (old : Parser) where
  pub none-fit : depth ≤ max_nesting_depth → Fits (counted old) depth (terms_part table names no_terms)
  none-fit deep = record {
    groups = omega (arith, old.groups_within);
    loops = omega (arith, old.loops_within);
    nesting = omega (arith, deep);
  }

  -- an alternative without a term
  pub no_terms-yield : ends_alternative (text old) ≡ true → depth ≤ max_nesting_depth →
      Yields (terms_part table names) d depth (counted old) old (Ok Empty) (terms_at ctx (text old))
  no_terms-yield ends deep =
      subst (λ (f : Found Terms). IsSomeAnd f (λ y. Builds d depth (counted old) old Empty (terms_part table names y.0) y.1))
      (sym (terms_at-is ctx (text old) ∙ cond-true (ends_alternative (text old)) _ _ ends))
      (record {
        node = tree-Empty;
        fits = none-fit deep;
        counts = sym (added-nothing (counted old));
        rest = refl;
      })

  -- If the first term is invalid or past a limit, then so is the alternative.
  pub first_term-fails : (kind : FaultKind) → ends_alternative (text old) ≡ false → depth ≤ max_nesting_depth →
      IfSome (term_at ctx (text old)) (λ x. Exceeds kind (counted old) depth (term_part table names x.0)) →
      IfSome (terms_at ctx (text old)) (λ x. Exceeds kind (counted old) depth (terms_part table names x.0))
  first_term-fails kind goes_on deep rejected =
      terms-fail table names d ctx depth (text old) (counted old) kind (text old) (counted old) []
      (terms-start table names d ctx depth (text old) (counted old) (none-fit deep)) goes_on rejected

  -- an alternative of one term
  pub one_term-yields : (new : Parser) (r : Result Node Fault) → ends_alternative (text old) ≡ false →
      ends_alternative (text new) ≡ true → depth ≤ max_nesting_depth →
      Yields (term_part table names) d depth (counted old) new r (term_at ctx (text old)) →
      Yields (terms_part table names) d depth (counted old) new r (terms_at ctx (text old))
  one_term-yields new (Ok node) goes_on ends deep read =
      let x = built (term_part table names) d depth (counted old) new (term_at ctx (text old)) node read in
      let b = x.2 in
      let h = terms-first table names d ctx depth (text old) (counted old) node x.0.0 x.0.1 (counted new) goes_on x.1 b.node b.counts b.fits in
      subst (λ (f : Found Terms). IsSomeAnd f (λ y. Builds d depth (counted old) new node (terms_part table names y.0) y.1))
      (sym (terms-end table names d ctx depth (text old) (counted old) x.0.1 (counted new) (node ∷ []) h
      (ap ends_alternative (sym b.rest) ∙ ends)))
      (record {
        node = ap (concatenation d) h.nodes;
        fits = h.fits;
        counts = h.counts;
        rest = b.rest;
      })
  one_term-yields new (Err fault) goes_on ends deep read =
      on_kind_then fault (λ kind. first_term-fails kind goes_on deep) read
