-- `pattern_at` parses a whole source as exactly the pattern that the grammar derives, since the scan finds the groups
-- and names of every derived pattern.
use Rattle.std.proofs.Common.{◌≡◌, ◌+◌, ◌<◌, ℕ, ◌≤◌, ⊎_elim, min, List, [], length, Option, Some, inl, inr, refl, sym, ap, ap₂, ◌∙◌, subst, arith}
use Rattle.std.proofs.lemmas.Option.{same_Some}
use Rattle.std.proofs.lemmas.Bool.{false≢true, cases_lt}
use Rattle.regress_base.specs.Limits.{max_capture_groups, max_nesting_depth}
use Rattle.regress_tree.specs.Steps.{Setting}
use Rattle.regress_lexer.specs.declared.dialect.Dialect.{Dialect}
use Rattle.regress_lexer.specs.declared.fault.FaultKind.{FaultKind}
use Rattle.regress_lexer.specs.Source.{Source}
use Rattle.regress_syntax.specs.Syntax.{Name, Pattern, nothing_counted, counts, names, nesting}
use Rattle.regress_syntax.specs.Productions.{Context}
use Rattle.regress_syntax.specs.Grammar.{IsPattern}
use Rattle.regress_syntax.specs.SameNames.{NoneConflict}
use Rattle.regress_syntax.specs.Paths.{NoTokensConflict, are_tokens_apart}
use Rattle.regress_syntax.specs.Scan.{GivesTokens, plain, tokens, named_by, deepest, TokensShow}
use Rattle.regress_syntax.proofs.lemmas.SameNames.{apart_by_tokens}
use Rattle.regress_syntax.proofs.lemmas.Scan.{named_by-pattern, deepest-whole}
use Rattle.regress_parse.specs.Reader.{pattern_at}
use Rattle.regress_parse.specs.Parsing.{Fits, Exceeds, pattern_part}
use Rattle.regress_parse.specs.Accepted.{own_context_in, IsDerivedIn, IsWithinLimits}
use Rattle.regress_parse.specs.Rejected.{Says, IsTrueIn}
use Rattle.regress_parse.proofs.GrammarLemmas.{pattern_at-sound, pattern_at-complete}
use Rattle.regress_parse.proofs.GroupLemmas.{length-names}

module _ (dialect : Dialect) (setting : Setting) (t : Source) (gives : GivesTokens setting.flags.unicode_sets setting.table t) where
  -- the names of all groups, as the scan finds them
  abbrev pub found_names : List (Option Name)
  found_names = named_by (tokens setting.flags.unicode_sets setting.table plain t)

  -- the context with these names and this number of groups
  abbrev pub scanned : ℕ → Context
  scanned groups = record { dialect = dialect; setting = setting; groups = groups; names = found_names }

  module _ (ctx : Context) (p : Pattern) (sets : ctx.setting.flags.unicode_sets ≡ setting.flags.unicode_sets)
      (same : ctx.setting.table ≡ setting.table) (h : IsPattern ctx p t []) where
    pub names_found : names p ≡ found_names
    names_found = sym (named_by-pattern p) ∙ ap named_by (gives ctx p sets same h)

    pub groups_found : (counts p).groups ≡ length found_names
    groups_found = sym (length-names p) ∙ ap length names_found

    pub own_is : (groups : ℕ) → (counts p).groups ≡ groups → own_context_in dialect setting p ≡ scanned groups
    own_is groups e =
        ap₂ (λ (n : ℕ) (ns : List (Option Name)). record { dialect = dialect; setting = setting; groups = n; names = ns }) e names_found

  abbrev pub most : ℕ
  most = min (length found_names) max_capture_groups

  -- The parser's context, made of what the scan found, is the scanned one.
  pub scanned-is : (groups : ℕ) (ns : List (Option Name)) → ns ≡ found_names → groups ≡ min (length ns) max_capture_groups →
      record { dialect = dialect; setting = setting; groups = groups; names = ns } ≡ scanned most
  scanned-is groups ns same e =
      ap₂ (λ (n : ℕ) (ns : List (Option Name)). record { dialect = dialect; setting = setting; groups = n; names = ns })
      (e ∙ ap (λ ns. min (length ns) max_capture_groups) same) same

  -- The nesting depth of a derived pattern is that of the marks.
  tokens-nesting : (p : Pattern) → IsDerivedIn dialect setting t p → deepest 1 (tokens setting.flags.unicode_sets setting.table plain t) ≡ nesting p
  tokens-nesting p h = ap (deepest 1) (sym (gives (own_context_in dialect setting p) p refl refl h)) ∙ deepest-whole p

  deep-nesting : (p : Pattern) → IsDerivedIn dialect setting t p →
      max_nesting_depth < deepest 1 (tokens setting.flags.unicode_sets setting.table plain t) → max_nesting_depth < nesting p
  deep-nesting p h deep = omega (arith, deep, tokens-nesting p h)

  pub reads_derived : (p : Pattern) → IsDerivedIn dialect setting t p → (counts p).groups ≤ max_capture_groups → pattern_at (scanned most) t ≡ Some (p, [])
  reads_derived p h few =
      let groups : (counts p).groups ≡ most = omega (arith, groups_found (own_context_in dialect setting p) p refl refl h, few) in
      pattern_at-complete (scanned most) p t []
      (subst (λ ctx. IsPattern ctx p t []) (own_is (own_context_in dialect setting p) p refl refl h most groups) h)

  pub derived_reads : (p : Pattern) → pattern_at (scanned most) t ≡ Some (p, []) → (counts p).groups < max_capture_groups + 1 →
      IsDerivedIn dialect setting t p
  derived_reads p found few =
      let h = pattern_at-sound (scanned most) t (p, []) found in
      let groups : (counts p).groups ≡ most = omega (arith, groups_found (scanned most) p refl refl h, few) in
      subst (λ ctx. IsPattern ctx p t []) (sym (own_is (scanned most) p refl refl h most groups)) h

  -- At most one pattern is derived from a source.
  pub same_derived : (p q : Pattern) → IsDerivedIn dialect setting t p → IsDerivedIn dialect setting t q → p ≡ q
  same_derived p q h k =
      let all = length found_names in
      let read : (r : Pattern) → IsDerivedIn dialect setting t r → pattern_at (scanned all) t ≡ Some (r, []) =
      λ r d.
      pattern_at-complete (scanned all) r t []
      (subst (λ ctx. IsPattern ctx r t [])
      (own_is (own_context_in dialect setting r) r refl refl d all (groups_found (own_context_in dialect setting r) r refl refl d)) d) in
      ap (λ (x : Pattern × Source). x.0) (same_Some (p, []) (q, []) (sym (read p h) ∙ read q k))

  -- What the scan reports of the marks holds for each derived pattern.
  pub tokens-say : (kind : FaultKind) → TokensShow (tokens setting.flags.unicode_sets setting.table plain t) kind → (p : Pattern) → IsDerivedIn dialect setting t p →
      Says kind p
  tokens-say kind (inl (is, inl conflicts)) p h =
      let same = gives (own_context_in dialect setting p) p refl refl h in
      inr (inr (inr (is, inl (λ apart. false≢true (sym conflicts ∙ ap are_tokens_apart (sym same) ∙ apart_by_tokens p ∙ apart)))))
  tokens-say kind (inl (is, inr deep)) p h = inr (inr (inr (is, inr (deep-nesting p h deep))))
  tokens-say kind (inr (inl (is, deep))) p h = inr (inr (inl (is, deep-nesting p h deep)))
  tokens-say kind (inr (inr (is, many))) p h = inl (is, omega (arith, many, groups_found (own_context_in dialect setting p) p refl refl h))

  -- What the parser reports holds for each derived pattern, after a scan without an error.
  pub reading-says : deepest 1 (tokens setting.flags.unicode_sets setting.table plain t) ≤ max_nesting_depth → (kind : FaultKind) →
      ((p : Pattern) → pattern_at (scanned most) t ≡ Some (p, []) →
      Exceeds kind nothing_counted 0 (pattern_part setting.table found_names p)) → IsTrueIn dialect setting t kind
  reading-says few kind rejected p h =
      ⊎_elim (λ (many : max_capture_groups < (counts p).groups). inr many)
      (λ (within : (counts p).groups ≤ max_capture_groups). inl (by p h (rejected p (reads_derived p h within))))
      (cases_lt max_capture_groups (counts p).groups)
    where
      by : (p : Pattern) → IsDerivedIn dialect setting t p → Exceeds kind nothing_counted 0 (pattern_part setting.table found_names p) → Says kind p
      by p h (inl (is, many)) = inl (is, omega (arith, many))
      by p h (inr (inl (is, many))) = inr (inl (is, omega (arith, many)))
      by p h (inr (inr deep)) = absurd (omega (arith, few, deep, tokens-nesting p h))

  -- The names of a derived pattern do not conflict where those of the marks do not.
  pub tokens-apart : (p : Pattern) → NoTokensConflict (tokens setting.flags.unicode_sets setting.table plain t) → IsDerivedIn dialect setting t p →
      NoneConflict p
  tokens-apart p apart h =
      sym (apart_by_tokens p) ∙ ap are_tokens_apart (gives (own_context_in dialect setting p) p refl refl h) ∙ apart

module _ (setting : Setting) (names : List (Option Name)) where
  pub fit-limits : (p : Pattern) → Fits nothing_counted 0 (pattern_part setting.table names p) → IsWithinLimits p
  fit-limits p h = record { groups = omega (arith, h.groups); loops = omega (arith, h.loops); nesting = omega (arith, h.nesting) }
