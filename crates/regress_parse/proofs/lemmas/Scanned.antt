-- What the scan finds in an accepted source.
use Rattle.std.proofs.Common.{◌≡◌, ℕ, min, List, length, Option, refl, sym, ◌∙◌, arith}
use Rattle.regress_base.specs.Limits.{max_capture_groups}
use Rattle.regress_tree.specs.Steps.{Setting}
use Rattle.regress_lexer.specs.declared.dialect.Dialect.{Dialect}
use Rattle.regress_lexer.specs.Source.{Source}
use Rattle.regress_syntax.specs.Syntax.{Name, Pattern, counts}
use Rattle.regress_syntax.specs.Scan.{GivesTokens, plain, tokens, named_by}
use Rattle.regress_parse.specs.Accepted.{own_context_in, IsAcceptedIn}
use Rattle.regress_parse.proofs.AcceptedLemmas.{most, groups_found, own_is, scanned-is}

module _ (dialect : Dialect) (setting : Setting) (t : Source) (gives : GivesTokens setting.flags.unicode_sets setting.table t)
    (p : Pattern) (h : IsAcceptedIn dialect setting t p) where
  own_groups : (counts p).groups ≡ most dialect setting t gives
  own_groups = omega (arith, groups_found dialect setting t gives (own_context_in dialect setting p) p refl refl h.derived, h.limits.groups)

  -- The parser's context, made of the groups and names found, is the pattern's own.
  pub scanned_context : (groups : ℕ) (ns : List (Option Name)) →
      ns ≡ named_by (tokens setting.flags.unicode_sets setting.table plain t) → groups ≡ min (length ns) max_capture_groups →
      record { dialect = dialect; setting = setting; groups = groups; names = ns } ≡ own_context_in dialect setting p
  scanned_context groups ns same e =
      scanned-is dialect setting t gives groups ns same e
      ∙ sym (own_is dialect setting t gives (own_context_in dialect setting p) p refl refl h.derived (most dialect setting t gives) own_groups)
