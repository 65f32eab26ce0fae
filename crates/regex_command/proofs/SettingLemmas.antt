-- What holds under a table that is that of all of Unicode.
use Rattle.std.proofs.Common.{◌≡◌, ℕ, List, subst}
use Rattle.std.specs.Prelude.{⊤}
use Rattle.regress_base.specs.declared.types.Flags.{Flags}
use Rattle.regress_base.specs.Table.{Table}
use Rattle.regress_front.specs.declared.parse.Dialect.{Dialect}
use Rattle.regress_parse.specs.Rejected.{NoneIsAcceptedIn}
use Rattle.regress_parse.specs.Settled.{IsFaultIn}
use Rattle.regress_parse.specs.declared.fault.PlacedFault.{PlacedFault}
use Rattle.regress_parse.specs.declared.fault.PlacedFault.TheVariants as placed
use Rattle.regress_tree.specs.Steps.{Setting}
use Rattle.regress_ucd.specs.UnicodeTable.{unicode_table}
use Rattle.regress.specs.Unicode.{unicode_setting}

module _ (flags : Flags) (points source : List ℕ) (table : Table) (characters : points ≡ source) (same : table ≡ unicode_table) where
  pub under_unicode : (P : Setting → List ℕ → Type 0) → P (record { flags = flags; table = table }) points → P (unicode_setting flags) source
  under_unicode P h =
      subst (λ (x : List ℕ). P (unicode_setting flags) x) characters (subst (λ (x : Table). P (record { flags = flags; table = x }) points) same h)

-- P holds, if the error is a syntax error.
abbrev pub OnSyntax : PlacedFault → Type 0 → Type 0
OnSyntax (placed.Syntax kind error position) P = P
OnSyntax (placed.Memory error) P = ⊤

pub rejected_by : (dialect : Dialect) (setting : Setting) (source : List ℕ) (fault : PlacedFault) → IsFaultIn dialect setting source fault →
    OnSyntax fault (NoneIsAcceptedIn dialect setting source)
rejected_by dialect setting source (placed.Syntax kind error position) is = is.rejected
rejected_by dialect setting source (placed.Memory error) is = tt
