-- What an explanation is.
use Rattle.std.proofs.Common.{◌≡◌, ℕ, Bool, true, List, [], Option, chars, refl, subst, sym}
use Rattle.std.specs.Prelude.{Result, IfOk}
use Rattle.std.specs.Io.KnownBytes.{Appends}
use Rattle.regress_arguments.specs.Output.{Took}
use Rattle.regress_base.specs.declared.types.Flags.{Flags}
use Rattle.regress_base.specs.Table.{Table}
use Rattle.regress_front.specs.declared.parse.Dialect.{Dialect}
use Rattle.regress_parse.specs.Accepted.{IsAcceptedIn}
use Rattle.regress_parse.specs.Rejected.{NoneIsAcceptedIn}
use Rattle.regress_parse.specs.declared.fault.PlacedFault.{PlacedFault}
use Rattle.regress_parse.specs.declared.fault.PlacedFault.TheVariants as placed
use Rattle.regress_syntax.specs.Syntax.{Pattern}
use Rattle.regress_ucd.specs.UnicodeTable.{unicode_table}
use Rattle.regex_lines.specs.Ending.{unaccepted}
use Rattle.regex_options.specs.Request.{Form}
use Rattle.regex_command.specs.Patterns.{HasForm, IsAcceptedPattern, IsExplanationIn}
use Rattle.regress.specs.Unicode.{unicode_setting}
use Rattle.regex_lines.specs.declared.failure.Failure.{Failure}
use Rattle.regex_command.proofs.LintLemmas.{appends_nothing}
use Rattle.regex_command.proofs.SettingLemmas.{OnSyntax, under_unicode}

module _ (dialect : Dialect) (flags : Flags) (points pattern : List ℕ) (table : Table)
    (characters : points ≡ chars pattern) (same : table ≡ unicode_table) where
  pub is_accepted : (p : Pattern) → IsAcceptedIn dialect (record { flags = flags; table = table }) points p →
      IsAcceptedPattern dialect (unicode_setting flags) (chars pattern)
  is_accepted p accepted = (p, under_unicode flags points (chars pattern) table characters same (λ setting text. IsAcceptedIn dialect setting text p) accepted)

  -- an accepted pattern
  pub explained : (form : Form) (old new : Option (List ℕ)) (text bytes : List ℕ) (p : Pattern) →
      IsAcceptedIn dialect (record { flags = flags; table = table }) points p →
      HasForm dialect form (unicode_setting flags) pattern text → bytes ≡ text → Appends old new bytes →
      Took old new (IsExplanationIn dialect form true (unicode_setting flags) pattern)
  explained form old new text bytes p accepted has is appends =
      (bytes, (is_accepted p accepted, λ _. subst (HasForm dialect form (unicode_setting flags) pattern) (sym is) has), appends)

  -- a rejected pattern
  pub unexplained : (form : Form) (known : Option (List ℕ)) (fault : PlacedFault) (r : Result Bool Failure) → r ≡ unaccepted fault →
      OnSyntax fault (NoneIsAcceptedIn dialect (record { flags = flags; table = table }) points) →
      IfOk r (λ accepted. Took known known (IsExplanationIn dialect form accepted (unicode_setting flags) pattern))
  unexplained form known fault r is none =
      subst
      (λ (r : Result Bool Failure). IfOk r (λ accepted. Took known known (IsExplanationIn dialect form accepted (unicode_setting flags) pattern)))
      (sym is) (by fault none)
    where
      by : (fault : PlacedFault) → OnSyntax fault (NoneIsAcceptedIn dialect (record { flags = flags; table = table }) points) →
          IfOk (unaccepted fault) (λ accepted. Took known known (IsExplanationIn dialect form accepted (unicode_setting flags) pattern))
      by (placed.Syntax kind error position) none = (
        [],
        ((under_unicode flags points (chars pattern) table characters same (NoneIsAcceptedIn dialect) none, refl), λ is. let bad : ⊥ = cc is in absurd bad),
        appends_nothing known,
      )
      by (placed.Memory error) none = tt
