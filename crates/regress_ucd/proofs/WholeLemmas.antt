-- An error has no table.
use Rattle.std.proofs.Common.{◌≡◌, Result, sym, subst}
use Rattle.std.proofs.lemmas.Result.{err_from_is_err_and}
use Rattle.std.specs.Result.{IfOk, IsErrAnd}
use Rattle.std.specs.declared.alloc.AllocError.{AllocError}
use Rattle.regress_unicode.specs.declared.Tables.{Tables}
use Rattle.regress_unicode.specs.TableOf.{table_of}
use Rattle.regress_ucd.specs.UnicodeTable.{unicode_table}

-- of an error that `?` returns, `IfOk` holds
pub no_table : (Q : AllocError → Type 0) (r : Result Tables AllocError) → IsErrAnd r Q → IfOk r (λ tables. table_of tables ≡ unicode_table)
no_table Q r h = let is = err_from_is_err_and r h in subst (λ (x : Result Tables AllocError). IfOk x (λ tables. table_of tables ≡ unicode_table)) (sym is.1) tt
