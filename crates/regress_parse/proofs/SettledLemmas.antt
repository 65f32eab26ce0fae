-- A source with an error that the scan finds is not accepted.
use Rattle.std.proofs.Common.{◌≡◌, ℕ, suc, ◌+◌, ◌-◌, false, ◌++◌, take, drop, length, Some, refl, sym, ap, subst, arith}
use Rattle.regress_base.specs.Table.{IsValidTable}
use Rattle.regress_tree.specs.Steps.{Setting}
use Rattle.regress_lexer.specs.declared.dialect.Dialect.{Dialect}
use Rattle.regress_lexer.specs.declared.fault.FaultKind.{FaultKind}
use Rattle.regress_lexer.specs.declared.fault.Fault.{Fault}
use Rattle.regress_lexer.specs.declared.fault.Fault.TheVariants.{Rejected, Memory}
use Rattle.regress_lexer.specs.Source.{Source, is_at}
use Rattle.regress_syntax.specs.Scan.{plain, tokens}
use Rattle.regress_syntax.specs.FirstErrors.{Flaw, remaining_at}
use Rattle.regress_syntax.specs.Scanning.{IsLocated, OnKindAt}
use Rattle.regress_syntax.proofs.lemmas.Scan.{gives_tokens}
use Rattle.regress_syntax.proofs.lemmas.FirstErrors.{Shows, left_within, shows_front, shows_none}
use Rattle.regress_parse.specs.Accepted.{own_context_in}
use Rattle.regress_parse.specs.Settled.{NoneStartsWithIn, IsFinalIn}

none_begins : (dialect : Dialect) (setting : Setting) (flaw : Flaw) (t : Source) (left position : ℕ) → IsValidTable setting.table →
    remaining_at flaw setting.flags.unicode_sets plain 1 t ≡ Some left → position + left ≡ length t → is_at 91 (drop position t) ≡ false →
    NoneStartsWithIn dialect setting (take (position + 1) t)
none_begins dialect setting flaw t left position lawful first split is after p accepted =
    let sets = setting.flags.unicode_sets in
    let next : position + 1 ≡ suc position = omega arith in
    let front : take (position + 1) t ≡ take (suc position) t = ap (λ (n : ℕ). take n t) next in
    let shown : Shows flaw 1 (tokens sets setting.table plain (take (position + 1) t ++ after)) =
    subst (λ (u : Source). Shows flaw 1 (tokens sets setting.table plain (u ++ after))) (sym front)
    (shows_front flaw sets setting.table plain 1 t left position after (omega arith) first split is) in
    shows_none flaw p accepted.limits.nesting
    (subst (Shows flaw 1) (sym (gives_tokens sets setting.table (take (position + 1) t ++ after) lawful (own_context_in dialect setting p) p refl refl accepted.derived))
    shown)

located_settles : (dialect : Dialect) (setting : Setting) (t : Source) (kind : FaultKind) (remaining : ℕ) → IsValidTable setting.table →
    IsLocated setting.flags.unicode_sets t kind remaining → IsFinalIn dialect setting t kind (length t - remaining)
located_settles dialect setting t kind remaining lawful located flaw left is first =
    let within = left_within flaw setting.flags.unicode_sets plain 1 t left first in
    let split : length t - remaining + left ≡ length t = omega (arith, within, located flaw left is first) in
    (split, none_begins dialect setting flaw t left (length t - remaining) lawful first split)

pub settled : (dialect : Dialect) (setting : Setting) (t : Source) (fault : Fault) → IsValidTable setting.table → OnKindAt fault (IsLocated setting.flags.unicode_sets t) →
    OnKindAt fault (λ kind left. IsFinalIn dialect setting t kind (length t - left))
settled dialect setting t (Rejected kind left) lawful located = located_settles dialect setting t kind left lawful located
settled dialect setting t (Memory e) lawful located = tt
