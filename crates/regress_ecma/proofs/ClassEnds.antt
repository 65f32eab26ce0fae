-- A class ends where its parse node does.
use Rattle.std.proofs.Common.{◌≡◌, Bool, true, false, ◌&&◌, List, ◌∷◌, Some, None, if◌then◌else◌, refl, ap}
use Rattle.std.proofs.lemmas.Option.{none-some, same_Some}
use Rattle.regress_base.specs.Intervals.{Bounds}
use Rattle.regress_base.specs.declared.types.Flags.{Flags}
use Rattle.regress_lexer.specs.declared.dialect.Dialect.{Dialect}
use Rattle.regress_lexer.specs.declared.dialect.Dialect.TheVariants.{Regress, Ecma}
use Rattle.regress_lexer.specs.Source.{Source, Found, found_map, char}
use Rattle.regress_classes.specs.ClassProductions.{class_at}
use Rattle.regress_classes.specs.ClassSets.{class_set_at}
use Rattle.regress_syntax.specs.Productions.{class_flags, class_parameters, compared_members, Context, has_names, single, head_at, brackets_at}
use Rattle.regress_syntax.specs.Syntax.{Atom, class, class_set}
use Rattle.regress_ecma.specs.ClassGrammar.{character_class_at}
use Rattle.regress_ecma.specs.ClassNodes.{CharacterClass}
use Rattle.regress_ecma.specs.Differences.{HasCaseDataOfUnicode}
use Rattle.regress_ecma.proofs.ClassMembers.{class_follows}
use Rattle.regress_ecma.proofs.ClassSetMembers.{class_set_ends}
use Rattle.regress_ecma.proofs.EcmaClasses as EcmaClasses

mapped_end : {A B : Type 0} (f : A → B) (found : Found A) (y : B) (rest : Source) → found_map f found ≡ Some (y, rest) →
    (x : A) × (found ≡ Some (x, rest))
mapped_end f None y rest e = absurd (none-some (y, rest) e)
mapped_end {B = B} f (Some (x, t)) y rest e =
    let same : (f x, t) ≡ (y, rest) = same_Some (f x, t) (y, rest) e in
    (x, ap (λ (u : Source). Some (x, u)) (ap (λ (z : B × Source). z.1) same))

module _ (ctx : Context) (maps : HasCaseDataOfUnicode ctx.setting.table)
    (with_u : ctx.setting.flags.unicode_sets ≡ true → ctx.setting.flags.unicode ≡ true) where
  -- Without i the same nodes are found.
  abbrev without_i : Flags
  without_i = record ctx.setting.flags { icase = false }

  abbrev EndsAt : Source → Bool → Source → Type 0
  EndsAt t sets rest = (node : CharacterClass) × (character_class_at ctx.setting.table (class_parameters ctx) sets t ≡ Some (node, rest))

  and_false : (b : Bool) → (b && false) ≡ false
  and_false true = refl
  and_false false = refl

  abbrev under : Dialect → Context
  under dialect = record ctx { dialect = dialect }

  class_ends : ctx.setting.flags.unicode_sets ≡ false → (t : Source) (x : (Bool × List Bounds) × Source) →
      class_at ctx.setting.table (class_parameters ctx) t ≡ Some x → EndsAt t false x.1
  class_ends no_sets t (read, rest) = by_dialect ctx.dialect
    where
      by_dialect : (dialect : Dialect) → class_at ctx.setting.table (class_parameters (under dialect)) t ≡ Some (read, rest) →
          (node : CharacterClass) × (character_class_at ctx.setting.table (class_parameters (under dialect)) false t ≡ Some (node, rest))
      by_dialect Regress h =
          let found = (class_follows ctx.setting.table maps without_i with_u (and_false ctx.setting.flags.unicode_sets) (class_parameters (under Regress)) t).each read rest h in
          (found.value, found.found)
      by_dialect Ecma h =
          let no_fold = ap (λ (v : Bool). v && ctx.setting.flags.icase) no_sets in
          let found = (EcmaClasses.class_follows ctx.setting.table maps ctx.setting.flags with_u no_fold (has_names ctx.names) t).each read rest h in
          (found.value, found.found)

  brackets_end : (t rest : Source) (a : Atom) → brackets_at ctx t ≡ Some (a, rest) → EndsAt t ctx.setting.flags.unicode_sets rest
  brackets_end t rest a = by_test ctx.setting.flags.unicode_sets refl
    where
      by_test : (v : Bool) → ctx.setting.flags.unicode_sets ≡ v →
          (if v
          then found_map (λ (negated, value). class_set ctx.setting.flags negated value) (class_set_at ctx.setting.table (class_parameters ctx) t)
          else found_map (λ (inverted, members). class (class_flags ctx) inverted (compared_members ctx members)) (class_at ctx.setting.table (class_parameters ctx) t))
          ≡ Some (a, rest) → EndsAt t v rest
      by_test true v h =
          let found = mapped_end (λ (negated, value). class_set ctx.setting.flags negated value) (class_set_at ctx.setting.table (class_parameters ctx) t) a rest h in
          class_set_ends ctx.setting.table maps ctx.setting.flags (class_parameters ctx) t rest found.0 found.1
      by_test false v h =
          let found =
          mapped_end (λ (inverted, members). class (class_flags ctx) inverted (compared_members ctx members)) (class_at ctx.setting.table (class_parameters ctx) t) a rest h in
          class_ends v t (found.0, rest) found.1

  pub node_ends : (t rest : Source) (a : Atom) → head_at ctx (char "[" ∷ t) ≡ Some (single a, rest) →
      (node : CharacterClass) × (character_class_at ctx.setting.table (class_parameters ctx) ctx.setting.flags.unicode_sets t ≡ Some (node, rest))
  unfolding head_at
  node_ends t rest a e =
      let found = mapped_end single (brackets_at ctx t) (single a) rest e in
      brackets_end t rest found.0 found.1
