-- What the values of the code represent: groups and the context.
use Rattle.regress_lexer.specs.Views.{change_of}
use Rattle.std.specs.Prelude.{◌≡◌, ℕ, List, map, Option, option_map}
use Rattle.regress_tree.specs.Reading.{direction_if}
use Rattle.regress_syntax.specs.declared.scope.Scope.{Scope}
use Rattle.regress_syntax.specs.declared.group.Group.{Group as CodeGroup}
use Rattle.regress_syntax.specs.declared.group.Group.TheVariants as groups
use Rattle.regress_syntax.specs.declared.groups.Groups.{Groups}
use Rattle.regress_syntax.specs.Meaning.{setting_of}
use Rattle.regress_syntax.specs.Syntax.{Name, groups_named, Atom, back_reference, Group, grouping, modified, capture, look}
use Rattle.regress_syntax.specs.Productions.{Context, named_target}

-- the name of each group
abbrev pub names_in : Groups → List (Option Name)
names_in groups = map (option_map (λ name. name.items)) groups.names.items

-- the context that a scope represents
abbrev pub context_of : Scope → Context
context_of scope = record {
  dialect = scope.dialect;
  setting = setting_of scope.flags scope.tables.now;
  groups = scope.groups.now.count;
  names = names_in scope.groups.now;
}

-- The numbers are those of the groups that this backreference names.
abbrev pub AreReferences : Context → List ℕ → Atom → Type 0
AreReferences ctx numbers a =
    (name : Name) × (a ≡ back_reference ctx.setting.flags (named_target ctx.dialect name)) × (numbers ≡ groups_named name 1 ctx.names)

-- a group of the code
abbrev pub group_of : CodeGroup → Group
group_of groups.Grouping = grouping
group_of (groups.Modified change) = modified (change_of change)
group_of (groups.Capture name) = capture (option_map (λ name. name.items) name)
group_of (groups.Look negate backwards') = look negate (direction_if backwards')
