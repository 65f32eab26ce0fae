-- The relation of the code's values to the definitions: classes without and with the flag v, and properties.
use Rattle.std.specs.Prelude.{◌≡◌, ℕ, Vec, Bool, not, ◌&&◌, ◌||◌, max, List, map, filter, Some, None}
use Rattle.std.specs.declared.alloc.Global.{Global}
use Rattle.regress_base.specs.Intervals.{Bounds, is_member, IsCanonical}
use Rattle.regress_base.specs.Table.{Table}
use Rattle.regress_classes.specs.declared.parameters.Parameters.{Parameters}
use Rattle.regress_unicode.specs.TableOf.{table_of}
use Rattle.regress_classes.specs.declared.class.Class.{Class as CodeClass}
use Rattle.regress_classes.specs.declared.class_atom.ClassAtom.{ClassAtom as CodeClassAtom}
use Rattle.regress_classes.specs.declared.class_atom.ClassAtom.TheVariants as class_atoms
use Rattle.regress_classes.specs.declared.property.Property.{Property as CodeProperty}
use Rattle.regress_classes.specs.declared.property.Property.TheVariants as properties
use Rattle.regress_classes.specs.declared.class_sets.value.Value.{Value as CodeValue}
use Rattle.regress_classes.specs.declared.class_sets.others.Others.{Others}
use Rattle.regress_classes.specs.declared.class_sets.union.Union.{Union as CodeUnion}
use Rattle.regress_classes.specs.declared.class_sets.chain.Chain.{Chain}
use Rattle.regress_classes.specs.declared.class_sets.chain.Taken.{Taken}
use Rattle.regress_classes.specs.declared.class_sets.operand.Operand.{Operand as CodeOperand}
use Rattle.regress_classes.specs.declared.class_sets.operand.Operand.TheVariants as operands
use Rattle.regress_classes.specs.declared.class_sets.ClassSet.{ClassSet as CodeClassSet}
use Rattle.regress_classes.specs.declared.class_sets.OperandContext.{OperandContext}
use Rattle.regress_classes.specs.declared.class_sets.Operator.{Operator}
use Rattle.regress_classes.specs.declared.class_sets.Operator.TheVariants as operators
use Rattle.regress_classes.specs.ClassProductions.{ClassAtom, point, set, members_of, complement_if}
use Rattle.regress_classes.specs.Properties.{Property, of_points, of_strings}
use Rattle.regress_classes.specs.ClassSets.{Value, joined, folded_left, is_among, common, without, Operand, character, class, parts_at, operands_at, class_set_by}
use Rattle.regress_lexer.specs.Source.{Source, Found, found_map, IsCodePoint, char}

-- an atom of a class
abbrev pub class_atom_of : CodeClassAtom → ClassAtom
class_atom_of (class_atoms.Point c) = point c
class_atom_of (class_atoms.Class kind negated) = set (complement_if negated (members_of kind))
class_atom_of (class_atoms.Set members negated) = set (complement_if negated members)

-- A class atom that is a single number is a code point.
abbrev pub IsClassAtomInRange : CodeClassAtom → Type 0
IsClassAtomInRange (class_atoms.Point c) = IsCodePoint c
IsClassAtomInRange (class_atoms.Class kind negated) = Unit {0}
IsClassAtomInRange (class_atoms.Set members negated) = Unit {0}

-- The set has these members. The code keeps a set as canonical intervals, not as it was written.
pub record HasMembers (members set : List Bounds) : Type 0 where
  pub canonical : IsCanonical set
  pub each : (c : ℕ) → is_member set c ≡ is_member members c

-- The new set has these members added.
abbrev pub Adds : List Bounds → (old new : List Bounds) → Type 0
Adds members old new = (c : ℕ) → is_member new c ≡ (is_member old c || is_member members c)

-- the result of parsing a class without the flag v
abbrev pub IsClassRead : CodeClass → Bool × List Bounds → Type 0
IsClassRead class' (inverted, members) = (class'.inverted ≡ inverted) × HasMembers members class'.set

-- the strings as lists of code points
abbrev pub strings_of : List (Vec ℕ Global) → List (List ℕ)
strings_of = map (λ string. string.items)

-- the property of the definitions
abbrev pub property_of : CodeProperty → Property
property_of (properties.Points members) = of_points members
property_of (properties.Strings written) = of_strings (strings_of written.items)

-- the strings and the nesting depth of a value
pub record HasOthers (value : Value) (held : Others) : Type 0 where
  pub strings : strings_of held.strings.items ≡ value.strings
  pub has_empty : held.has_empty ≡ value.has_empty
  pub may_have_strings : held.may_have_strings ≡ value.may_have_strings
  pub nesting : held.nesting ≡ value.nesting

-- the contents of a class with the flag v
pub record IsValue (held : CodeValue) (value : Value) : Type 0 where
  pub members : HasMembers value.members held.set
  pub others : HasOthers value held.others

-- the same for a union, whose code points are still collected
pub record IsUnion (held : CodeUnion) (value : Value) : Type 0 where
  pub members : (c : ℕ) → is_member held.points c ≡ is_member value.members c
  pub others : HasOthers value held.others

-- The new union has the contents of the part added.
abbrev pub Joins : Value → (old new : CodeUnion) → Type 0
Joins part old new = (a : Value) → IsUnion old a → IsUnion new (joined a part)

-- an operand of a class with the flag v, in which a character is a code point
abbrev pub IsOperand : CodeOperand → Operand → Type 0
IsOperand (operands.Character c) operand = (operand ≡ character c) × IsCodePoint c
IsOperand (operands.Class held) operand = (value : Value) × (operand ≡ class value) × IsValue held value

-- the function that parses classes inside this class
abbrev pub inner_of : OperandContext → Source → Found (Bool × Value)
inner_of around = class_set_by (table_of around.tables.now) around.parameters.now around.nesting

module _ (table : Table) (parameters : Parameters) (inner : Source → Found (Bool × Value)) (in_negated : Bool) where
  -- the contents before, joined with the parts that are parsed
  abbrev pub parts_onto : Value → Source → Found Value
  parts_onto held t = found_map (folded_left joined held) (parts_at table parameters inner in_negated t)

  -- the contents before, combined with the operands that are parsed after an operator
  abbrev pub operands_onto : (c : ℕ) → (Value → Value → Value) → Value → Source → Found Value
  operands_onto c f held t = found_map (folded_left f held) (operands_at table parameters inner in_negated c t)

-- the code point that an operator has twice
abbrev pub symbol_of : Operator → ℕ
symbol_of operators.Intersection = char "&"
symbol_of operators.Subtraction = char "-"

-- what an operator makes of two operands
abbrev pub applied : Operator → Value → Value → Value
applied operators.Intersection = common
applied operators.Subtraction = without

-- whether an operator keeps an element, given whether the operand after it has the element
abbrev pub kept : Operator → Bool → Bool
kept operators.Intersection has = has
kept operators.Subtraction has = not has

-- whether what an operator leaves may have strings, given whether the first operand and the others may
abbrev pub may_be_left : Operator → (first taken : Bool) → Bool
may_be_left operators.Intersection first taken = first && taken
may_be_left operators.Subtraction first taken = first

-- The value has the strings of the first operand that the operator keeps, given those of the others.
pub record AreKeptStrings (operator : Operator) (first taken : Others) (value : Value) : Type 0 where
  pub strings : value.strings ≡ filter (λ s. kept operator (is_among (strings_of taken.strings.items) s)) (strings_of first.strings.items)
  pub has_empty : value.has_empty ≡ (first.has_empty && kept operator taken.has_empty)
  pub may_have_strings : value.may_have_strings ≡ may_be_left operator first.may_have_strings taken.may_have_strings
  pub nesting : value.nesting ≡ max first.nesting taken.nesting

-- The value has what the operator keeps of the first operand, given the others.
pub record IsLeft (operator : Operator) (first : CodeValue) (taken : Taken) (value : Value) : Type 0 where
  pub canonical : IsCanonical first.set
  pub members : (c : ℕ) → is_member value.members c ≡ (is_member first.set c && not (is_member taken.points c))
  pub others : AreKeptStrings operator first.others taken.others value

-- the value of a chain of operators so far
abbrev pub IsChain : Chain → Value → Type 0
IsChain chain value =
    elim chain.taken [ None ↦ IsValue chain.first value | Some taken ↦ IsLeft chain.operator chain.first taken value ]

-- the result of parsing a class with the flag v
abbrev pub IsClassSetRead : CodeClassSet → Bool × Value → Type 0
IsClassSetRead read (negated, value) = (read.negated ≡ negated) × IsValue read.value value
