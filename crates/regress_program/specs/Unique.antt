-- IsProgram, IsForwards and IsTidy have at most one proof, so a program can keep them.
use Rattle.std.specs.Prelude.{◌≡◌, ℕ, zero, suc, Bool, true, false, List, [], ◌∷◌}
use Rattle.std.proofs.Common.{refl, sym, ap, ◌∙◌}
use Rattle.std.proofs.Math.Bool.{Bool-set}
use Rattle.std.proofs.Props.{props}
use mathlib.Core.HLevel.{collapsible→set}
use Rattle.regress_tree.specs.Reading.{Direction, forwards, backwards}
use Rattle.regress_tree.specs.Tree.{empty, goal, char, byte_sequence, byte_set, char_set, match_any, match_any_except_line_terminator, anchor, word_boundary, bracket, back_ref, string_set, capture_group, loop, loop_one, lookaround, Tree, leaf, cat, alt, wrapped}
use Rattle.regress_program.specs.Program.{Op, accept, fail, part, split, begin_loop, repeat, end_loop, unsets, begin_group, end_group, look, Routine}
use Rattle.regress_program.specs.Contents.{Ids}
use Rattle.regress_program.specs.Tidy.{BeginsUnset, IsTidy, IsTidyFrom}
use Rattle.regress_program.specs.declared.ranges.GroupRange.{GroupRange}
use Rattle.regress_program.specs.Shape.{IsPart, Fits, IsForwards, IsRoutine, IsProgram}

pub part-prop : (t : Tree) → IsProp (IsPart t)
part-prop (leaf empty) = hlevel props
part-prop (leaf goal) = hlevel props
part-prop (leaf (char c)) = hlevel props
part-prop (leaf (byte_sequence bytes)) = hlevel props
part-prop (leaf (byte_set bytes)) = hlevel props
part-prop (leaf (char_set characters)) = hlevel props
part-prop (leaf match_any) = hlevel props
part-prop (leaf match_any_except_line_terminator) = hlevel props
part-prop (leaf (anchor kind multiline)) = hlevel props
part-prop (leaf (word_boundary invert unicode_icase)) = hlevel props
part-prop (leaf (bracket invert intervals)) = hlevel props
part-prop (leaf (back_ref group icase)) = hlevel props
part-prop (leaf (string_set [] icase)) = hlevel props
part-prop (leaf (string_set (string ∷ []) icase)) = hlevel props
part-prop (leaf (string_set (string ∷ another ∷ strings) icase)) = hlevel props
part-prop (cat parts) = hlevel props
part-prop (alt left right) = hlevel props
part-prop (wrapped (loop_one q) body) = hlevel props
part-prop (wrapped (capture_group id name) body) = hlevel props
part-prop (wrapped (loop q start end) body) = hlevel props
part-prop (wrapped (lookaround negate looks_back start end) body) = hlevel props

pub fits-prop : (earlier : List Routine) (high i : ℕ) (op : Op) → IsProp (Fits earlier high i op)
fits-prop earlier high i accept = hlevel props
fits-prop earlier high i fail = hlevel props
fits-prop earlier high i (part t next) = hlevel (props, part-prop)
fits-prop earlier high i (split first second) = hlevel props
fits-prop earlier high i (begin_loop greedy body next) = hlevel props
fits-prop earlier high i (repeat greedy body next) = hlevel props
fits-prop earlier high i (end_loop next) = hlevel props
fits-prop earlier high i (unsets start end next) = hlevel props
fits-prop earlier high i (begin_group next) = hlevel props
fits-prop earlier high i (end_group id next) = hlevel props
fits-prop earlier high i (look negate routine next) = hlevel props

pub routine-prop : (earlier : List Routine) (r : Routine) → IsProp (IsRoutine earlier r)
routine-prop earlier r = hlevel (props, fits-prop)

pub program-prop : (program : List Routine) → IsProp (IsProgram program)
program-prop program = hlevel (props, routine-prop)

is_forwards : Direction → Bool
is_forwards forwards = true
is_forwards backwards = false

direction_of : Bool → Direction
direction_of true = forwards
direction_of false = backwards

same_direction : (d : Direction) → direction_of (is_forwards d) ≡ d
unfolding direction_of is_forwards
same_direction forwards = refl
same_direction backwards = refl

pub Direction-set : IsSet Direction
Direction-set = collapsible→set (λ d e same. again d e (ap is_forwards same)) (λ d e p q. ap (again d e) (Bool-set (is_forwards d) (is_forwards e) (ap is_forwards p) (ap is_forwards q)))
  where
    again : (d e : Direction) → is_forwards d ≡ is_forwards e → d ≡ e
    again d e same = sym (same_direction d) ∙ ap direction_of same ∙ same_direction e

pub forwards-prop : (program : List Routine) → IsProp (IsForwards program)
forwards-prop program = hlevel (props, Direction-set)

unset-prop : (ranges : List GroupRange) (op : Op) (set : Ids) → IsProp (BeginsUnset ranges op set)
unset-prop ranges accept set = hlevel props
unset-prop ranges fail set = hlevel props
unset-prop ranges (part t next) set = hlevel props
unset-prop ranges (split first second) set = hlevel props
unset-prop ranges (begin_loop greedy body next) set = hlevel props
unset-prop ranges (repeat greedy body next) set = hlevel props
unset-prop ranges (end_loop next) set = hlevel props
unset-prop ranges (unsets start end next) set = hlevel props
unset-prop ranges (begin_group next) set = hlevel props
unset-prop ranges (end_group id next) set = hlevel props
unset-prop ranges (look true routine next) set = hlevel props
unset-prop ranges (look false routine next) set = hlevel props

from-prop : (ranges : List GroupRange) (ops : List Op) (n pc : ℕ) (set : Ids) → IsProp (IsTidyFrom ranges ops n pc set)
from-prop ranges ops zero pc set = hlevel props
from-prop ranges ops (suc n) pc set = hlevel (props, unset-prop, from-prop ranges ops n)

pub tidy-prop : (program : List Routine) → IsProp (IsTidy program)
tidy-prop program = hlevel (props, from-prop)

pub tidy_if-prop : (tidy : Bool) (program : List Routine) → IsProp (tidy ≡ true → IsTidy program)
tidy_if-prop tidy program = hlevel (props, tidy-prop)
