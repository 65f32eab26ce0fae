-- The last alternative of the right sides of an alternation.
use Rattle.std.proofs.Common.{◌≡◌, ℕ, ◌+◌, ◌-◌, ◌<◌, Bool, false, ◌||◌, Result, Ok, sym, ap, ap₂, subst, ◌∙◌, arith}
use Rattle.std.proofs.lemmas.Bool.{or_parts}
use Rattle.std.specs.declared.alloc.AllocError.{AllocError}
use Rattle.regress_tree.specs.Reading.{Direction}
use Rattle.regress_tree.specs.Tree.{Tree, leaf, cat, alt, wrapped}
use Rattle.regress_tree.specs.Units.{units}
use Rattle.regress_tree.specs.Shapes.{LacksShape}
use Rattle.regress_tree.proofs.lemmas.TreeContexts.{left_of, right_of}
use Rattle.regress_rewrite.specs.Law.{IsPart, Keeps}
use Rattle.regress_tree.specs.Spine.{Shifted, reattach, spine_length, LeftsLackShape}
use Rattle.regress_rewrite.proofs.lemmas.Keeps.{IsPart-kept, IsPart-part}
use Rattle.regress_tree.proofs.lemmas.Measures.{LacksShape-here, LacksShape-inside, LacksShape-from}

pub IsPart-reattach : (above t : Tree) → IsPart (reattach above t) → IsPart t
IsPart-reattach (leaf l) t part = part
IsPart-reattach (cat parts) t part = part
IsPart-reattach (alt left above) t part = IsPart-part (right_of left) t (IsPart-reattach above (alt left t) part)
IsPart-reattach (wrapped w body) t part = part

-- if an alternation lacks a shape its two sides do
pub sides_lack : (shape : Tree → Bool) (left right : Tree) → LacksShape shape (alt left right) → LacksShape shape left × LacksShape shape right
sides_lack shape left right lacks = or_parts _ _ (LacksShape-inside shape (alt left right) lacks)

pub LacksShape-reattach : (shape : Tree → Bool) (above t : Tree) → LacksShape shape (reattach above t) → LacksShape shape t
LacksShape-reattach shape (leaf l) t lacks = lacks
LacksShape-reattach shape (cat parts) t lacks = lacks
LacksShape-reattach shape (alt left above) t lacks = (sides_lack shape left t (LacksShape-reattach shape above (alt left t) lacks)).1
LacksShape-reattach shape (wrapped w body) t lacks = lacks
