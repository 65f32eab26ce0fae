-- What a handle owns.
use Rattle.std.specs.Prelude.{Option, None, Some}
use base.Fml.{Fml, ftrue, fex}
use denote.RattleType.{RattleType}
use denote.RawPtr.{Ptr}
use Rattle.std.specs.declared.alloc.Global.{Global}
use Rattle.std.specs.contracts.impls.GlobalAllocator.TheImpl.{ghosts}
use Rattle.std_alloc.specs.Box.Ownership.{box_owns}

-- the block of a value at the pointer, with the value and the right to free it by the global allocator; or nothing
abbrev pub owned : (R : RattleType) → Ptr → Option R.Denot → Fml
owned R p None = ftrue
owned R p (Some x) = fex Global (λ a. box_owns (ghosts.dealloc_token a) R p x)
