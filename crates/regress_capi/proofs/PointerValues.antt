-- The machine value of a handle, which is that of a pointer, and what a handle owns.
use Rattle.std.proofs.Common.{◌≡◌, refl, lit<}
use lib.Dec.{T}
use mathlib.Core.Bool.{true, ◌&&◌}
use mir.Val.{Val, vstruct, vcons, vnil, has_ty, WT}
use mir.Syntax.{ty_ptr}
use denote.RawPtr.{Ptr, block_ptr, null_ptr, ptr_val}
use Rattle.std.specs.Prelude.{Option, None, Some}

-- the machine value
abbrev pub alone : Ptr → Val
alone p = vstruct (vcons (ptr_val p) vnil)

pub alone_good : (p : Ptr) → T (has_ty ty_ptr (ptr_val p) && true) × WT (alone p)
alone_good (block_ptr b o) = (tt, (tt, tt))
alone_good null_ptr = (tt, (record { fits = lit< tt }, tt))

pub some_of : {X : Type 0} (v : Option X) → (v ≡ None → ⊥) → (x : X) × (v ≡ Some x)
some_of None some = absurd (some refl)
some_of (Some x) some = (x, refl)
