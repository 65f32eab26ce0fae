-- Trees that begin with `^`.
use Rattle.std.proofs.Common.{◌≡◌, ◌==◌, ℕ, Bool, true, false, ◌||◌, List, [], ◌∷◌, ◌++◌, map, Option, ap, ap₂, arith, if◌then◌else◌}
use Rattle.std.proofs.lemmas.Bool.{false≢true}
use Rattle.regress_base.specs.declared.types.AnchorType.{AnchorType}
use Rattle.regress_base.specs.declared.types.AnchorType.TheVariants.{StartOfLine, EndOfLine}
use Rattle.regress_tree.specs.Assertions.{at_anchor}
use Rattle.regress_tree.specs.Reading.{of_bytes}
use Rattle.regress_tree.specs.Steps.{MatchState, capture, captured, hold_at}
use Rattle.regress_tree.specs.Tree.{Tree, leaf, anchor, alt, wrapped, capture_group}
use Rattle.regress_prefilter.specs.Candidates.{is_start, IsAnchored}

held-not : (test : ℕ → Bool) (s : MatchState) → test s.position ≡ false → hold_at test s ≡ []
unfolding hold_at
held-not test s is = ap (λ (b : Bool). if b then s ∷ [] else []) is

not-zero : (k : ℕ) → (k ≡ 0 → ⊥) → (k == 0) ≡ false
not-zero k some = grind arith

pub anchored-leaf : (kind : AnchorType) (multiline : Bool) → is_start kind multiline ≡ true → IsAnchored (leaf (anchor kind multiline))
anchored-leaf StartOfLine false is =
    λ setting bytes s some.
    held-not (at_anchor (of_bytes bytes) StartOfLine false) s (ap (λ b. b || false) (not-zero s.position some))
anchored-leaf StartOfLine true is = absurd (false≢true is)
anchored-leaf EndOfLine multiline is = absurd (false≢true is)

pub anchored-alt : (left right : Tree) → IsAnchored left → IsAnchored right → IsAnchored (alt left right)
anchored-alt left right is is' = λ setting bytes s some. ap₂ (λ a b. a ++ b) (is setting bytes s some) (is' setting bytes s some)

pub anchored-group : (id : ℕ) (name : Option (List ℕ)) (t : Tree) → IsAnchored t → IsAnchored (wrapped (capture_group id name) t)
unfolding capture
anchored-group id name t is = λ setting bytes s some. ap (map (captured id s.position)) (is setting bytes s some)
