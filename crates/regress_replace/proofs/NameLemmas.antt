-- Groups and their names.
use Rattle.std.proofs.Common.{ℕ, zero, suc, Bool, true, false, List, [], ◌∷◌, Option, Some, None, get_or, All, if◌then◌else◌}
use Rattle.std.proofs.lemmas.List.Elements.{All-head, All-tail}
use Rattle.std.specs.Option.{option_or}
use Rattle.regress_tree.specs.Inside.{IsCaptureInside}
use Rattle.regress_tree.specs.Steps.{CaptureSpan}
use Rattle.regress_tree.specs.WellFormed.{Capture}
use Rattle.regress_match.specs.Names.{is_named, named_span}

module _ (text : List ℕ) where
  or_inside : (x y : Option CaptureSpan) → IsCaptureInside text x → IsCaptureInside text y → IsCaptureInside text (option_or x y)
  or_inside None y p q = q
  or_inside (Some span) y p q = p

  if_inside : (b : Bool) (x : Option CaptureSpan) → IsCaptureInside text x → IsCaptureInside text (if b then x else None)
  if_inside true x p = p
  if_inside false x p = tt

  index_inside : (spans : List (Option CaptureSpan)) (id : ℕ) → All (IsCaptureInside text) spans → IsCaptureInside text (get_or spans id None)
  index_inside [] id all = tt
  index_inside (s ∷ ss) zero all = All-head (IsCaptureInside text) s ss all
  index_inside (s ∷ ss) (suc id) all = index_inside ss id (All-tail (IsCaptureInside text) s ss all)

  -- the capture of a group with a name is inside the text if each capture is
  pub named_inside : (name : List ℕ) (spans : List (Option CaptureSpan)) (cs : List Capture) → All (IsCaptureInside text) spans →
      IsCaptureInside text (named_span name spans cs)
  named_inside name spans [] all = tt
  named_inside name spans (c ∷ cs) all =
      or_inside (if is_named name c.name then get_or spans c.id None else None) (named_span name spans cs)
      (if_inside (is_named name c.name) (get_or spans c.id None) (index_inside spans c.id all)) (named_inside name spans cs all)
