-- How counts and limits of a part relate to those of the pattern around it.
use Rattle.std.proofs.Common.{◌≡◌, inl, inr, ℕ, ◌+◌, ◌≤◌, ap₂, arith}
use Rattle.regress_syntax.specs.Syntax.{Counts, added, nothing_counted}
use Rattle.regress_lexer.specs.declared.fault.FaultKind.{FaultKind}
use Rattle.regress_parse.specs.Parsing.{Part, Fits, Exceeds}

pub added-assoc : (a b c : Counts) → added (added a b) c ≡ added a (added b c)
added-assoc a b c =
    ap₂ (λ (g l : ℕ). record { groups = g; loops = l })
    (let e : a.groups + b.groups + c.groups ≡ a.groups + (b.groups + c.groups) = omega arith in e)
    (let e : a.loops + b.loops + c.loops ≡ a.loops + (b.loops + c.loops) = omega arith in e)

pub added-nothing : (a : Counts) → added a nothing_counted ≡ a
added-nothing a =
    ap₂ (λ (g l : ℕ). record { groups = g; loops = l })
    (let e : a.groups + 0 ≡ a.groups = omega arith in e)
    (let e : a.loops + 0 ≡ a.loops = omega arith in e)

-- If a whole keeps the limits after some counts, then so does a part of it.
pub Fits-inside : (before mid : Counts) (depth deep : ℕ) (whole part : Part) →
    mid.groups + part.counts.groups ≤ before.groups + whole.counts.groups →
    mid.loops + part.counts.loops ≤ before.loops + whole.counts.loops →
    deep + part.nesting ≤ depth + whole.nesting → Fits before depth whole → Fits mid deep part
Fits-inside before mid depth deep whole part g l d fits = record {
  groups = omega (arith, fits.groups);
  loops = omega (arith, fits.loops);
  nesting = omega (arith, fits.nesting);
}

-- If a part is past a limit, then so is the whole around it.
pub Exceeds-around : (kind : FaultKind) (before mid : Counts) (depth deep : ℕ) (whole part : Part) →
    mid.groups + part.counts.groups ≤ before.groups + whole.counts.groups →
    mid.loops + part.counts.loops ≤ before.loops + whole.counts.loops →
    deep + part.nesting ≤ depth + whole.nesting → Exceeds kind mid deep part → Exceeds kind before depth whole
Exceeds-around kind before mid depth deep whole part g l d (inl many) = inl (many.0, omega (arith, g, many.1))
Exceeds-around kind before mid depth deep whole part g l d (inr (inl many)) = inr (inl (many.0, omega (arith, l, many.1)))
Exceeds-around kind before mid depth deep whole part g l d (inr (inr more)) = inr (inr (omega (arith, d, more)))
