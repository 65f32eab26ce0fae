-- Unpacking a packed entry gives the entry.
use Rattle.std.proofs.Common.{◌≡◌, ℕ, ◌+◌, ◌-◌, ◌<◌, pos, unsigned_abs, ap, arith}
use Rattle.std.specs.Int.{int_rem_euclid}
use Rattle.regress_unicode.specs.ValidEntries.{IsModulo}
use Rattle.regress_unicode.proofs.PackingLemmas.{IsModulo-small, packed, delta_of_packed, mask_of_packed}
use Rattle.regress_unicode.proofs.fold_range.FoldRange.from.Goals as goal

below : (m : ℕ) → IsModulo m → m - 1 < 16
below m h = let small = IsModulo-small m h in omega arith

pub returns : goal.returns
returns c =
    let small = IsModulo-small c.args.modulo c.requires.modulo in
    let four = below c.args.modulo c.requires.modulo in
    let delta = delta_of_packed c.args.delta (c.args.modulo - 1) c.requires.delta_low c.requires.delta_high four in
    let mask = mask_of_packed c.args.delta (c.args.modulo - 1) c.requires.delta_low c.requires.delta_high four in
    let modulo : unsigned_abs (int_rem_euclid (packed c.args.delta (c.args.modulo - 1)) (pos 16)) + 1 ≡ c.args.modulo = omega
    (arith, mask) in
    let start : c.from.result.start ≡ c.args.start = ap (λ s. s.start) c.from.ensures in
    let len : c.from.result.length ≡ c.args.length = ap (λ s. s.length) c.from.ensures in
    rw (start, len, delta, modulo)

pub invariant_of-result : goal.invariant_of-result
invariant_of-result c =
    let small = IsModulo-small c.args.modulo c.requires.modulo in
    let four = below c.args.modulo c.requires.modulo in
    let delta = delta_of_packed c.args.delta (c.args.modulo - 1) c.requires.delta_low c.requires.delta_high four in
    let mask = mask_of_packed c.args.delta (c.args.modulo - 1) c.requires.delta_low c.requires.delta_high four in
    let modulo : unsigned_abs (int_rem_euclid (packed c.args.delta (c.args.modulo - 1)) (pos 16)) + 1 ≡ c.args.modulo = omega
    (arith, mask) in
    rw (c.from.ensures, delta, modulo) record {
      span = record { nonempty = c.requires.nonempty; short = c.requires.short; low = c.requires.low };
      delta_low = c.requires.delta_low;
      delta_high = c.requires.delta_high;
      modulo = c.requires.modulo;
    }
