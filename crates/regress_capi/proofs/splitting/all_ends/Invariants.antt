-- The numbers so far and those of the remaining spans are together those of all spans.
use Rattle.std.proofs.Common.{◌≡◌, ◌++◌, drop, flat_map}
use Rattle.regress_capi.specs.Spans.{ends_of}
use Rattle.regress_capi.proofs.splitting.all_ends.Given as goal

abbrev pub invariant-loop-span : goal.invariant-loop-span
invariant-loop-span l = l.ends.items ++ flat_map ends_of (drop l.span-index l.spans) ≡ flat_map ends_of l.spans
