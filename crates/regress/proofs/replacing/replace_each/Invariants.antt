-- The closure was called on the matches so far, and the text is that up to the end of the last one, with these replaced.
use Rattle.std.proofs.Common.{drop, map, string_bytes}
use Rattle.regress_replace.proofs.lemmas.Order.{IsBefore}
use Rattle.regress.specs.Compiled.{match_of}
use Rattle.regress.proofs.ReplacedLemmas.{HasReplaced}
use Rattle.regress.proofs.replacing.replace_each.Given as goal

abbrev pub invariant-loop-found : goal.invariant-loop-found
invariant-loop-found g l = record {
  callable : goal.F-IsAlwaysCallable g l.replacer;
  replaced : HasReplaced g.F.FnMut l.text l.matches l.fn.replacer l.found-index l.from l.replacer (string_bytes l.out);
  before : IsBefore l.text l.from (drop l.found-index (map match_of l.matches));
}
