-- What is appended and the rest of the text, with the remaining matches replaced, are together what is wanted.
use Rattle.std.proofs.Common.{◌≡◌, ◌++◌, drop, map, string_bytes}
use Rattle.regress_match.specs.Pattern.{capture_of}
use Rattle.regress_replace.specs.Expansion.{expansion}
use Rattle.regress_replace.specs.Replaced.{replaced}
use Rattle.regress_replace.proofs.lemmas.Order.{IsBefore}
use Rattle.regress_replace.proofs.replace.replace_matches.Given as goal

abbrev pub invariant-loop-found : goal.invariant-loop-found
invariant-loop-found l = record {
  so_far : string_bytes l.out ++ replaced l.text (λ m. expansion l.text m (map capture_of l.groups) l.template) l.from (drop l.found-index l.matches)
      ≡ replaced l.text (λ m. expansion l.text m (map capture_of l.groups) l.template) 0 l.matches;
  before : IsBefore l.text l.from (drop l.found-index l.matches);
}
