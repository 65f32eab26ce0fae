-- What is appended and the expansion of the rest of the template are together the expansion of the template.
use Rattle.std.proofs.Common.{◌≡◌, ◌++◌, length, map, string_bytes}
use denote.Shadow.{shadow}
use denote.Text.{Utf8}
use Rattle.regress_match.specs.Pattern.{capture_of}
use Rattle.regress_replace.specs.Expansion.{expansion, expansion_with}
use Rattle.regress_replace.proofs.context.Context.expand.Given as goal

abbrev pub invariant-loop-plain : goal.invariant-loop-plain
invariant-loop-plain l = record {
  expanded : string_bytes l.out ++ expansion_with l.has_names l.self.text.now l.self.found.now (map capture_of l.self.groups.now) l.rest
      ≡ string_bytes l.initial.out ++ expansion l.self.text.now l.self.found.now (map capture_of l.self.groups.now) l.template;
  text : shadow (Utf8 l.rest);
}

abbrev pub decreases-loop-plain : goal.decreases-loop-plain
decreases-loop-plain l = length l.rest
