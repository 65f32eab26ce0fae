use Rattle.std.proofs.Common.{◌∙◌, ◌++◌, ap, map, string_bytes, sym, rules, lit<}
use Rattle.std.proofs.lemmas.Str.Pattern.{split_parts}
use Rattle.regress_match.specs.Pattern.{capture_of}
use Rattle.regress_replace.proofs.TemplateLemmas.{appended-last, appended-plain, expansion-last}
use Rattle.regress_replace.proofs.context.Context.expand.Goals as goal

pub loop-plain-preserved : goal.loop-plain-preserved
loop-plain-preserved c =
    let parts =
    rw c.in-Some.is at (split_parts 36 c.loop-plain.rest.now c.split_once.result c.split_once.ensures.cases (lit< tt)) in
    record {
      expanded =
          appended-plain c.loop-plain.has_names c.args.self.text.now c.args.self.found.now (map capture_of c.args.self.groups.now)
          c.expand_reference.new.has_names (string_bytes c.loop-plain.out) (string_bytes c.push_str.new.self) (string_bytes c.expand_reference.new.out)
          c.in-Some.plain.now c.in-Some.after.now c.in_ok-rest.rest.now c.loop-plain.rest.now parts.0 parts.1 c.in_ok-push_str.ensures.bytes
          c.in_ok-rest.ensures.expanded
          ∙ c.loop-plain.invariant.expanded;
      text = search rules;
    }

pub returns : goal.returns
returns c =
    let none = rw c.in_default.is at (split_parts 36 c.loop-plain.rest.now c.split_once.result c.split_once.ensures.cases (lit< tt)) in
    appended-last c.push_str-2.result (string_bytes c.push_str-2.new.self) (string_bytes c.loop-plain.out) c.loop-plain.rest.now _
    c.push_str-2.ensures.bytes
    (ap (λ zs. string_bytes c.loop-plain.out ++ zs)
    (sym (expansion-last c.loop-plain.has_names c.args.self.text.now c.args.self.found.now (map capture_of c.args.self.groups.now) c.loop-plain.rest.now
    none)) ∙ c.loop-plain.invariant.expanded)
