use Rattle.std.proofs.Common.{◌≡◌, map, string_bytes, refl, lit<}
use Rattle.std.proofs.lemmas.Str.Pattern.{starts_char}
use Rattle.regress_match.specs.Pattern.{capture_of}
use Rattle.regress_replace.specs.Expansion.{expansion_with}
use Rattle.regress_replace.proofs.TemplateLemmas.{appended-reference, appended-dollar, expansion-unnamed}
use Rattle.regress_replace.proofs.context.Context.expand_reference.Goals as goal
use Rattle.regress_replace.proofs.context.Context.expand_reference.Goals.{then-starts_with, else-starts_with}

pub returns-in_ok-push_str-in-Some-clause-expanded : goal.returns-in_ok-push_str-in-Some-clause-expanded
returns-in_ok-push_str-in-Some-clause-expanded c =
    appended-reference c.args.has_names.now c.args.self.text.now c.args.self.found.now (map capture_of c.args.self.groups.now)
    (string_bytes c.args.out.now) (string_bytes c.push_str.new.self) c.args.after.now (c.in-Some.reference, c.in-Some.rest)
    (rw c.group_count.ensures at c.in-Some.ensures) (cc (c.in_ok-push_str-in-Some.ensures.bytes, c.value.ensures))

pub returns-in_ok-push_str-in-None-clause-expanded : goal.returns-in_ok-push_str-in-None-clause-expanded
returns-in_ok-push_str-in-None-clause-expanded c =
    let none = rw c.group_count.ensures at c.in-None.ensures in
    let same : expansion_with c.if-starts_with.has_names c.args.self.text.now c.args.self.found.now (map capture_of c.args.self.groups.now) c.args.after.now
    ≡ expansion_with c.args.has_names.now c.args.self.text.now c.args.self.found.now (map capture_of c.args.self.groups.now) c.args.after.now =
    elim c.if-starts_with.branch [
      | then-starts_with w ↦
          rw w.has_names-is
          (expansion-unnamed c.args.has_names.now c.args.self.text.now c.args.self.found.now (map capture_of c.args.self.groups.now) c.args.after.now none
          ((starts_char 60 c.args.after.now c.starts_with.result c.starts_with.ensures.cases (lit< tt) (lit< tt)).0 w.if-starts_with.true))
      | else-starts_with w ↦ rw w.has_names-is refl
    ] in
    rw same
    (appended-dollar c.args.has_names.now c.args.self.text.now c.args.self.found.now (map capture_of c.args.self.groups.now)
    (string_bytes c.args.out.now) (string_bytes c.push_str-in-None.new.self) c.args.after.now none c.in_ok-push_str-in-None.ensures.bytes)
