use Rattle.std.proofs.Common.{◌≡◌, ◌++◌, OnOk, rules, string_bytes}
use Rattle.std.proofs.lemmas.Result.{on_ok_weaker}
use Rattle.regress_explain.proofs.PageLemmas.{adds_page, appends_if}
use Rattle.regress_explain.proofs.markup.Markup.append.Goals as goal

pub invariant_of-self : goal.invariant_of-self
invariant_of-self c = appends_if _ _ _ _ _ c.push_str.ensures.bytes c.deref.ensures c.other.invariant c.self.invariant

pub returns-clause-anything : goal.returns-clause-anything
returns-clause-anything c =
    let other = string_bytes c.other.inside.text in
    let added : OnOk c.push_str.result (string_bytes c.push_str.new.self ≡ c.args.self.now ++ other) = search rules in
    on_ok_weaker c.push_str.result (λ is. adds_page _ _ other is c.other.invariant) added
