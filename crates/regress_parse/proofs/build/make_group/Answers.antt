use Rattle.std.proofs.Common.{◌≡◌, ℕ, Vec, Option, Some, None, List, encode_utf8_all, option_map, refl, sym, ap, ap₂, ◌∙◌}
use Rattle.std.specs.declared.alloc.Global.{Global}
use Rattle.regress_tree.specs.Tree.{Tree, tree, wrapped, capture_group}
use Rattle.regress_tree.proofs.lemmas.Nodes.{tree-CaptureGroup}
use Rattle.regress_syntax.specs.Views.{group_of}
use Rattle.regress_parse.specs.TreeOf.{tree_of_group}
use Rattle.regress_parse.proofs.build.make_group.Goals as goal

encoded : (name : Option (Vec ℕ Global)) → option_map (λ n. encode_utf8_all n.items) name ≡ option_map encode_utf8_all (option_map (λ n. n.items) name)
encoded None = refl
encoded (Some name) = refl

pub returns-in_ok-optional_text-in-Capture : goal.returns-in_ok-optional_text-in-Capture
returns-in_ok-optional_text-in-Capture c =
    let groups = c.args.groups in
    tree-CaptureGroup groups.start c.in_ok-new-in-Capture.field-0 c.in_ok-optional_text-in-Capture.field-0
    ∙ ap₂ (λ (name : Option (List ℕ)) (body : Tree). wrapped (capture_group groups.start name) body)
    (c.in_ok-optional_text-in-Capture.ensures ∙ encoded c.in-Capture.name) (ap tree c.in_ok-new-in-Capture.ensures.ok)
    ∙ sym (ap (λ kind. tree_of_group groups.start groups.end (group_of kind) (tree c.args.contents)) c.in-Capture.is)
