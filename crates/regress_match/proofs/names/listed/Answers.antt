use Rattle.std.proofs.Common.{rules, ◌≡◌, ◌∙◌, ◌++◌, List, map, ap}
use Rattle.regress_tree.specs.Gathered.{gathered, own_group}
use Rattle.regress_tree.specs.Tree.{tree}
use Rattle.regress_tree.proofs.lemmas.Gathered.{visited_adds, gathered-groups}
use Rattle.regress_tree.specs.WellFormed.{Capture}
use Rattle.regress_match.specs.Listing.{Lists}
use Rattle.regress_match.specs.Pattern.{capture_of}
use Rattle.regress_match.specs.declared.names.Group.{Group}
use Rattle.regress_match.proofs.NamesLemmas.{adds_none, adds_both}
use Rattle.regress_match.proofs.names.listed.Goals as goal

finish : (gs hs : List Group) (cs : List Capture) → gs ≡ hs → map capture_of hs ≡ cs → map capture_of gs ≡ cs
finish gs hs cs same is = ap (map capture_of) same ∙ is

pub returns : goal.returns
returns c =
    let adds = visited_adds _ own_group (λ a b xs. (b.0.ghost_name ≡ a.0.ghost_name) × Lists a.0.now b.0.now xs) (record {
      none = λ a. (search rules, adds_none a.0.now);
      joined = λ a b d xs ys first second. (second.0 ∙ first.0, adds_both a.0.now b.0.now d.0.now xs ys first.1 second.1);
      adds = λ a b t u d after skip call. (search rules, rw (← call.on) (search rules));
      leaves = λ a b t u d after skip call. call.leaves;
      goes_on = λ a b t u d after skip call. search rules;
    }) _ _ _ _ _ _ c.walk.ensures.visited in
    finish _ c.walk.new.func.0.now.groups.items _ (search rules)
    ((adds.1 (search rules)).1 ∙ ap (λ gs. map capture_of gs ++ gathered own_group (tree c.args.node.now)) c.new.ensures.items
    ∙ gathered-groups (tree c.args.node.now))
