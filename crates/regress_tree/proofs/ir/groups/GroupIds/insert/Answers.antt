use Rattle.std.proofs.Common.{◌/◌, ◌<◌, length, not, ◌∙◌, ap, rules}
use Rattle.regress_tree.proofs.GroupIdLemmas.{holds-there, holds-insert}
use Rattle.regress_tree.proofs.ir.groups.GroupIds.insert.Goals as goal

pub returns-clause-new : goal.returns-clause-new
returns-clause-new c =
    let h = c.well_formed in
    let inside : c.args.id / 256 < length c.args.self.now.pages = search rules in
    ap not (c.contains-was_there.ensures ∙ holds-there c.args.self.now c.args.id _ inside)

pub returns-clause-after : goal.returns-clause-after
returns-clause-after c =
    let h = c.well_formed in
    let inside : c.args.id / 256 < length c.args.self.now.pages = search rules in
    holds-insert c.args.self.now c.args.id _ inside c.set.new.self c.set.ensures
