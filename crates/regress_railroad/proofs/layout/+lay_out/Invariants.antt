-- The remaining alternatives are smaller.
use Rattle.std.proofs.Common.{◌<◌}
use Rattle.regress_tree.specs.declared.ir.node.Node.{size-Node}
use Rattle.regress_railroad.proofs.layout.+lay_out.Given as goal

abbrev pub invariant-lay_out_tracks-loop-rest : goal.invariant-lay_out_tracks-loop-rest
invariant-lay_out_tracks-loop-rest l = size-Node l.rest < size-Node l.node
