-- Any thread may use a regular expression: field by field, since one search would be too long.
use denote.Param.Send.{IsSend, sendable}
use denote.Param.SendFields.{declared_send}
use Rattle.core.proofs.Crossing as core
use Rattle.std.proofs.Crossing.{crosses}
use Rattle.std.proofs.MapsCrossing as maps
use Rattle.regress_match.specs.contracts.matcher.Matcher as matcher
use Rattle.regress_tree.proofs.ir.node.Node.TheLaws.TheKnot.{send-Node}
use Rattle.regress_tree.specs.contracts.ir.Regex as tree
use Rattle.regress.specs.contracts.pattern.Regex.{the_row, the_type}
use Rattle.regress_capi.proofs.handle.regex_is_send.Goals as goal

tree_is_send : IsSend tree.the_row
tree_is_send = search (sendable, crosses, core.crosses, maps.crosses, send-Node) depth 40 fits 20000

matcher_is_send : IsSend matcher.the_row
matcher_is_send =
    declared_send matcher.the_type (
      tree_is_send,
      (
        search (sendable, crosses, core.crosses, maps.crosses) depth 40 fits 20000,
        (
          search sendable depth 40,
          (
            search (sendable, crosses, core.crosses, maps.crosses, send-Node) depth 40 fits 20000,
            (
              search sendable,
              (
                search (sendable, crosses, core.crosses, maps.crosses) depth 40 fits 20000,
                (search sendable, (search (sendable, crosses, core.crosses, maps.crosses) depth 40 fits 20000, tt)),
              ),
            ),
          ),
        ),
      ),
    )

regex_is_send : IsSend the_row
regex_is_send =
    declared_send the_type (
      search (sendable, crosses, core.crosses, maps.crosses) depth 40 fits 20000,
      (
        matcher_is_send,
        (search (sendable, crosses, core.crosses, maps.crosses) depth 40 fits 20000, (search sendable, (search sendable, (search sendable, tt)))),
      ),
    )

pub is_send-requires-send-T : goal.is_send-requires-send-T
is_send-requires-send-T c κs = search (sendable, regex_is_send) depth 40
