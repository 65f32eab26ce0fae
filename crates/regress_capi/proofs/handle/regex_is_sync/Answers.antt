-- Threads may read a regular expression at the same time: field by field, since one search would be too long.
use denote.Param.Send.{IsSync, sendable}
use denote.Param.SendFields.{declared_sync}
use Rattle.core.proofs.Crossing as core
use Rattle.std.proofs.Crossing.{crosses}
use Rattle.std.proofs.MapsCrossing as maps
use Rattle.regress_match.specs.contracts.matcher.Matcher as matcher
use Rattle.regress_tree.proofs.ir.node.Node.TheLaws.TheKnot.{sync-Node}
use Rattle.regress_tree.specs.contracts.ir.Regex as tree
use Rattle.regress.specs.contracts.pattern.Regex.{the_row, the_type}
use Rattle.regress_capi.proofs.handle.regex_is_sync.Goals as goal

tree_is_sync : IsSync tree.the_row
tree_is_sync = search (sendable, crosses, core.crosses, maps.crosses, sync-Node) depth 40 fits 20000

matcher_is_sync : IsSync matcher.the_row
matcher_is_sync =
    declared_sync matcher.the_type (
      tree_is_sync,
      (
        search (sendable, crosses, core.crosses, maps.crosses) depth 40 fits 20000,
        (
          search sendable depth 40,
          (
            search (sendable, crosses, core.crosses, maps.crosses, sync-Node) depth 40 fits 20000,
            (
              search sendable,
              (
                search (sendable, crosses, core.crosses, maps.crosses) depth 40 fits 20000,
                (search sendable, (search (sendable, crosses, core.crosses, maps.crosses) depth 40 fits 20000, tt)),
              ),
            ),
          ),
        ),
      ),
    )

regex_is_sync : IsSync the_row
regex_is_sync =
    declared_sync the_type (
      search (sendable, crosses, core.crosses, maps.crosses) depth 40 fits 20000,
      (
        matcher_is_sync,
        (search (sendable, crosses, core.crosses, maps.crosses) depth 40 fits 20000, (search sendable, (search sendable, (search sendable, tt)))),
      ),
    )

pub is_sync-requires-sync-T : goal.is_sync-requires-sync-T
is_sync-requires-sync-T c κs = search (sendable, regex_is_sync) depth 40
