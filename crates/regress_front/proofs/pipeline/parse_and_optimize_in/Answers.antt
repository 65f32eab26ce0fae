use Rattle.regress_syntax.specs.Meaning.{setting_of}
use Rattle.regress_lexer.specs.Dialects.{flags_in_force}
use Rattle.regress_front.proofs.OptimizedLemmas.{accepted-optimized, left-optimized, meaning-optimized, goal-optimized, captures-optimized, units-optimized}
use Rattle.regress_front.proofs.pipeline.parse_and_optimize_in.Goals as goal

pub returns-clause-left : goal.returns-clause-left
returns-clause-left c =
    left-optimized c.args.dialect (setting_of (flags_in_force c.args.dialect c.args.flags) c.args.tables.now) c.args.pattern.now _ _ c.optimize_parsed.ensures c.try_parse_in.ensures.only
    c.try_parse_in.ensures.accepted

pub returns-clause-meaning : goal.returns-clause-meaning
returns-clause-meaning c =
    meaning-optimized c.args.dialect (setting_of (flags_in_force c.args.dialect c.args.flags) c.args.tables.now) c.args.pattern.now _ _ c.optimize_parsed.ensures c.try_parse_in.ensures.meaning

pub returns-clause-goal : goal.returns-clause-goal
returns-clause-goal c =
    goal-optimized c.args.dialect (setting_of (flags_in_force c.args.dialect c.args.flags) c.args.tables.now) c.args.pattern.now _ _ c.optimize_parsed.ensures c.try_parse_in.ensures.accepted

pub returns-clause-captures : goal.returns-clause-captures
returns-clause-captures c =
    captures-optimized c.args.dialect (setting_of (flags_in_force c.args.dialect c.args.flags) c.args.tables.now) c.args.pattern.now _ _ c.optimize_parsed.ensures c.try_parse_in.ensures.only
    c.try_parse_in.ensures.accepted

pub returns-clause-units : goal.returns-clause-units
returns-clause-units c =
    units-optimized c.args.dialect (setting_of (flags_in_force c.args.dialect c.args.flags) c.args.tables.now) c.args.pattern.now _ _ c.optimize_parsed.ensures c.try_parse_in.ensures.only
    c.try_parse_in.ensures.accepted
