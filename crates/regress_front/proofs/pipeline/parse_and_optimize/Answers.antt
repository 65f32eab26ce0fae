use Rattle.regress_syntax.specs.Meaning.{setting_of}
use Rattle.regress_lexer.specs.declared.dialect.Dialect.TheVariants.{Regress}
use Rattle.regress_front.proofs.OptimizedLemmas.{accepted-optimized, left-optimized, meaning-optimized, goal-optimized, captures-optimized, units-optimized}
use Rattle.regress_front.proofs.pipeline.parse_and_optimize.Goals as goal

pub returns-clause-left : goal.returns-clause-left
returns-clause-left c =
    left-optimized Regress (setting_of c.args.flags c.args.tables.now) c.args.pattern.now _ _ c.optimize_parsed.ensures c.try_parse.ensures.only
    c.try_parse.ensures.accepted

pub returns-clause-meaning : goal.returns-clause-meaning
returns-clause-meaning c =
    meaning-optimized Regress (setting_of c.args.flags c.args.tables.now) c.args.pattern.now _ _ c.optimize_parsed.ensures c.try_parse.ensures.meaning

pub returns-clause-goal : goal.returns-clause-goal
returns-clause-goal c =
    goal-optimized Regress (setting_of c.args.flags c.args.tables.now) c.args.pattern.now _ _ c.optimize_parsed.ensures c.try_parse.ensures.accepted

pub returns-clause-captures : goal.returns-clause-captures
returns-clause-captures c =
    captures-optimized Regress (setting_of c.args.flags c.args.tables.now) c.args.pattern.now _ _ c.optimize_parsed.ensures c.try_parse.ensures.only
    c.try_parse.ensures.accepted

pub returns-clause-units : goal.returns-clause-units
returns-clause-units c =
    units-optimized Regress (setting_of c.args.flags c.args.tables.now) c.args.pattern.now _ _ c.optimize_parsed.ensures c.try_parse.ensures.only
    c.try_parse.ensures.accepted
