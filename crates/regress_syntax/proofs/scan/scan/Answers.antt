use Rattle.regress_unicode.specs.TableOf.{table_of}
use Rattle.regress_syntax.proofs.lemmas.Scan.{gives_tokens}
use Rattle.regress_syntax.proofs.scan.scan.Goals as goal

pub returns-in_err-groups-clause-whole : goal.returns-in_err-groups-clause-whole
returns-in_err-groups-clause-whole c = gives_tokens c.args.sets (table_of c.args.tables.now) c.args.pattern.now c.args.tables.now.sound.lawful

pub returns-clause-whole : goal.returns-clause-whole
returns-clause-whole c = gives_tokens c.args.sets (table_of c.args.tables.now) c.args.pattern.now c.args.tables.now.sound.lawful
