use Rattle.std.specs.Prelude.{chars}
use Rattle.regress.specs.Letters.{flags_of}
use Rattle.regress.specs.Unicode.{unicode_setting}
use Rattle.regress.proofs.ValidLemmas.{code_points_of_text, rejected_past_limits, v_sets_u}
use Rattle.regress.proofs.ecma.compiles_what_ecma_accepts.Goals as goal

pub returns-clause-accepted : goal.returns-clause-accepted
returns-clause-accepted c letters text are utf8 r compiled =
    let tree = compiled.from.tree in
    let theorem = c.accepts_patterns_of_ecma.ensures in
    let found =
    theorem.accepted (unicode_setting (flags_of letters)) (v_sets_u letters) theorem.properties (chars text) (code_points_of_text text utf8)
    tree.pattern tree.accepted.derived tree.accepted.names in
    (found.0, record { flags = are; derived = found.1 }, found.3)

pub returns-clause-rejected : goal.returns-clause-rejected
returns-clause-rejected c letters text utf8 error due is d valid within =
    let theorem = c.accepts_patterns_of_ecma.ensures in
    let found =
    theorem.derived (unicode_setting (flags_of letters)) (v_sets_u letters) theorem.identifiers (chars text) (code_points_of_text text utf8)
    d valid.parsed.derived valid.correct within in
    rejected_past_limits letters (chars text) error due is d valid (found.0, found.1, found.2)
