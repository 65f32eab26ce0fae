-- The first entry alone maps code points to the target, or the groups whose bits are set and the entries without bits.
use Rattle.regress_unicode.proofs.SourceIndexLemmas.{lists-none}
use Rattle.regress_unicode.proofs.unfold.push_sources.Goals as goal

pub push_sources_in-requires-clause-before : goal.push_sources_in-requires-clause-before
push_sources_in-requires-clause-before c = lists-none _ c.args.mappings.now c.args.target c.requires.empty
