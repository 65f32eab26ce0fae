use Rattle.regress_capi.specs.SentenceResults.{sentence_given}
use Rattle.regress_capi.specs.TextResults.{text_bad}
use Rattle.regress_capi.proofs.sentences.write_sentence.Goals as goal

pub returns-in-None : goal.returns-in-None
returns-in-None c = record { status = sentence_given (text_bad (λ asked. c.in-None.ensures asked.0)) }
