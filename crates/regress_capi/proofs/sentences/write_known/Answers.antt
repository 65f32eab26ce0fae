use Rattle.regress_capi.specs.SentenceResults.{sentence_given, sentence_out_of_memory}
use Rattle.regress_capi.specs.TextResults.{text_bad}
use Rattle.regress_capi.proofs.TextLemmas.{text-written}
use Rattle.regress_capi.proofs.sentences.write_known.Goals as goal

pub returns-in-Ok-sentence : goal.returns-in-Ok-sentence
returns-in-Ok-sentence c = record {
  status = sentence_given (text-written (c.requires, c.in-Ok.ensures.cases.1) tt c.give_terminated.ensures);
}

pub returns-in-Err-sentence : goal.returns-in-Err-sentence
returns-in-Err-sentence c = record { status = sentence_out_of_memory c.requires c.in-Ok.ensures.cases.1 }

pub returns-in-Err : goal.returns-in-Err
returns-in-Err c = record { status = sentence_given (text_bad (λ asked. c.in-Err.ensures.cases.0 asked.1)) }
