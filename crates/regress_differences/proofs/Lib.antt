mod CaseLemmas
mod InEcmaLemmas
mod PartLemmas
mod ReportLemmas
mod TextLemmas
