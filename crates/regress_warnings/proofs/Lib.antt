mod StepLemmas
mod MarkLemmas
mod BelowLemmas
mod WithinLemmas
mod MemberLemmas
