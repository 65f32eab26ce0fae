mod CountLemmas
mod DecodedLemmas
mod OrderLemmas
