pub mod KeyLemmas
pub mod LinkLemmas
pub mod OrderLemmas
pub mod PairLemmas
pub mod PrefixLemmas
pub mod SearchLemmas
