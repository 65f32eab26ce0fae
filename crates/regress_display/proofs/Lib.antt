mod FaultLemmas
mod LocationLemmas
mod ShownLemmas
