mod HandleLemmas
