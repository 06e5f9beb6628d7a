mod PolicyLemmas
