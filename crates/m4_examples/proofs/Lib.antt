mod SolvedLemmas
