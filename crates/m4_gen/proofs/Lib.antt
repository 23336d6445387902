mod FillLemmas
mod GeneratedLemmas
mod MaskLemmas
mod WordLemmas
