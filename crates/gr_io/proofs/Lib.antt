mod CallLemmas
mod CopyLemmas
mod EndLemmas
