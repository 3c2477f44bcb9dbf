mod CleanLemmas
mod CutLemmas
mod ServedLemmas
mod UrlLemmas
