mod TellingLemmas
mod ListingLemmas
mod ServingLemmas
mod PlaceLemmas
mod PairLemmas
