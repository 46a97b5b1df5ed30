pub mod PlacesLemmas
pub mod BitsLemmas
