-- The worked examples hold.
pub mod Computed
pub mod ComputedDeeper
pub mod ComputedContents
pub mod ComputedReductions
pub mod NotReduced
pub mod Faults
pub mod Passages
pub mod Instances
pub mod ReadBack
pub mod PremisesOfPassage
pub mod NearbyReading
pub mod NearbyMeaning
pub mod NearbyTyping
pub mod NearbyBack
pub mod NearbyFaults
pub mod NearbyPassage
