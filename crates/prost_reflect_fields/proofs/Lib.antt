mod Common
pub mod SlotChanges
pub mod Siblings
pub mod SoundChanges
pub mod ValuesAlone
mod SlotsParted
mod OneofPlaces
mod MembersCleared
mod PresentSiblings
mod OnlyMembers
mod NotedMembers
mod AllNoted
pub mod Replaced
mod WholeOneofs
