mod Common
pub mod Bodies
pub mod LawsOfFaults
pub mod Passage
pub mod Reducing
pub mod Examples
pub mod ReducingExamples
pub mod Laws
pub mod FieldLaws
