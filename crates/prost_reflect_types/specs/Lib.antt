pub mod DescriptorTable
pub mod DescriptorMeaning
pub mod DescriptorViews
