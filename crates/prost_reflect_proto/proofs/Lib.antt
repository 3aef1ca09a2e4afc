mod Common
pub mod FieldBytes
pub mod RecordBytes
pub mod SoundFields
pub mod SoundRecords
pub mod DescriptorRows
pub mod FieldsFound
pub mod DescriptorKinds
pub mod DescriptorNumbers
pub mod DescriptorContents
pub mod DescriptorFaults
pub mod NestedRecords
mod ComputedDescriptors
