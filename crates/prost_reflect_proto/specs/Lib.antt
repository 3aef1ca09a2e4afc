pub mod DescriptorSound
pub mod DescriptorWriting
pub mod DescriptorReading
pub mod DescriptorExamples
