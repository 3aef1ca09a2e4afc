mod Common
mod Depths
pub mod ScalarReads
pub mod Views
pub mod Slots
pub mod Stored
pub mod Merging
pub mod NestedFaults
pub mod NestedReads
pub mod MapEntries
pub mod MapMerging
pub mod MapRows
mod NestedMapWrites
pub mod ContentChanges
pub mod KeptSlots
pub mod ScalarRefs
pub mod WrittenValues
pub mod NestedWrites
pub mod WrittenMaps
pub mod ElementReads
pub mod NestedMaps
pub mod ElementWrites
pub mod Encodings
pub mod Encodables
pub mod PresentNumbers
pub mod Defaults
pub mod Keys
pub mod Valid
pub mod Copied
pub mod CopiedPairs
pub mod StoredViews
pub mod StoredContents
mod DeepTypes
mod TypedSteps
mod TypedValues
mod ListElements
mod ListMerging
mod NumberMerging
mod PartedNumbers
mod WrittenLists
pub mod Had
pub mod Shown
pub mod OwnFields
mod OwnExtensions
pub mod FieldDefaults
pub mod OwnDefaults
mod ValueLists
mod PresentWalks
mod TakenValues
pub mod ListedNumbers
pub mod LentWriting
pub mod UnknownLists
pub mod OwnRows
pub mod Paths
mod SetPaths
pub mod Removals
mod Edits
mod Parts
mod DefaultParts
mod LentMessages
mod LentPaths
pub mod KindDefaults
pub mod ReadBack
mod MergedPieces
mod MergedBytes
mod JoinedContents
mod MessageParts
mod PartCopies
