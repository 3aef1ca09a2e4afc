mod Common
pub mod BodyFronts
pub mod Places
pub mod KindsTaken
pub mod NoFault
pub mod NoFaultInside
pub mod FaultLaws
pub mod FrontOrFault
pub mod KindsAllowed
pub mod BodyOrFault
pub mod FieldOrFault
pub mod SpelledValid
mod Accepted
mod Commuting
pub mod Rebuilt
pub mod Back
mod Examples
mod Lists
pub mod Order
pub mod Spelt
pub mod Checked
pub mod FieldTypes
mod Valid
mod Packed
mod Maps
pub mod Means
mod Canonical
pub mod Allowed
pub mod RoundTrip
pub mod Pieces
mod Declared
pub mod EntryDefaults
pub mod Arranged
pub mod Slotwise
pub mod StoredSteps
pub mod StoredPasses
pub mod Readings
pub mod ScalarFaults
pub mod RecordReads
pub mod StoredTyped
pub mod Everywhere
pub mod WrittenEntries
pub mod Alike
pub mod Matches
mod Fellows
pub mod Older
pub mod ByNumber
mod Inside
mod Again
mod SingleAgain
mod ListAgain
mod Putting
mod EntryAgain
mod MapAgain
mod FieldAgain
mod SameSurvivors
mod WrittenSlots
pub mod Relaying
pub mod Passing
pub mod SetSlots
mod ValueCarried
pub mod ListSteps
pub mod ListReads
pub mod ListWritten
pub mod PathLike
pub mod Editing
pub mod PassageLaws
pub mod Refining
mod WorkedReductions
pub mod Kept
pub mod Slots
pub mod Setting
pub mod StoredSound
pub mod Progressing
pub mod Holding
pub mod JoinedSteps
pub mod MessageSteps
pub mod MapSteps
pub mod EntryReads
pub mod ScalarEntries
pub mod MapWritten
pub mod ElementSteps
pub mod NestedEntries
pub mod Readable
mod StraysStay
mod GoodValues
pub mod GoodSteps
pub mod NormalForms
pub mod StepsFree
pub mod Eased
pub mod PackedNumbers
pub mod PackedElements
pub mod NumberSteps
pub mod Values
pub mod Table
