pub mod Below
pub mod Inside
