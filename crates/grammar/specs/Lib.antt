pub mod Tokens
pub mod Grammar
pub mod Parse
pub mod Roles
pub mod Files
pub mod Faults
pub mod Read
pub mod AllTexts
