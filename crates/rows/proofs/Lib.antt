pub mod Expressions
pub mod NodeRows
pub mod Lacking
pub mod Declared
pub mod Methods
pub mod Whole
pub mod Zipped
