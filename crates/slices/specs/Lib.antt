pub mod Put
pub mod Zero
pub mod Bits
