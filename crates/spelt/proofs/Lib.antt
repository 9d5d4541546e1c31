pub mod Spelt
pub mod RoleFits
