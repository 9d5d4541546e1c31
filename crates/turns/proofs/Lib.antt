pub mod StackLaws
pub mod TurnLaws
