pub mod StartReplies
pub mod Initial
