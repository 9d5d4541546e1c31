pub mod RunReplies
