pub mod CheckReplies
