pub mod SilentReplies
