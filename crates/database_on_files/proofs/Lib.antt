-- What calls on a file leave of lent working memory (Memory).
pub mod Memory
