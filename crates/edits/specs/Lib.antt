-- What an edit, and the edits of a job one after another, do to the code's complex and to the marks of A.
pub mod Meaning
