pub mod Origins
pub mod Transcripts
pub mod Rows
