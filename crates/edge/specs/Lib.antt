pub mod Attachment
