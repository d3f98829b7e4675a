-- Rows as tab-separated text: the form, the bytes that fit, the limits as met.
pub mod Form
pub mod Walk
pub mod Limits
