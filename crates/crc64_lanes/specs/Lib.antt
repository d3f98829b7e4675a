-- Four registers side by side: what they stand for. The public functions promise what those of crc64_fast do.
pub mod Stages
