-- The promises of a rowset's text, proved.
pub mod Refusals
pub mod Tables
pub mod Within
pub mod Filled
pub mod Written
pub mod Texts
