-- Examples of what `combine` gives.
pub mod Examples
