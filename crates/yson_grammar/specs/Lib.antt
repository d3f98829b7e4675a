-- What YSON's binary form is: its grammar, the items of its outer map, and the place where an input fails.
pub mod Grammar
pub mod Items
pub mod Place
pub mod Stages
