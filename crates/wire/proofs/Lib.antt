-- Laws of types and kinds, of the layout, of refusals and their numbers, and one result for each statement.
pub mod TypeLaws
pub mod KindLaws
pub mod LayoutLaws
pub mod PaperLaws
pub mod NeedLaws
pub mod Unique
