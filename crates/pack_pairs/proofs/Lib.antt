-- Laws of first uses, of the list of pairs, and that packing by either comes to the same.
pub mod UseLaws
pub mod PairLaws
pub mod RoomLaws
pub mod PackingLaws
pub mod RuleLaws
