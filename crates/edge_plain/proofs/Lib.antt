pub mod RowLaws
pub mod RangeLaws
pub mod KeptLaws
pub mod CountLaws
pub mod EndLaws
