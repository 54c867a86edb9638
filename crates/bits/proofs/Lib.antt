pub mod BitLaws
pub mod RowLaws
pub mod PartLaws
mod PaintLaws
