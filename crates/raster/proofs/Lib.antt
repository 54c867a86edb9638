pub mod BandLaws
mod CrossLaws
mod EdgeLaws
mod LevelLaws
mod Moving
pub mod Painting
mod Rings
mod WithinLaws
