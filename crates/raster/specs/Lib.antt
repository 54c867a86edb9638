pub mod Band
pub mod Canvas
pub mod Coverage
pub mod Laws
pub mod Levels
pub mod Thing
