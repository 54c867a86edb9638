pub mod Canvas
