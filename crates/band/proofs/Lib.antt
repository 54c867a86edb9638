mod Pages
mod Painting
