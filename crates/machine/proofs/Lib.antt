mod Beginning
mod ClipLaws
pub mod Ending
mod KeepLaws
mod Looking
mod NameLaws
mod Running
pub mod Showing
pub mod Staged
