pub mod OneByte
pub mod Text
pub mod Layouts
pub mod Same
