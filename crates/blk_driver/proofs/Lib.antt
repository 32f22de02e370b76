pub mod Taking
pub mod Numbers
pub mod Unmapping
pub mod Copying
pub mod Tables
pub mod Fronts
pub mod Parts
