pub mod Passing
pub mod DaemonLines
pub mod BusLines
pub mod NodeLines
pub mod DeviceLines
