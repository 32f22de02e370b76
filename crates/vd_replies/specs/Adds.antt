-- What is appended to a text.
pub use Rattle.vd_digits.specs.Adds.{Adds, HasRoom}
