pub mod Tables
pub mod NumberDigits
pub mod ReadDigits
pub mod FewDigits
