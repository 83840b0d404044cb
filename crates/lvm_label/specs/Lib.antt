pub mod Label
pub mod Ring
pub mod Text
pub mod inside
