pub mod Choices
pub mod Fronts
pub mod Indexes
pub mod MostSpecific
pub mod Messages
pub mod Numbers
pub mod Contexts
pub mod Texts
