pub mod ResolverScope
pub mod Resolved
pub mod Exprs
pub mod Parts
pub mod Seen
pub mod Scales
