pub mod Keys
pub mod Left
pub mod Journal
pub mod Headers
