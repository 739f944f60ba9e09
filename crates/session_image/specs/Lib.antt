pub mod Written
pub mod Gathering
