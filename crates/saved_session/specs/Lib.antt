pub mod Codes
pub mod TakenUp
pub mod TakeFaults
pub mod GoneFurther
