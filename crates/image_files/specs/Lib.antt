pub mod FileStates
