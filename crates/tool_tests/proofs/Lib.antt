pub mod FailingReads
