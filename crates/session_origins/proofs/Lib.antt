pub mod SessionHistories
