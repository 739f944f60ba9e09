pub mod GivenLemmas
pub mod HelpLemmas
pub mod LineLemmas
pub mod RefusalLemmas
