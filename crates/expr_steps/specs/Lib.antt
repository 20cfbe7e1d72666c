pub mod ViewCalls
pub mod ViewTyping
pub mod ViewChoices
pub mod ViewEndings
pub mod ViewDemands
