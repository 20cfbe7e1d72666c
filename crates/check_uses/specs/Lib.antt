pub mod View
pub mod Uses
pub mod Known
pub mod Search
pub mod InTime
