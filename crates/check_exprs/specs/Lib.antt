pub mod ViewTyped
