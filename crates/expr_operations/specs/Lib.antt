pub mod ViewOperations
