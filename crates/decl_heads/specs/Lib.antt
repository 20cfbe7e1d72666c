pub mod ViewHeads
