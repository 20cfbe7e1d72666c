pub mod ViewCalls
