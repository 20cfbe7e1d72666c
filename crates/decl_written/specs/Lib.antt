pub mod ViewWritten
