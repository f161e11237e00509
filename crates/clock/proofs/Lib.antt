pub mod OfClock
