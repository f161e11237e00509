pub mod OfTwoQ
