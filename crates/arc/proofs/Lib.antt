pub mod OfArc
