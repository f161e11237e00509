pub mod OfSegmented
