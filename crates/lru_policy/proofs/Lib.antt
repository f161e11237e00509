pub mod OfLru
