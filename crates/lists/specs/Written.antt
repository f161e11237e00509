-- The words that the functions leave.
pub use Rattle.fresh.specs.Written.{Fits, fresh_words}
