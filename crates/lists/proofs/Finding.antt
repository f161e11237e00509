-- What an answer of `find` says.
pub use Rattle.index.proofs.Finding.{FoundAt, found_at, FoundNone, found_none}
