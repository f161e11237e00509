-- What the functions answer.
pub use Rattle.cells.specs.Told.{Gives, GivesOf}
pub use Rattle.links.specs.Told.{Shorter, Copied}
pub use Rattle.index.specs.Told.{look_in, lookup, Answers}
pub use Rattle.index.specs.declared.Found.{Found}
