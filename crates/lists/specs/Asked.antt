-- What the functions ask of a directory.
pub use Rattle.cells.specs.Asked.{Within}
pub use Rattle.links.specs.Asked.{OnList, OffList}
pub use Rattle.index.specs.Asked.{Bare, Hung}
pub use Rattle.entries.specs.Asked.{Fresh, Admits, Placed, Kept}
