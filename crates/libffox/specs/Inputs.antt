-- For contracts of one's own: inputs of the levels of a lattice, and what is offered of them.
pub use Rattle.ff_trace.specs.Lines.{IsInputOf}
pub use Rattle.ff_confinement.specs.Worlds.{AreOffers}
pub use Rattle.ff_value.specs.Spelled.{IsWellSpelledInput}
