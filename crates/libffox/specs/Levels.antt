-- For contracts of one's own: the levels of a lattice, and which are at or below which.
pub use Rattle.ff_lattice.specs.Order.{Order, size, leq, name}
