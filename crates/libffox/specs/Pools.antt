-- For contracts of one's own: how many levels a pool has.
pub use Rattle.ff_pool.specs.Pooled.{Pooled, size}
