-- What a browser keeps, passed on to what stands on pools alone.
pub use Rattle.ff_reactor.proofs.Keeping
