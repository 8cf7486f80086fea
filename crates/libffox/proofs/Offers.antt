-- What each level sees of an input fits a pool of as many levels.
pub use Rattle.ff_travel.proofs.Carrying.{offers_fit}
