-- What those who count with a quantity need: it is widened, and stands as it is. Assumes nothing.
pub use Rattle.limits.proofs.Casts.{casts, widened, widens, widened16, widens16}
