-- What the keys of a batch have in the store.
pub use Rattle.wp_history_laws.proofs.Prior.{prior_more, prior_is_not_full}
