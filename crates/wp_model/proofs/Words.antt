-- Words that the order of keys takes for equal are one.
use Rattle.std.proofs.Common.{◌≡◌, ℕ, true, List}
use Rattle.std.specs.Cmp.{Equal-is}
use Rattle.std.specs.Ordering.{eq_by_cmp}
use Rattle.std.proofs.lemmas.Map.Lookups.{exact_bytes}
use Rattle.wp_model.specs.Batch.{key_cmp}

pub same_word : (a b : List ℕ) → eq_by_cmp key_cmp a b ≡ true → a ≡ b
same_word a b h = exact_bytes a b ((Equal-is _).0 h)
