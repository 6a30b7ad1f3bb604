use Rattle.wp_keep.specs.Keep.{is_committed}
use Rattle.wp_keep.proofs.Covers.{covers}
use Rattle.wp_keep.proofs.laws.keep_covers.Goals as goal

pub returns : goal.returns
returns c = λ history newer versions committed snapshots numbers floor from legal le go. covers (is_committed committed) history newer versions snapshots floor go numbers from legal le
