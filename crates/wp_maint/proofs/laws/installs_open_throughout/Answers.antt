use Rattle.wp_maint.proofs.Throughout.{opens_from}
use Rattle.wp_maint.proofs.laws.installs_open_throughout.Goals as goal

pub returns : goal.returns
returns c seen old new next k running s covers same = opens_from seen old new next k running s covers same
