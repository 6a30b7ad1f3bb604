use Rattle.std.proofs.Common.{rules}
use Rattle.wp_gatelog.proofs.HeadLemmas.{identity_written}
use Rattle.wp_gatelog.proofs.head.head_bytes.Goals as goal

pub returns : goal.returns
returns c = identity_written c.args.magic c.to_be_bytes.result c.args.format c.args.id c.byte.result (search rules) c.to_be_bytes.ensures c.byte.ensures
