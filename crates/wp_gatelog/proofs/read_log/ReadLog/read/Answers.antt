use Rattle.std.proofs.Common.{refl}
use Rattle.wp_gatelog.specs.Opening.{IsFound}
use Rattle.wp_gatelog.specs.Opens.{IsFoundLog, found_stamp}
use Rattle.wp_gatelog.specs.Spelling.{stamped}
use Rattle.wp_gatelog.proofs.MomentLemmas.{known_map}
use Rattle.wp_gatelog.proofs.OpenLemmas.{durable_synced}
use Rattle.wp_gatelog.proofs.read_log.ReadLog.read.Goals as goal

pub returns-in-Ok-clause-read : goal.returns-in-Ok-clause-read
returns-in-Ok-clause-read g c =
    let asked = stamped c.args.newest c.args.id in
    let log = c.in-Ok.log in
    record {
      placed = refl;
      kind = refl;
      synced = c.in-Ok.ensures.synced;
      found = known_map (λ m. IsFoundLog c.args.place c.args.magic asked m.reads log) (λ m. IsFound c.args.place c.args.magic asked m.reads (found_stamp log) log.found.records.items) (λ m f. f.found) _ c.in-Ok.ensures.found;
      readable = c.in-Ok.ensures.readable;
      durable = durable_synced c.args.place c.args.magic _ _ (g.met.D.Peek.itself c.args.disk) c.in-Ok.ensures.synced;
    }
