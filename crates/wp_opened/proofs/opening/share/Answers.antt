use Rattle.std.proofs.Common.{refl, ap, ◌∙◌}
use Rattle.wp_history.specs.History.{RoomyHistory}
use Rattle.wp_parts.specs.Parts.{log_first, set_first}
use Rattle.wp_opened.proofs.OpeningLemmas.{has_cut}
use Rattle.wp_opened.proofs.Opened.{one_store, segment_named, log_there, set_there, last_edit_is, last_guarded, first_guarded, devices_back}
use Rattle.wp_opened.proofs.opening.share.Goals as goal

pub new-requires-clause-founds : goal.new-requires-clause-founds
new-requires-clause-founds g c cells some = rw c.of-history.ensures (c.in-Ok.ensures.founds c.args.client cells c.delayed_flag-flag.result some c.delayed_flag-flag.ensures)

pub new-requires-clause-store : goal.new-requires-clause-store
new-requires-clause-store g c = let o = c.requires.opened in let f = c.in-Ok.ensures.slots in
    one_store _ _ c.in-Ok.slots.items _ _ _ (ap (λ (h : RoomyHistory). h.entries) c.of-history.ensures) (log_there _ _ _ _ _ f) (set_there _ _ _ _ _ f) (last_edit_is _ _ _ _ _ f _ refl) o.4.one_id o.4.id_fits (segment_named _ _ _ _ _ _ _ _ _ o.4) (has_cut _ _ _ _ _ _ _ _ _ o.4)

pub out_of-requires : goal.out_of-requires
out_of-requires g c = last_guarded _ _ _ _ _ c.in-Ok.ensures.slots c.in-Err-new.slots.items c.in-Err-new.ensures.refused c.remove.result c.remove.ensures.value

pub out_of-requires-in-Err-new : goal.out_of-requires-in-Err-new
out_of-requires-in-Err-new g c =
    first_guarded _ _ _ _ _ c.in-Ok.ensures.slots c.in-Err-new.slots.items c.in-Err-new.ensures.refused c.remove.new.self.items c.remove-in-Err-new.result c.remove.ensures.items c.remove-in-Err-new.ensures.value

pub returns-in-Ok-new-clause-parts : goal.returns-in-Ok-new-clause-parts
returns-in-Ok-new-clause-parts g c =
    let first = c.in-Ok-new.ensures.first in
    let filled = c.in-Ok.ensures.slots in
    record {
      log_is = ap log_first first ∙ log_there _ _ _ _ _ filled;
      set_is = ap set_first first ∙ set_there _ _ _ _ _ filled;
      last_is = last_edit_is _ _ _ _ _ filled _ first;
    }

pub returns-in-Err-new-clause-refused : goal.returns-in-Err-new-clause-refused
returns-in-Err-new-clause-refused g c =
    devices_back _ _ _ _ _ c.in-Ok.ensures.slots c.in-Err-new.slots.items c.in-Err-new.ensures.refused c.remove.new.self.items c.remove.result c.remove-in-Err-new.result c.out_of.result c.out_of-in-Err-new.result
    c.into_inner-log.result c.into_inner-tables.result _ c.remove.ensures.value c.out_of.ensures.exact c.remove.ensures.items c.remove-in-Err-new.ensures.value c.out_of-in-Err-new.ensures.exact c.into_inner-log.ensures c.into_inner-tables.ensures
    c.take_apart.ensures.disks
