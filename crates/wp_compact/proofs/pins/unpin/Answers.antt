use Rattle.std.proofs.Common.{[], ◌∷◌, ◌++◌, append_assoc, sym, subst, ap, ◌∙◌}
use Rattle.wp_core.specs.Lists.{IsIn}
use Rattle.wp_core.specs.World.{Participant}
use Rattle.wp_compact.proofs.Pinning.{in_middle, released_last}
use Rattle.wp_compact.proofs.pins.unpin.Goals as goal

pub release_each-requires-clause-last : goal.release_each-requires-clause-last
release_each-requires-clause-last g c = let l = c.requires.last in (l.0 ++ c.args.pinned.floor ∷ [], l.1 ∙ sym (append_assoc l.0 (c.args.pinned.floor ∷ []) c.args.pinned.live.items))

pub release-requires-clause-free : goal.release-requires-clause-free
release-requires-clause-free g c =
    let l = c.requires.last in let floor = c.args.pinned.floor in
    (c.release_each.ensures (l.0 ++ floor ∷ []) (l.1 ∙ sym (append_assoc l.0 (floor ∷ []) c.args.pinned.live.items))).free

pub release-requires-clause-registered : goal.release-requires-clause-registered
release-requires-clause-registered g c =
    let l = c.requires.last in let floor = c.args.pinned.floor in
    let k = c.release_each.ensures (l.0 ++ floor ∷ []) (l.1 ∙ sym (append_assoc l.0 (floor ∷ []) c.args.pinned.live.items)) in
    subst (IsIn floor) (sym (ap (λ (p : Participant). p.registered) k.participant)) (in_middle floor l.0 [])

pub returns : goal.returns
returns g c front is =
    released_last c.args.store.now c.args.seat.now c.release_each.new.seat c.release.new.seat front c.args.pinned.floor c.args.seat.now.knows.participant
    (c.release_each.ensures (front ++ c.args.pinned.floor ∷ []) (is ∙ sym (append_assoc front (c.args.pinned.floor ∷ []) c.args.pinned.live.items))) (let k = c.release.ensures in (k.0, k.1, k.2, k.3, k.4))
