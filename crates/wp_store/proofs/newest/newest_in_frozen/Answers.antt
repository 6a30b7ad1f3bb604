use Rattle.std.proofs.Common.{◌≡◌, List, take, sym, ap, subst, ◌∙◌}
use Rattle.std.proofs.lemmas.Result.{IfOk-weaker}
use Rattle.wp_model.specs.declared.version.Version.{Version}
use Rattle.wp_model.specs.Versions.{AreInOrder}
use Rattle.wp_memtable.specs.Memtable.{under}
use Rattle.wp_store.specs.Store.{newest_of}
use Rattle.wp_store.proofs.NewestOfKey.{in_order-of_key}
use Rattle.wp_store.proofs.Taken.{under-numbered}
use Rattle.wp_store.proofs.newest.newest_in_frozen.Goals as goal

pub copied-requires : goal.copied-requires
copied-requires c =
    let key = c.args.key.now in
    subst AreInOrder (sym (ap (under key) c.versions.ensures.found ∙ under-numbered key c.args.part.now)) (in_order-of_key key c.args.part.now c.versions.ensures.in_order)

pub returns-clause-newest : goal.returns-clause-newest
returns-clause-newest c =
    let key = c.args.key.now in
    IfOk-weaker c.copied.result _ (λ (versions : List Version). versions ≡ newest_of c.args.n key c.args.part.now)
    (λ versions is. is ∙ ap (take c.args.n) (ap (under key) c.versions.ensures.found ∙ under-numbered key c.args.part.now)) c.copied.ensures
